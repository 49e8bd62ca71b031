use Rattle.std.proofs.Common.{◌≡◌, ◌-◌, length}
use Rattle.ir_base_arenas.proofs.ArenaCleared.{IsEmptiedFrom}
use Rattle.ir_base_arenas.proofs.arena.Arena.clear.Given as goal

abbrev pub invariant-loop-done : goal.invariant-loop-done
invariant-loop-done g l = record {
  count : l.count ≡ length l.initial.self.slots;
  emptied : IsEmptiedFrom (l.count - l.done) l.initial.self l.self;
}
