use Rattle.std.proofs.Common.{map, arith}
use Rattle.std.proofs.lemmas.List.{length-map}
use Rattle.ir_base_arenas.specs.ArenaSound.{slot_shown, held}
use Rattle.ir_base_arenas.proofs.ArenaChain.{laid-room, laid-whole}
use Rattle.ir_base_arenas.proofs.arena.Arena.room.Goals as goal

pub returns-clause-value : goal.returns-clause-value
returns-clause-value g c =
    let left = laid-room c.self.inside.removals.count c.self.invariant in
    let within = (laid-whole c.self.inside.removals.count c.self.invariant).within in
    let counted = c.self.inside.slots.ok.0 in
    rw (← c.self.view_is) (omega (arith, length-map c.self.inside.slots.items held, length-map (map held c.self.inside.slots.items) slot_shown))
