use Rattle.std.proofs.Common.{◌≡◌, take, vec_capacity}
use Rattle.ir_base_arenas.proofs.plain_seq.copied_out.Given as goal

abbrev pub invariant-loop-item : goal.invariant-loop-item
invariant-loop-item g l = (l.vec.items ≡ take l.item-index l.items) × (vec_capacity l.vec ≡ l.room)
