use Rattle.std.proofs.Common.{◌≡◌, ◌++◌, length, take}
use Rattle.ir_base_arenas.proofs.plain_seq.PlainSeq.extend.Given as goal

abbrev pub invariant-loop-item : goal.invariant-loop-item
invariant-loop-item g l = (l.self ≡ l.initial.self ++ take l.item-index l.items) × (l.old ≡ length l.initial.self)
