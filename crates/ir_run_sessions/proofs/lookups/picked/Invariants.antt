use Rattle.std.proofs.Common.{◌≡◌, length, take, vec_len, vec_capacity}
use Rattle.ir_model.specs.Edits.{these}
use Rattle.ir_run_sessions.proofs.lookups.picked.Given as goal

abbrev pub invariant-loop-number : goal.invariant-loop-number
invariant-loop-number g l = (l.found.items ≡ these l.table (take l.number-index l.numbers)) × (vec_len l.found ≡ l.number-index) × (vec_capacity l.found ≡ length l.numbers)
