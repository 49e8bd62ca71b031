use Rattle.std.proofs.Common.{◌≡◌, ℕ, ◌<◌}
use Rattle.std.specs.Prelude.{slice_get}
use Rattle.ir_model_passes.specs.Meaning.{named_values}
use Rattle.ir_core_records.specs.Meaning.{op_record}
use Rattle.ir_run_passes.proofs.alike.same_operands.Given as goal

-- they are the same so far
abbrev pub invariant-loop-index : goal.invariant-loop-index
invariant-loop-index g l = (k : ℕ) → k < l.index → slice_get (named_values (op_record l.one)) k ≡ slice_get (named_values (op_record l.other)) k
