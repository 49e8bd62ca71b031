use Rattle.std.proofs.Common.{◌≡◌, ℕ, ◌<◌}
use Rattle.std.specs.Prelude.{slice_get}
use Rattle.ir_model_passes.specs.Meaning.{result_types}
use Rattle.ir_core_records.specs.Meaning.{op_record}
use Rattle.ir_run_passes.proofs.alike.same_types.Given as goal

-- they are the same so far
abbrev pub invariant-loop-index : goal.invariant-loop-index
invariant-loop-index g l = (k : ℕ) → k < l.index → slice_get (result_types (op_record l.one)) k ≡ slice_get (result_types (op_record l.other)) k
