use Rattle.std.proofs.Common.{◌≡◌, fold, take}
use Rattle.ir_model_passes.specs.Meaning.{result_types}
use Rattle.ir_core_records.specs.Meaning.{op_record}
use Rattle.ir_run_passes.specs.AlikeHash.{fed_number}
use Rattle.ir_run_passes.proofs.alike.hash_types.Given as goal

-- so many were fed
abbrev pub invariant-loop-index : goal.invariant-loop-index
invariant-loop-index g l = l.state ≡ fold fed_number l.fn.state (take l.index (result_types (op_record l.operation)))
