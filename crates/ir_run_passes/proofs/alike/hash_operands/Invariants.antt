use Rattle.std.proofs.Common.{◌≡◌, fold, map, take}
use Rattle.ir_model_passes.specs.Meaning.{named_values}
use Rattle.ir_core_records.specs.Meaning.{op_record}
use Rattle.ir_run_passes.specs.AlikeHash.{fed_number}
use Rattle.ir_run_passes.proofs.alike.hash_operands.Given as goal

-- so many were fed
abbrev pub invariant-loop-index : goal.invariant-loop-index
invariant-loop-index g l = l.state ≡ fold fed_number l.fn.state (take l.index (map (λ v. v.number) (named_values (op_record l.operation))))
