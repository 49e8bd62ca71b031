use Rattle.ir_verify.specs.Shown.{shown}
use Rattle.ir_verify.specs.Told.{MayPass}
use Rattle.ir_verify.proofs.Loops.{Before}
use Rattle.ir_verify.proofs.checks.check_type.Given as goal

abbrev pub invariant-loop-number : goal.invariant-loop-number
invariant-loop-number g l = Before (λ n. MayPass ((g.V.Verifiers.handed_in l.verifiers).type_interface n) l.key (shown l.ctx)) l.number-items l.number-index
