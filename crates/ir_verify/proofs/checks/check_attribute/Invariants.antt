use Rattle.ir_verify.specs.Shown.{shown}
use Rattle.ir_verify.specs.Told.{MayPass}
use Rattle.ir_verify.proofs.Loops.{Before}
use Rattle.ir_verify.proofs.checks.check_attribute.Given as goal

abbrev pub invariant-loop-number : goal.invariant-loop-number
invariant-loop-number g l = Before (λ n. MayPass ((g.V.Verifiers.handed_in l.verifiers).attr_interface n) l.attr (shown l.ctx)) l.number-items l.number-index
