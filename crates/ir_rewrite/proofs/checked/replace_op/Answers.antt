use Rattle.std.proofs.Common.{◌≡◌, Err, ap, rules}
use Rattle.ir_checked_core.specs.declared.error.CheckedErr.TheVariants.{Core}
use Rattle.ir_rewrite.proofs.Passed.{passed_on}
use Rattle.ir_rewrite.proofs.checked.replace_op.Goals as goal

pub returns-in_err-check_replace-clause-memory : goal.returns-in_err-check_replace-clause-memory
returns-in_err-check_replace-clause-memory g c =
    let is : c.from_residual.result ≡ Err c.in_err-check_replace.field-0.0 = search rules in
    passed_on (Unit {0}) c.in_err-check_replace.field-0.0 c.from_residual.result is c.in_err-check_replace.ensures.told

pub returns-in-Err-clause-memory : goal.returns-in-Err-clause-memory
returns-in-Err-clause-memory g c = ap (λ x. Core x) c.in-Err.ensures.memory
