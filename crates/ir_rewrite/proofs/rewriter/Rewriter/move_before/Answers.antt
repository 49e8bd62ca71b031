use Rattle.std.proofs.Common.{◌≡◌, Err, rules}
use Rattle.ir_checked_core.specs.Answers.{out_of_memory}
use Rattle.ir_rewrite.proofs.Passed.{made_lacked, on_err, passed_on}
use Rattle.ir_rewrite.proofs.rewriter.Rewriter.move_before.Goals as goal

pub returns-in_err-check_move-clause-memory : goal.returns-in_err-check_move-clause-memory
returns-in_err-check_move-clause-memory g c =
    let is : c.from_residual.result ≡ Err c.in_err-check_move.field-0.0 = search rules in
    passed_on (Unit {0}) c.in_err-check_move.field-0.0 c.from_residual.result is c.in_err-check_move.ensures.told

pub returns-in_err-push-clause-told : goal.returns-in_err-push-clause-told
returns-in_err-push-clause-told g c = on_err _ c.in_err-push.ensures.items

pub returns-in_err-push-clause-memory : goal.returns-in_err-push-clause-memory
returns-in_err-push-clause-memory g c =
    let is : c.from_residual-in_err-push.result ≡ Err out_of_memory = search rules in
    made_lacked _ is
