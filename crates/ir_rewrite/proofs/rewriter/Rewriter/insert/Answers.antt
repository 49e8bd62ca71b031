use Rattle.std.proofs.Common.{◌≡◌, sym, subst, Err, rules}
use Rattle.ir_checked_core.specs.Answers.{out_of_memory, own_answer}
use Rattle.ir_core_context.specs.State.{forest_of}
use Rattle.ir_rewrite.specs.Answers.{InsertAnswers}
use Rattle.ir_rewrite.proofs.Passed.{insert_kept, made_lacked, on_err, passed_on}
use Rattle.ir_rewrite.proofs.rewriter.Rewriter.insert.Goals as goal

pub returns-in_err-check_insert-clause-conditions : goal.returns-in_err-check_insert-clause-conditions
returns-in_err-check_insert-clause-conditions g c =
    let is : c.from_residual.result ≡ Err c.in_err-check_insert.field-0.0 = search rules in
    subst (λ r. InsertAnswers (forest_of c.args.ctx.now) c.args.self.now.inserter.point c.args.op.index own_answer r) (sym is)
    (insert_kept (Unit {0}) (forest_of c.args.ctx.now) c.args.op.index c.args.self.now.inserter.point c.in_err-check_insert.field-0.0 c.in_err-check_insert.ensures.conditions)

pub returns-in_err-check_insert-clause-memory : goal.returns-in_err-check_insert-clause-memory
returns-in_err-check_insert-clause-memory g c =
    let is : c.from_residual.result ≡ Err c.in_err-check_insert.field-0.0 = search rules in
    passed_on (Unit {0}) c.in_err-check_insert.field-0.0 c.from_residual.result is c.in_err-check_insert.ensures.told

pub returns-in_err-push-clause-told : goal.returns-in_err-push-clause-told
returns-in_err-push-clause-told g c = on_err _ c.in_err-push.ensures.items

pub returns-in_err-push-clause-memory : goal.returns-in_err-push-clause-memory
returns-in_err-push-clause-memory g c =
    let is : c.from_residual-in_err-push.result ≡ Err out_of_memory = search rules in
    made_lacked _ is
