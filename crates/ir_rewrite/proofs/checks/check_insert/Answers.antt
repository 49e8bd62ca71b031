use Rattle.std.proofs.Common.{sym, subst}
use Rattle.std.specs.Prelude.{◌↔◌, IsOk}
use Rattle.ir_checked_core.specs.Answers.{own_value}
use Rattle.ir_checked_core.specs.declared.error.Call.TheVariants.{OperationInsertAfter, OperationInsertAtBack, OperationInsertAtFront, OperationInsertBefore}
use Rattle.ir_core_context.specs.State.{forest_of}
use Rattle.ir_rewrite.specs.Answers.{InsertAnswers}
use Rattle.ir_rewrite.specs.Points.{MayGoAt}
use Rattle.ir_rewrite.proofs.May.{beside_may, into_may}
use Rattle.ir_rewrite.proofs.Passed.{beside_told, into_told}
use Rattle.ir_rewrite.proofs.checks.check_insert.Goals as goal

pub returns-in-AtBlockStart-clause-conditions : goal.returns-in-AtBlockStart-clause-conditions
returns-in-AtBlockStart-clause-conditions g c = subst (λ p. InsertAnswers (forest_of c.args.ctx.now) p c.args.op.index own_value c.check_insert_into.result) (sym c.in-AtBlockStart.is) c.check_insert_into.ensures

pub returns-in-AtBlockStart-clause-may : goal.returns-in-AtBlockStart-clause-may
returns-in-AtBlockStart-clause-may g c =
    subst (λ p. IsOk c.check_insert_into.result ↔ MayGoAt (forest_of c.args.ctx.now) p c.args.op.index) (sym c.in-AtBlockStart.is)
    (into_may (forest_of c.args.ctx.now) c.args.op.index OperationInsertAtFront c.in-AtBlockStart.block.index c.check_insert_into.result c.check_insert_into.ensures)

pub returns-in-AtBlockEnd-clause-conditions : goal.returns-in-AtBlockEnd-clause-conditions
returns-in-AtBlockEnd-clause-conditions g c = subst (λ p. InsertAnswers (forest_of c.args.ctx.now) p c.args.op.index own_value c.check_insert_into-in-AtBlockEnd.result) (sym c.in-AtBlockEnd.is) c.check_insert_into-in-AtBlockEnd.ensures

pub returns-in-AtBlockEnd-clause-may : goal.returns-in-AtBlockEnd-clause-may
returns-in-AtBlockEnd-clause-may g c =
    subst (λ p. IsOk c.check_insert_into-in-AtBlockEnd.result ↔ MayGoAt (forest_of c.args.ctx.now) p c.args.op.index) (sym c.in-AtBlockEnd.is)
    (into_may (forest_of c.args.ctx.now) c.args.op.index OperationInsertAtBack c.in-AtBlockEnd.block.index c.check_insert_into-in-AtBlockEnd.result c.check_insert_into-in-AtBlockEnd.ensures)

pub returns-in-BeforeOperation-clause-conditions : goal.returns-in-BeforeOperation-clause-conditions
returns-in-BeforeOperation-clause-conditions g c = subst (λ p. InsertAnswers (forest_of c.args.ctx.now) p c.args.op.index own_value c.check_insert_beside.result) (sym c.in-BeforeOperation.is) c.check_insert_beside.ensures

pub returns-in-BeforeOperation-clause-may : goal.returns-in-BeforeOperation-clause-may
returns-in-BeforeOperation-clause-may g c =
    subst (λ p. IsOk c.check_insert_beside.result ↔ MayGoAt (forest_of c.args.ctx.now) p c.args.op.index) (sym c.in-BeforeOperation.is)
    (beside_may (forest_of c.args.ctx.now) c.args.op.index c.recall_well_formed.ensures.nested OperationInsertBefore c.in-BeforeOperation.mark.index c.check_insert_beside.result c.check_insert_beside.ensures)

pub returns-in-AfterOperation-clause-conditions : goal.returns-in-AfterOperation-clause-conditions
returns-in-AfterOperation-clause-conditions g c = subst (λ p. InsertAnswers (forest_of c.args.ctx.now) p c.args.op.index own_value c.check_insert_beside-in-AfterOperation.result) (sym c.in-AfterOperation.is) c.check_insert_beside-in-AfterOperation.ensures

pub returns-in-AfterOperation-clause-may : goal.returns-in-AfterOperation-clause-may
returns-in-AfterOperation-clause-may g c =
    subst (λ p. IsOk c.check_insert_beside-in-AfterOperation.result ↔ MayGoAt (forest_of c.args.ctx.now) p c.args.op.index) (sym c.in-AfterOperation.is)
    (beside_may (forest_of c.args.ctx.now) c.args.op.index c.recall_well_formed.ensures.nested OperationInsertAfter c.in-AfterOperation.mark.index c.check_insert_beside-in-AfterOperation.result c.check_insert_beside-in-AfterOperation.ensures)

pub returns-in-AtBlockStart-clause-told : goal.returns-in-AtBlockStart-clause-told
returns-in-AtBlockStart-clause-told g c = into_told (forest_of c.args.ctx.now) c.args.op.index OperationInsertAtFront c.in-AtBlockStart.block.index c.check_insert_into.result c.check_insert_into.ensures

pub returns-in-AtBlockEnd-clause-told : goal.returns-in-AtBlockEnd-clause-told
returns-in-AtBlockEnd-clause-told g c = into_told (forest_of c.args.ctx.now) c.args.op.index OperationInsertAtBack c.in-AtBlockEnd.block.index c.check_insert_into-in-AtBlockEnd.result c.check_insert_into-in-AtBlockEnd.ensures

pub returns-in-BeforeOperation-clause-told : goal.returns-in-BeforeOperation-clause-told
returns-in-BeforeOperation-clause-told g c = beside_told (forest_of c.args.ctx.now) c.args.op.index OperationInsertBefore c.in-BeforeOperation.mark.index c.check_insert_beside.result c.check_insert_beside.ensures

pub returns-in-AfterOperation-clause-told : goal.returns-in-AfterOperation-clause-told
returns-in-AfterOperation-clause-told g c = beside_told (forest_of c.args.ctx.now) c.args.op.index OperationInsertAfter c.in-AfterOperation.mark.index c.check_insert_beside-in-AfterOperation.result c.check_insert_beside-in-AfterOperation.ensures
