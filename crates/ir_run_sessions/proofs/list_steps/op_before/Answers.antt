use Rattle.std.proofs.Common.{refl}
use Rattle.ir_model.specs.Edits.{OpBefore}
use Rattle.ir_run_sessions.specs.SessionTables.{entries_of}
use Rattle.ir_run_sessions.proofs.DoneSteps.{refused_so}
use Rattle.ir_run_sessions.proofs.ListSteps.{op_before_done, not_op_before}
use Rattle.ir_run_sessions.proofs.list_steps.op_before.Goals as goal

pub returns-in-Some : goal.returns-in-Some
returns-in-Some g c =
    op_before_done c.args.ctx.now (entries_of c.args.tables.now) _ (record { numbers = c.recall_needs_nothing.ensures.numbers; slots = c.recall_needs_nothing.ensures.slots }) c.insert_before.new.ctx c.insert_before.ensures.rest
    c.args.op c.args.mark c.in-Some.op.index c.in-Some.mark.index c.in-Some.ensures.node c.in-Some.ensures.mark c.in-Some.ensures.may_go c.insert_before.ensures.forest

pub returns-in-None : goal.returns-in-None
returns-in-None g c =
    let tables = entries_of c.args.tables.now in
    refused_so c.args.ctx.now tables _ (OpBefore c.args.op c.args.mark) (not_op_before c.args.ctx.now tables c.args.op c.args.mark (c.in-None.ensures.missing refl))
