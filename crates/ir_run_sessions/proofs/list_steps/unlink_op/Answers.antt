use Rattle.std.proofs.Common.{refl}
use Rattle.ir_model.specs.Edits.{UnlinkOp}
use Rattle.ir_run_sessions.specs.SessionTables.{entries_of}
use Rattle.ir_run_sessions.proofs.DoneSteps.{refused_so}
use Rattle.ir_run_sessions.proofs.ListSteps.{unlink_op_done, not_unlink_op}
use Rattle.ir_run_sessions.proofs.list_steps.unlink_op.Goals as goal

pub returns-in-Some : goal.returns-in-Some
returns-in-Some g c =
    unlink_op_done c.args.ctx.now (entries_of c.args.tables.now) _ (record { numbers = c.recall_needs_nothing.ensures.numbers; slots = c.recall_needs_nothing.ensures.slots }) c.unlink.new.ctx c.unlink.ensures.rest
    c.args.op c.in-Some.op.index c.in-Some.ensures.named c.in-Some.ensures.linked c.unlink.ensures.forest

pub returns-in-None : goal.returns-in-None
returns-in-None g c =
    let tables = entries_of c.args.tables.now in
    refused_so c.args.ctx.now tables _ (UnlinkOp c.args.op) (not_unlink_op c.args.ctx.now tables c.args.op (c.in-None.ensures.missing refl))
