use Rattle.ir_model.specs.Edits.{DropOpUses}
use Rattle.ir_run_sessions.specs.SessionTables.{entries_of}
use Rattle.ir_run_sessions.proofs.DoneSteps.{refused_so}
use Rattle.ir_run_sessions.proofs.EraseSteps.{drop_op_uses_done, not_drop_op_uses}
use Rattle.ir_run_sessions.proofs.erase_steps.drop_op_uses.Goals as goal

pub returns-in-Some : goal.returns-in-Some
returns-in-Some g c =
    drop_op_uses_done c.args.ctx.now (entries_of c.args.tables.now) _ (record { numbers = c.recall_needs_nothing.ensures.numbers; slots = c.recall_needs_nothing.ensures.slots }) c.drop_all_uses.new.ctx c.drop_all_uses.ensures.rest
    c.args.op c.in-Some.op.index c.in-Some.ensures c.drop_all_uses.ensures.forest

pub returns-in-None : goal.returns-in-None
returns-in-None g c =
    let tables = entries_of c.args.tables.now in
    refused_so c.args.ctx.now tables _ (DropOpUses c.args.op) (not_drop_op_uses c.args.ctx.now tables c.args.op c.in-None.ensures)
