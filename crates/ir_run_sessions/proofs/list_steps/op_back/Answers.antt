use Rattle.std.proofs.Common.{refl}
use Rattle.ir_model.specs.Edits.{OpBack}
use Rattle.ir_run_sessions.specs.SessionTables.{entries_of}
use Rattle.ir_run_sessions.proofs.DoneSteps.{refused_so}
use Rattle.ir_run_sessions.proofs.ListSteps.{op_back_done, not_op_front}
use Rattle.ir_run_sessions.proofs.list_steps.op_back.Goals as goal

pub returns-in-Some : goal.returns-in-Some
returns-in-Some g c =
    op_back_done c.args.ctx.now (entries_of c.args.tables.now) _ (record { numbers = c.recall_needs_nothing.ensures.numbers; slots = c.recall_needs_nothing.ensures.slots }) c.insert_at_back.new.ctx c.insert_at_back.ensures.rest
    c.args.op c.args.block c.in-Some.op.index c.in-Some.block.index c.in-Some.ensures.node c.in-Some.ensures.container c.in-Some.ensures.may_go c.insert_at_back.ensures.forest

pub returns-in-None : goal.returns-in-None
returns-in-None g c =
    let tables = entries_of c.args.tables.now in
    refused_so c.args.ctx.now tables _ (OpBack c.args.op c.args.block) (not_op_front c.args.ctx.now tables c.args.op c.args.block (c.in-None.ensures.missing refl))
