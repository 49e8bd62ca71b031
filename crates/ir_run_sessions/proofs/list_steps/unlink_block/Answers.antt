use Rattle.std.proofs.Common.{refl}
use Rattle.ir_model.specs.Edits.{UnlinkBlock}
use Rattle.ir_run_sessions.specs.SessionTables.{entries_of}
use Rattle.ir_run_sessions.proofs.DoneSteps.{refused_so}
use Rattle.ir_run_sessions.proofs.ListSteps.{unlink_block_done, not_unlink_block}
use Rattle.ir_run_sessions.proofs.list_steps.unlink_block.Goals as goal

pub returns-in-Some : goal.returns-in-Some
returns-in-Some g c =
    unlink_block_done c.args.ctx.now (entries_of c.args.tables.now) _ (record { numbers = c.recall_needs_nothing.ensures.numbers; slots = c.recall_needs_nothing.ensures.slots }) c.unlink.new.ctx c.unlink.ensures.rest
    c.args.block c.in-Some.block.index c.in-Some.ensures.named c.in-Some.ensures.linked c.unlink.ensures.forest

pub returns-in-None : goal.returns-in-None
returns-in-None g c =
    let tables = entries_of c.args.tables.now in
    refused_so c.args.ctx.now tables _ (UnlinkBlock c.args.block) (not_unlink_block c.args.ctx.now tables c.args.block (c.in-None.ensures.missing refl))
