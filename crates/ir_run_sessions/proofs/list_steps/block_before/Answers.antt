use Rattle.std.proofs.Common.{refl}
use Rattle.ir_model.specs.Edits.{BlockBefore}
use Rattle.ir_run_sessions.specs.SessionTables.{entries_of}
use Rattle.ir_run_sessions.proofs.DoneSteps.{refused_so}
use Rattle.ir_run_sessions.proofs.ListSteps.{block_before_done, not_block_before}
use Rattle.ir_run_sessions.proofs.list_steps.block_before.Goals as goal

pub returns-in-Some : goal.returns-in-Some
returns-in-Some g c =
    block_before_done c.args.ctx.now (entries_of c.args.tables.now) _ (record { numbers = c.recall_needs_nothing.ensures.numbers; slots = c.recall_needs_nothing.ensures.slots }) c.insert_before.new.ctx c.insert_before.ensures.rest
    c.args.block c.args.mark c.in-Some.block.index c.in-Some.mark.index c.in-Some.ensures.node c.in-Some.ensures.mark c.in-Some.ensures.may_go c.insert_before.ensures.forest

pub returns-in-None : goal.returns-in-None
returns-in-None g c =
    let tables = entries_of c.args.tables.now in
    refused_so c.args.ctx.now tables _ (BlockBefore c.args.block c.args.mark) (not_block_before c.args.ctx.now tables c.args.block c.args.mark (c.in-None.ensures.missing refl))
