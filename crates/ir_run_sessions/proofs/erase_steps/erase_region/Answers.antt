use Rattle.std.proofs.Common.{refl}
use Rattle.ir_model.specs.Edits.{EraseRegion}
use Rattle.ir_run_sessions.specs.SessionTables.{entries_of}
use Rattle.ir_run_sessions.proofs.DoneSteps.{refused_so}
use Rattle.ir_run_sessions.proofs.EraseSteps.{erase_region_done, not_erase_region}
use Rattle.ir_run_sessions.proofs.erase_steps.erase_region.Goals as goal

pub returns-in-Some : goal.returns-in-Some
returns-in-Some g c =
    erase_region_done c.args.ctx.now (entries_of c.args.tables.now) _ (record { numbers = c.recall_needs_nothing.ensures.numbers; slots = c.recall_needs_nothing.ensures.slots }) c.erase_region.new.ctx c.erase_region.ensures.rest
    c.args.op c.in-Some.op.index c.args.at c.in-Some.ensures.named c.in-Some.ensures.closed c.erase_region.ensures.forest

pub returns-in-None : goal.returns-in-None
returns-in-None g c =
    let tables = entries_of c.args.tables.now in
    refused_so c.args.ctx.now tables _ (EraseRegion c.args.op c.args.at) (not_erase_region c.args.ctx.now tables c.args.op c.args.at (c.in-None.ensures.missing refl))
