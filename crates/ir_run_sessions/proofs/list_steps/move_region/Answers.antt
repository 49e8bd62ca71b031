use Rattle.std.proofs.Common.{refl}
use Rattle.ir_model.specs.Edits.{MoveRegion}
use Rattle.ir_run_sessions.specs.SessionTables.{entries_of}
use Rattle.ir_run_sessions.proofs.DoneSteps.{refused_so}
use Rattle.ir_run_sessions.proofs.ListSteps.{move_region_done, move_region_refused, not_move_region}
use Rattle.ir_run_sessions.proofs.list_steps.move_region.Goals as goal

pub returns-in-Ok : goal.returns-in-Ok
returns-in-Ok g c =
    move_region_done c.args.ctx.now (entries_of c.args.tables.now) _ (record { numbers = c.recall_needs_nothing.ensures.numbers; slots = c.recall_needs_nothing.ensures.slots }) c.move_to_op.new.ctx c.move_to_op.ensures.rest
    c.args.region c.args.op c.in-Some.region.index c.in-Some.op.index c.in-Some.ensures.region c.in-Some.ensures.op c.in-Some.ensures.outside c.in-Ok.ensures.forest

pub returns-in-Err : goal.returns-in-Err
returns-in-Err g c =
    move_region_refused c.args.ctx.now (entries_of c.args.tables.now) _ (record { numbers = c.recall_needs_nothing.ensures.numbers; slots = c.recall_needs_nothing.ensures.slots }) c.move_to_op.new.ctx c.move_to_op.ensures.rest
    c.args.region c.args.op c.in-Some.region.index c.in-Some.op.index c.in-Some.ensures.region c.in-Some.ensures.op c.in-Some.ensures.outside c.in-Err.ensures.elsewhere c.in-Err.ensures.same

pub returns-in-None : goal.returns-in-None
returns-in-None g c =
    let tables = entries_of c.args.tables.now in
    refused_so c.args.ctx.now tables _ (MoveRegion c.args.region c.args.op) (not_move_region c.args.ctx.now tables c.args.region c.args.op (c.in-None.ensures.missing refl))
