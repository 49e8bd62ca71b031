use Rattle.std.proofs.Common.{refl}
use Rattle.ir_model.specs.Edits.{RemoveResult}
use Rattle.ir_run_sessions.specs.SessionTables.{entries_of}
use Rattle.ir_run_sessions.proofs.DoneSteps.{refused_so}
use Rattle.ir_run_sessions.proofs.DefinitionSteps.{not_remove_result, remove_result_done}
use Rattle.ir_run_sessions.proofs.definition_steps.remove_result.Goals as goal

pub returns-in-Some : goal.returns-in-Some
returns-in-Some g c =
    remove_result_done c.args.ctx.now (entries_of c.args.tables.now) _ (record { numbers = c.recall_needs_nothing.ensures.numbers; slots = c.recall_needs_nothing.ensures.slots }) c.remove_result.new.ctx c.remove_result.ensures.rest
    c.args.op c.args.at c.in-Some.op.index c.in-Some.ensures.named c.in-Some.ensures.unused c.remove_result.ensures.forest

pub returns-in-None : goal.returns-in-None
returns-in-None g c =
    let tables = entries_of c.args.tables.now in
    refused_so c.args.ctx.now tables _ (RemoveResult c.args.op c.args.at) (not_remove_result c.args.ctx.now tables c.args.op c.args.at (c.in-None.ensures.missing refl))
