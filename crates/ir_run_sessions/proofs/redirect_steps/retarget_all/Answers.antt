use Rattle.std.proofs.Common.{refl}
use Rattle.ir_model.specs.Edits.{RetargetAll}
use Rattle.ir_run_sessions.specs.SessionTables.{entries_of}
use Rattle.ir_run_sessions.proofs.DoneSteps.{refused_so}
use Rattle.ir_run_sessions.proofs.RedirectSteps.{not_retarget_all, retarget_all_made}
use Rattle.ir_run_sessions.proofs.redirect_steps.retarget_all.Goals as goal

pub returns-in-Some : goal.returns-in-Some
returns-in-Some g c =
    retarget_all_made c.args.ctx.now (entries_of c.args.tables.now) c.args.block c.args.other _ (record { numbers = c.recall_needs_nothing.ensures.numbers; slots = c.recall_needs_nothing.ensures.slots }) c.retarget_all_preds_to.new.ctx
    c.retarget_all_preds_to.result c.retarget_all_preds_to.ensures.memory c.retarget_all_preds_to.ensures.err c.retarget_all_preds_to.ensures.rest c.done.result c.done.ensures
    c.in-Some.block.index c.in-Some.other.index c.in-Some.ensures.block c.in-Some.ensures.other c.in-Some.ensures.linked c.retarget_all_preds_to.ensures.itself c.retarget_all_preds_to.ensures.forest

pub returns-in-None : goal.returns-in-None
returns-in-None g c =
    let tables = entries_of c.args.tables.now in
    refused_so c.args.ctx.now tables _ (RetargetAll c.args.block c.args.other) (not_retarget_all c.args.ctx.now tables c.args.block c.args.other (c.in-None.ensures.missing refl))
