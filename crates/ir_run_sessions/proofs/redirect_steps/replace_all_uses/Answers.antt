use Rattle.std.proofs.Common.{refl}
use Rattle.ir_model.specs.Edits.{ReplaceAllUses}
use Rattle.ir_core_records.specs.Meaning.{value_of}
use Rattle.ir_run_sessions.specs.SessionTables.{entries_of}
use Rattle.ir_run_sessions.proofs.DoneSteps.{refused_so}
use Rattle.ir_run_sessions.proofs.RedirectSteps.{not_replace_all, replace_all_made}
use Rattle.ir_run_sessions.proofs.redirect_steps.replace_all_uses.Goals as goal

pub returns-in-Some : goal.returns-in-Some
returns-in-Some g c =
    replace_all_made c.args.ctx.now (entries_of c.args.tables.now) c.args.value c.args.other _ (record { numbers = c.recall_needs_nothing.ensures.numbers; slots = c.recall_needs_nothing.ensures.slots }) c.replace_all_uses_with.new.ctx
    c.replace_all_uses_with.result c.replace_all_uses_with.ensures.memory c.replace_all_uses_with.ensures.err c.replace_all_uses_with.ensures.rest c.done.result c.done.ensures
    (value_of c.in-Some.value.index) (value_of c.in-Some.other.index) c.in-Some.ensures.first c.in-Some.ensures.second c.replace_all_uses_with.ensures.itself c.replace_all_uses_with.ensures.forest

pub returns-in-None : goal.returns-in-None
returns-in-None g c =
    let tables = entries_of c.args.tables.now in
    refused_so c.args.ctx.now tables _ (ReplaceAllUses c.args.value c.args.other) (not_replace_all c.args.ctx.now tables c.args.value c.args.other (c.in-None.ensures.missing refl))
