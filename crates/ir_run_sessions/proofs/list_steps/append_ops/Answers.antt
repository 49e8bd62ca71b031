use Rattle.std.proofs.Common.{refl}
use Rattle.ir_model.specs.Edits.{AppendOps}
use Rattle.ir_run_sessions.specs.SessionTables.{entries_of}
use Rattle.ir_run_sessions.proofs.DoneSteps.{refused_so}
use Rattle.ir_run_sessions.proofs.ListSteps.{append_ops_done, not_append_ops}
use Rattle.ir_run_sessions.proofs.list_steps.append_ops.Goals as goal

pub returns-in-Some : goal.returns-in-Some
returns-in-Some g c =
    append_ops_done c.args.ctx.now (entries_of c.args.tables.now) _ (record { numbers = c.recall_needs_nothing.ensures.numbers; slots = c.recall_needs_nothing.ensures.slots }) c.append_linked_list.new.ctx c.append_linked_list.ensures.rest
    c.args.donee c.args.donor c.in-Some.donee.index c.in-Some.donor.index c.in-Some.ensures.donee c.in-Some.ensures.donor c.in-Some.ensures.may_join c.append_linked_list.ensures.forest

pub returns-in-None : goal.returns-in-None
returns-in-None g c =
    let tables = entries_of c.args.tables.now in
    refused_so c.args.ctx.now tables _ (AppendOps c.args.donee c.args.donor) (not_append_ops c.args.ctx.now tables c.args.donee c.args.donor (c.in-None.ensures.missing refl))
