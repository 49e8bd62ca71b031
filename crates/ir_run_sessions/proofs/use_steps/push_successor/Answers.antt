use Rattle.std.proofs.Common.{refl}
use Rattle.ir_model.specs.Edits.{PushSuccessor}
use Rattle.ir_run_sessions.specs.SessionTables.{entries_of}
use Rattle.ir_run_sessions.proofs.DoneSteps.{refused_so}
use Rattle.ir_run_sessions.proofs.UseSteps.{not_push_successor, push_successor_made}
use Rattle.ir_run_sessions.proofs.use_steps.push_successor.Goals as goal

pub returns-in-Some : goal.returns-in-Some
returns-in-Some g c =
    push_successor_made c.args.ctx.now (entries_of c.args.tables.now) _ (record { numbers = c.recall_needs_nothing.ensures.numbers; slots = c.recall_needs_nothing.ensures.slots }) c.push_successor.new.ctx
    c.push_successor.result c.push_successor.ensures.counter c.push_successor.ensures.slots c.push_successor.ensures.err c.done.result c.done.ensures
    c.args.op c.in-Some.op.index c.in-Some.ensures.first c.args.block c.in-Some.block.index c.in-Some.ensures.second c.push_successor.ensures.made

pub returns-in-None : goal.returns-in-None
returns-in-None g c =
    let tables = entries_of c.args.tables.now in
    refused_so c.args.ctx.now tables _ (PushSuccessor c.args.op c.args.block) (not_push_successor c.args.ctx.now tables c.args.op c.args.block (c.in-None.ensures.missing refl))
