use Rattle.std.proofs.Common.{◌<◌, length, arith}
use Rattle.ir_model.specs.Nesting.{successors_of}
use Rattle.ir_core_queries.specs.State.{forest_of}
use Rattle.ir_run_sessions.specs.SessionTables.{entries_of}
use Rattle.ir_run_sessions.proofs.UseSteps.{replace_successor_made, successor_count}
use Rattle.ir_run_sessions.proofs.use_steps.replace_successor.Goals as goal

pub returns-in-Some : goal.returns-in-Some
returns-in-Some g c =
    let f = forest_of c.args.ctx.now in
    let there : c.args.at < length (successors_of f c.in-Some.op.index) = omega (arith, successor_count f c.in-Some.op.index c.deref.result.now c.deref.ensures.found, c.get_num_successors.ensures, c.if-at-get_num_successors.true) in
    replace_successor_made c.args.ctx.now (entries_of c.args.tables.now) _ (record { numbers = c.recall_needs_nothing.ensures.numbers; slots = c.recall_needs_nothing.ensures.slots }) c.replace_successor.new.ctx
    c.replace_successor.result c.replace_successor.ensures.counter c.replace_successor.ensures.slots c.replace_successor.ensures.err c.done.result c.done.ensures
    c.args.op c.in-Some.op.index c.in-Some.ensures.first c.args.block c.in-Some.block.index c.in-Some.ensures.second c.args.at there c.replace_successor.ensures.made
