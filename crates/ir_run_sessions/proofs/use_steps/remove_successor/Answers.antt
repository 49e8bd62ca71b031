use Rattle.std.proofs.Common.{◌<◌, length, arith}
use Rattle.ir_model.specs.Nesting.{successors_of}
use Rattle.ir_core_queries.specs.State.{forest_of}
use Rattle.ir_run_sessions.specs.SessionTables.{entries_of}
use Rattle.ir_run_sessions.proofs.UseSteps.{remove_successor_done, successor_count}
use Rattle.ir_run_sessions.proofs.use_steps.remove_successor.Goals as goal

pub returns-in-Some : goal.returns-in-Some
returns-in-Some g c =
    let f = forest_of c.args.ctx.now in
    let there : c.args.at < length (successors_of f c.in-Some.op.index) = omega (arith, successor_count f c.in-Some.op.index c.deref.result.now c.deref.ensures.found, c.get_num_successors.ensures, c.if-at-get_num_successors.true) in
    remove_successor_done c.args.ctx.now (entries_of c.args.tables.now) _ (record { numbers = c.recall_needs_nothing.ensures.numbers; slots = c.recall_needs_nothing.ensures.slots }) c.remove_successor.new.ctx c.remove_successor.ensures.rest
    c.args.op c.args.at c.in-Some.op.index c.in-Some.ensures there c.remove_successor.ensures.forest
