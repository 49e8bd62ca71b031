use Rattle.std.proofs.Common.{◌<◌, length, arith}
use Rattle.ir_model.specs.Nesting.{operands_of}
use Rattle.ir_core_queries.specs.State.{forest_of}
use Rattle.ir_run_sessions.specs.SessionTables.{entries_of}
use Rattle.ir_run_sessions.proofs.UseSteps.{operand_count, remove_operand_done}
use Rattle.ir_run_sessions.proofs.use_steps.remove_operand.Goals as goal

pub returns-in-Some : goal.returns-in-Some
returns-in-Some g c =
    let f = forest_of c.args.ctx.now in
    let there : c.args.at < length (operands_of f c.in-Some.op.index) = omega (arith, operand_count f c.in-Some.op.index c.deref.result.now c.deref.ensures.found, c.get_num_operands.ensures, c.if-at-get_num_operands.true) in
    remove_operand_done c.args.ctx.now (entries_of c.args.tables.now) _ (record { numbers = c.recall_needs_nothing.ensures.numbers; slots = c.recall_needs_nothing.ensures.slots }) c.remove_operand.new.ctx c.remove_operand.ensures.rest
    c.args.op c.args.at c.in-Some.op.index c.in-Some.ensures there c.remove_operand.ensures.forest
