use Rattle.std.proofs.Common.{◌≤◌, length, arith}
use Rattle.ir_model.specs.Nesting.{operands_of}
use Rattle.ir_core_records.specs.Meaning.{value_of}
use Rattle.ir_core_queries.specs.State.{forest_of}
use Rattle.ir_run_sessions.specs.SessionTables.{entries_of}
use Rattle.ir_run_sessions.proofs.UseSteps.{insert_operand_made, operand_count}
use Rattle.ir_run_sessions.proofs.use_steps.insert_operand.Goals as goal

pub returns-in-Some : goal.returns-in-Some
returns-in-Some g c =
    let f = forest_of c.args.ctx.now in
    let there : c.args.at ≤ length (operands_of f c.in-Some.op.index) = omega (arith, operand_count f c.in-Some.op.index c.deref.result.now c.deref.ensures.found, c.get_num_operands.ensures, c.if-at-get_num_operands.true) in
    insert_operand_made c.args.ctx.now (entries_of c.args.tables.now) _ (record { numbers = c.recall_needs_nothing.ensures.numbers; slots = c.recall_needs_nothing.ensures.slots }) c.insert_operand.new.ctx
    c.insert_operand.result c.insert_operand.ensures.counter c.insert_operand.ensures.slots c.insert_operand.ensures.err c.done.result c.done.ensures
    c.args.op c.in-Some.op.index c.in-Some.ensures.op c.args.value (value_of c.in-Some.value.index) c.in-Some.ensures.value c.args.at there c.insert_operand.ensures.made
