use Rattle.std.proofs.Common.{refl}
use Rattle.ir_model.specs.Edits.{PushOperand}
use Rattle.ir_core_records.specs.Meaning.{value_of}
use Rattle.ir_run_sessions.specs.SessionTables.{entries_of}
use Rattle.ir_run_sessions.proofs.DoneSteps.{refused_so}
use Rattle.ir_run_sessions.proofs.UseSteps.{not_push_operand, push_operand_made}
use Rattle.ir_run_sessions.proofs.use_steps.push_operand.Goals as goal

pub returns-in-Some : goal.returns-in-Some
returns-in-Some g c =
    push_operand_made c.args.ctx.now (entries_of c.args.tables.now) _ (record { numbers = c.recall_needs_nothing.ensures.numbers; slots = c.recall_needs_nothing.ensures.slots }) c.push_operand.new.ctx
    c.push_operand.result c.push_operand.ensures.counter c.push_operand.ensures.slots c.push_operand.ensures.err c.done.result c.done.ensures
    c.args.op c.in-Some.op.index c.in-Some.ensures.op c.args.value (value_of c.in-Some.value.index) c.in-Some.ensures.value c.push_operand.ensures.made

pub returns-in-None : goal.returns-in-None
returns-in-None g c =
    let tables = entries_of c.args.tables.now in
    refused_so c.args.ctx.now tables _ (PushOperand c.args.op c.args.value) (not_push_operand c.args.ctx.now tables c.args.op c.args.value (c.in-None.ensures.missing refl))
