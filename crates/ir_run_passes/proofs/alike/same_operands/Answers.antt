use Rattle.std.proofs.Common.{arith, length, sym, ◌∙◌}
use Rattle.std.proofs.lemmas.List.{length-map}
use Rattle.ir_model_passes.specs.Meaning.{named_values}
use Rattle.ir_core_records.specs.Meaning.{op_record, value_of}
use Rattle.ir_run_passes.proofs.Places.{seen_at, differs_at, agrees_more, agree_all, lengths_differ}
use Rattle.ir_run_passes.proofs.alike.same_operands.Goals as goal

pub returns-then-not-is_same_value : goal.returns-then-not-is_same_value
returns-then-not-is_same_value g c =
    let one = op_record c.args.one.now in
    let other = op_record c.args.other.now in
    differs_at (named_values one) (named_values other) c.loop-index.index (value_of c.get_operand.result.index) (value_of c.get_operand-in-loop-index.result.index)
    (seen_at (λ p. p.value) one.operands c.loop-index.index (value_of c.get_operand.result.index) c.get_operand.ensures)
    (seen_at (λ p. p.value) other.operands c.loop-index.index (value_of c.get_operand-in-loop-index.result.index) c.get_operand-in-loop-index.ensures)
    c.is_same_value.result c.is_same_value.ensures c.if-not-is_same_value.true

pub loop-index-preserved : goal.loop-index-preserved
loop-index-preserved g c =
    let one = op_record c.args.one.now in
    let other = op_record c.args.other.now in
    agrees_more (named_values one) (named_values other) c.loop-index.index (value_of c.get_operand.result.index) (value_of c.get_operand-in-loop-index.result.index)
    (seen_at (λ p. p.value) one.operands c.loop-index.index (value_of c.get_operand.result.index) c.get_operand.ensures)
    (seen_at (λ p. p.value) other.operands c.loop-index.index (value_of c.get_operand-in-loop-index.result.index) c.get_operand-in-loop-index.ensures)
    c.loop-index.invariant c.is_same_value.result c.is_same_value.ensures c.if-not-is_same_value.false

pub returns : goal.returns
returns g c =
    let one = op_record c.args.one.now in
    let other = op_record c.args.other.now in
    agree_all (named_values one) (named_values other) c.get_num_operands-count.result
    (c.get_num_operands-count.ensures ∙ sym (length-map one.operands (λ p. p.value)))
    (c.if-count-get_num_operands.false ∙ c.get_num_operands.ensures ∙ sym (length-map other.operands (λ p. p.value)))
    (let t = c.loop-index-test.false in λ k lt. c.loop-index.invariant k (omega (arith, lt, t)))
