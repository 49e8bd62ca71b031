use Rattle.std.proofs.Common.{◌≡◌, ℕ, length, subst, ◌∙◌, arith}
use Rattle.ir_text_names.specs.declared.counting.Counted.TheVariants as counted
use Rattle.ir_text_names.specs.Operations.{number_of, AreCounted}
use Rattle.ir_text_names.specs.Types.{operation_of}
use Rattle.ir_text_names.proofs.Numbering.{number_few}
use Rattle.ir_text_names.proofs.PartCounts.{none_counted, counted_within, counted_fit, counted_next}
use Rattle.ir_text_names.proofs.counting.part_counts.Goals as goal

pub overflow_add-operations : goal.overflow_add-operations
overflow_add-operations c = let few = number_few c.args.rows.now (length c.args.rows.now) in omega (arith, few, c.requires.count, c.requires.few)

pub loop-at-init : goal.loop-at-init
loop-at-init c =
    let rows = c.args.rows.now in
    let n = c.args.operations.now.count in
    record {
      operands = none_counted counted.Operands rows n c.in_ok-counts.counts.operands.items c.requires.count c.in_ok-counts.ensures.operands;
      operand_types = none_counted counted.OperandTypes rows n c.in_ok-counts.counts.operand_types.items c.requires.count c.in_ok-counts.ensures.operand_types;
      result_types = none_counted counted.ResultTypes rows n c.in_ok-counts.counts.result_types.items c.requires.count c.in_ok-counts.ensures.result_types;
      keys = none_counted counted.Keys rows n c.in_ok-counts.counts.keys.items c.requires.count c.in_ok-counts.ensures.keys;
    }

pub number_at-number-requires : goal.number_at-number-requires
number_at-number-requires c = omega (arith, c.requires.long, c.args.operations.now.numbers.ok.0, c.loop-at-test.true)

pub count_part-requires-clause-operands : goal.count_part-requires-clause-operands
count_part-requires-clause-operands c =
    let l = c.loop-at in
    let rows = c.args.rows.now in
    let is : c.number_at-number.result ≡ number_of rows (operation_of rows l.at) = c.number_at-number.ensures ∙ c.requires.numbers l.at c.loop-at-test.true in
    let within = counted_within counted.Operands rows l.at c.number_at-number.result l.counts.operands.items l.invariant.operands c.loop-at-test.true is in
    omega (arith, within, l.counts.operands.ok.0)

pub count_part-requires-clause-operands_fit : goal.count_part-requires-clause-operands_fit
count_part-requires-clause-operands_fit c =
    let l = c.loop-at in
    let rows = c.args.rows.now in
    let is : c.number_at-number.result ≡ number_of rows (operation_of rows l.at) = c.number_at-number.ensures ∙ c.requires.numbers l.at c.loop-at-test.true in
    let fit = counted_fit counted.Operands rows l.at c.number_at-number.result l.counts.operands.items l.invariant.operands c.loop-at-test.true c.requires.few is in
    omega (arith, fit)

pub count_part-requires-clause-operand_types : goal.count_part-requires-clause-operand_types
count_part-requires-clause-operand_types c =
    let l = c.loop-at in
    let rows = c.args.rows.now in
    let is : c.number_at-number.result ≡ number_of rows (operation_of rows l.at) = c.number_at-number.ensures ∙ c.requires.numbers l.at c.loop-at-test.true in
    let within = counted_within counted.OperandTypes rows l.at c.number_at-number.result l.counts.operand_types.items l.invariant.operand_types c.loop-at-test.true is in
    omega (arith, within, l.counts.operand_types.ok.0)

pub count_part-requires-clause-operand_types_fit : goal.count_part-requires-clause-operand_types_fit
count_part-requires-clause-operand_types_fit c =
    let l = c.loop-at in
    let rows = c.args.rows.now in
    let is : c.number_at-number.result ≡ number_of rows (operation_of rows l.at) = c.number_at-number.ensures ∙ c.requires.numbers l.at c.loop-at-test.true in
    let fit = counted_fit counted.OperandTypes rows l.at c.number_at-number.result l.counts.operand_types.items l.invariant.operand_types c.loop-at-test.true c.requires.few is in
    omega (arith, fit)

pub count_part-requires-clause-result_types : goal.count_part-requires-clause-result_types
count_part-requires-clause-result_types c =
    let l = c.loop-at in
    let rows = c.args.rows.now in
    let is : c.number_at-number.result ≡ number_of rows (operation_of rows l.at) = c.number_at-number.ensures ∙ c.requires.numbers l.at c.loop-at-test.true in
    let within = counted_within counted.ResultTypes rows l.at c.number_at-number.result l.counts.result_types.items l.invariant.result_types c.loop-at-test.true is in
    omega (arith, within, l.counts.result_types.ok.0)

pub count_part-requires-clause-result_types_fit : goal.count_part-requires-clause-result_types_fit
count_part-requires-clause-result_types_fit c =
    let l = c.loop-at in
    let rows = c.args.rows.now in
    let is : c.number_at-number.result ≡ number_of rows (operation_of rows l.at) = c.number_at-number.ensures ∙ c.requires.numbers l.at c.loop-at-test.true in
    let fit = counted_fit counted.ResultTypes rows l.at c.number_at-number.result l.counts.result_types.items l.invariant.result_types c.loop-at-test.true c.requires.few is in
    omega (arith, fit)

pub count_part-requires-clause-keys : goal.count_part-requires-clause-keys
count_part-requires-clause-keys c =
    let l = c.loop-at in
    let rows = c.args.rows.now in
    let is : c.number_at-number.result ≡ number_of rows (operation_of rows l.at) = c.number_at-number.ensures ∙ c.requires.numbers l.at c.loop-at-test.true in
    let within = counted_within counted.Keys rows l.at c.number_at-number.result l.counts.keys.items l.invariant.keys c.loop-at-test.true is in
    omega (arith, within, l.counts.keys.ok.0)

pub count_part-requires-clause-keys_fit : goal.count_part-requires-clause-keys_fit
count_part-requires-clause-keys_fit c =
    let l = c.loop-at in
    let rows = c.args.rows.now in
    let is : c.number_at-number.result ≡ number_of rows (operation_of rows l.at) = c.number_at-number.ensures ∙ c.requires.numbers l.at c.loop-at-test.true in
    let fit = counted_fit counted.Keys rows l.at c.number_at-number.result l.counts.keys.items l.invariant.keys c.loop-at-test.true c.requires.few is in
    omega (arith, fit)

pub loop-at-preserved : goal.loop-at-preserved
loop-at-preserved c =
    let l = c.loop-at in
    let rows = c.args.rows.now in
    let w = c.number_at-number.result in
    let is : c.number_at-number.result ≡ number_of rows (operation_of rows l.at) = c.number_at-number.ensures ∙ c.requires.numbers l.at c.loop-at-test.true in
    record {
      operands = counted_next counted.Operands rows l.at w l.counts.operands.items c.count_part.new.counts.operands.items l.invariant.operands c.loop-at-test.true is c.count_part.ensures.operands;
      operand_types = counted_next counted.OperandTypes rows l.at w l.counts.operand_types.items c.count_part.new.counts.operand_types.items l.invariant.operand_types c.loop-at-test.true is c.count_part.ensures.operand_types;
      result_types = counted_next counted.ResultTypes rows l.at w l.counts.result_types.items c.count_part.new.counts.result_types.items l.invariant.result_types c.loop-at-test.true is c.count_part.ensures.result_types;
      keys = counted_next counted.Keys rows l.at w l.counts.keys.items c.count_part.new.counts.keys.items l.invariant.keys c.loop-at-test.true is c.count_part.ensures.keys;
    }

pub returns-clause-operands : goal.returns-clause-operands
returns-clause-operands c =
    let l = c.loop-at in
    let end : l.at ≡ length c.args.rows.now = omega (arith, c.loop-at-test.false) in
    subst (λ (n : ℕ). AreCounted counted.Operands c.args.rows.now n l.counts.operands.items) end l.invariant.operands

pub returns-clause-operand_types : goal.returns-clause-operand_types
returns-clause-operand_types c =
    let l = c.loop-at in
    let end : l.at ≡ length c.args.rows.now = omega (arith, c.loop-at-test.false) in
    subst (λ (n : ℕ). AreCounted counted.OperandTypes c.args.rows.now n l.counts.operand_types.items) end l.invariant.operand_types

pub returns-clause-result_types : goal.returns-clause-result_types
returns-clause-result_types c =
    let l = c.loop-at in
    let end : l.at ≡ length c.args.rows.now = omega (arith, c.loop-at-test.false) in
    subst (λ (n : ℕ). AreCounted counted.ResultTypes c.args.rows.now n l.counts.result_types.items) end l.invariant.result_types

pub returns-clause-keys : goal.returns-clause-keys
returns-clause-keys c =
    let l = c.loop-at in
    let end : l.at ≡ length c.args.rows.now = omega (arith, c.loop-at-test.false) in
    subst (λ (n : ℕ). AreCounted counted.Keys c.args.rows.now n l.counts.keys.items) end l.invariant.keys
