use Rattle.ir_text_names.specs.declared.counting.Counted.TheVariants as counted
use Rattle.ir_text_names.specs.Operations.{AreCounted}
use Rattle.ir_text_names.proofs.counting.part_counts.Given as goal

abbrev pub invariant-loop-at : goal.invariant-loop-at
invariant-loop-at l = record {
  operands : AreCounted counted.Operands l.rows l.at l.counts.operands.items;
  operand_types : AreCounted counted.OperandTypes l.rows l.at l.counts.operand_types.items;
  result_types : AreCounted counted.ResultTypes l.rows l.at l.counts.result_types.items;
  keys : AreCounted counted.Keys l.rows l.at l.counts.keys.items;
}
