use Rattle.ir_model.proofs.OperandRows.{operand_rows, successor_rows, replace_all_rows}
use Rattle.ir_model.proofs.edit_rows.operand_rows.Goals as goal

pub returns-clause-operands : goal.returns-clause-operands
returns-clause-operands c = operand_rows

pub returns-clause-successors : goal.returns-clause-successors
returns-clause-successors c = successor_rows

pub returns-clause-all_uses : goal.returns-clause-all_uses
returns-clause-all_uses c = replace_all_rows
