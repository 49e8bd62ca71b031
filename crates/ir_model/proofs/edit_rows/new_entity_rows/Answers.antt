use Rattle.ir_model.proofs.NewRows.{type_rows, new_op_rows, new_block_rows}
use Rattle.ir_model.proofs.edit_rows.new_entity_rows.Goals as goal

pub returns-clause-types : goal.returns-clause-types
returns-clause-types c = type_rows

pub returns-clause-blocks : goal.returns-clause-blocks
returns-clause-blocks c = new_block_rows

pub returns-clause-operations : goal.returns-clause-operations
returns-clause-operations c = new_op_rows
