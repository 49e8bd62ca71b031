use Rattle.ir_model.proofs.ListRows.{op_rows, block_rows, region_rows}
use Rattle.ir_model.proofs.edit_rows.list_rows.Goals as goal

pub returns-clause-ops : goal.returns-clause-ops
returns-clause-ops c = op_rows

pub returns-clause-blocks : goal.returns-clause-blocks
returns-clause-blocks c = block_rows

pub returns-clause-regions : goal.returns-clause-regions
returns-clause-regions c = region_rows
