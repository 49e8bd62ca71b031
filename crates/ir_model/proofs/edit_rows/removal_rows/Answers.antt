use Rattle.ir_model.proofs.RemovalRows.{drop_rows, erase_rows}
use Rattle.ir_model.proofs.edit_rows.removal_rows.Goals as goal

pub returns-clause-dropped : goal.returns-clause-dropped
returns-clause-dropped c = drop_rows

pub returns-clause-erased : goal.returns-clause-erased
returns-clause-erased c = erase_rows
