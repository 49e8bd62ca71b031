use Rattle.ir_model.proofs.DefinitionRows.{result_rows, argument_rows}
use Rattle.ir_model.proofs.edit_rows.definition_rows.Goals as goal

pub returns-clause-results : goal.returns-clause-results
returns-clause-results c = result_rows

pub returns-clause-arguments : goal.returns-clause-arguments
returns-clause-arguments c = argument_rows
