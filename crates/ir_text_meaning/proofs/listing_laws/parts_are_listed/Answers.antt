use Rattle.ir_text_meaning.proofs.Listed.{results_listed, operands_listed, successors_listed, keys_listed, operand_types_listed, arguments_listed}
use Rattle.ir_text_meaning.proofs.listing_laws.parts_are_listed.Goals as goal

pub returns-clause-results : goal.returns-clause-results
returns-clause-results c = results_listed

pub returns-clause-operands : goal.returns-clause-operands
returns-clause-operands c = operands_listed

pub returns-clause-successors : goal.returns-clause-successors
returns-clause-successors c = successors_listed

pub returns-clause-keys : goal.returns-clause-keys
returns-clause-keys c = keys_listed

pub returns-clause-operand_types : goal.returns-clause-operand_types
returns-clause-operand_types c = operand_types_listed

pub returns-clause-arguments : goal.returns-clause-arguments
returns-clause-arguments c = arguments_listed
