use Rattle.ir_text_meaning.proofs.Results.{results_there}
use Rattle.ir_text_meaning.proofs.result_laws.names_follow_values.Goals as goal

pub returns : goal.returns
returns c = results_there
