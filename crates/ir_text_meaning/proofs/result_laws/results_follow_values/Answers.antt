use Rattle.ir_text_meaning.proofs.Results.{result_there}
use Rattle.ir_text_meaning.proofs.result_laws.results_follow_values.Goals as goal

pub returns : goal.returns
returns c = result_there
