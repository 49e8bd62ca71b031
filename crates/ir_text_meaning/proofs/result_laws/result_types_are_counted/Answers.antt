use Rattle.ir_text_meaning.proofs.AllFaults.{other_results_meet}
use Rattle.ir_text_meaning.proofs.result_laws.result_types_are_counted.Goals as goal

pub returns : goal.returns
returns c = other_results_meet
