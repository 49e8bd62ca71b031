use Rattle.ir_model.proofs.GoneHandles.{runs_keep_numbers, refused_for_good}
use Rattle.ir_model.proofs.handle_laws.handles_stay_refused.Goals as goal

pub returns-clause-numbers : goal.returns-clause-numbers
returns-clause-numbers g c = λ behaviour. runs_keep_numbers behaviour

pub returns-clause-refused : goal.returns-clause-refused
returns-clause-refused g c = λ behaviour. refused_for_good behaviour
