use Rattle.ir_model.proofs.TwoRuns.{two_runs}
use Rattle.ir_model.proofs.choices_unseen.Goals as goal

pub returns : goal.returns
returns g c = λ behaviour. two_runs _ behaviour
