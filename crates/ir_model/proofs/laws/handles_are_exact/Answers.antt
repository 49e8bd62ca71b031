use Rattle.ir_model.proofs.Uniquing.{runs_keep_uniqued, handles_stay, one_handle}
use Rattle.ir_model.proofs.laws.handles_are_exact.Goals as goal

pub returns-clause-uniqued : goal.returns-clause-uniqued
returns-clause-uniqued g c = λ behaviour. runs_keep_uniqued behaviour

pub returns-clause-stay : goal.returns-clause-stay
returns-clause-stay g c = λ behaviour. handles_stay behaviour

pub returns-clause-one : goal.returns-clause-one
returns-clause-one g c = λ behaviour. one_handle behaviour
