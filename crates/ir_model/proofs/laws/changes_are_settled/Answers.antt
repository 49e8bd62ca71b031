use Rattle.ir_model.proofs.StepLaws.{changes_are_one, moved_home_stays}
use Rattle.ir_model.proofs.laws.changes_are_settled.Goals as goal

pub returns-clause-one : goal.returns-clause-one
returns-clause-one g c = λ behaviour. changes_are_one _ behaviour

pub returns-clause-home : goal.returns-clause-home
returns-clause-home g c = λ behaviour. moved_home_stays _ behaviour
