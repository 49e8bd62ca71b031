use Rattle.ir_model.proofs.StepLaws.{condition_is_told, refused_leave_state, all_leave_the_rest}
use Rattle.ir_model.proofs.laws.refusals_change_nothing.Goals as goal

pub returns-clause-told : goal.returns-clause-told
returns-clause-told g c = λ behaviour. condition_is_told _ behaviour

pub returns-clause-left : goal.returns-clause-left
returns-clause-left g c = λ behaviour. refused_leave_state _ behaviour

pub returns-clause-rest : goal.returns-clause-rest
returns-clause-rest g c = λ behaviour. all_leave_the_rest _ behaviour
