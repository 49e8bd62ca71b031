use Rattle.ir_model.proofs.StepTells.{counter_is_told, slots_are_told, others_are_made, only_growth_is_refused, made_pass_exactly, refused_pass_at_most, condition_leaves_all}
use Rattle.ir_model.proofs.PassesMade.{made_pass_what_they_make}
use Rattle.ir_model.proofs.step_laws.steps_tell.Goals as goal

pub returns-clause-counter : goal.returns-clause-counter
returns-clause-counter g c = λ behaviour. counter_is_told _ behaviour

pub returns-clause-slots : goal.returns-clause-slots
returns-clause-slots g c = λ behaviour. slots_are_told _ behaviour

pub returns-clause-made : goal.returns-clause-made
returns-clause-made g c = λ behaviour. others_are_made _ behaviour

pub returns-clause-memory : goal.returns-clause-memory
returns-clause-memory g c = λ behaviour. only_growth_is_refused _ behaviour

pub returns-clause-passed : goal.returns-clause-passed
returns-clause-passed g c = λ behaviour. made_pass_exactly _ behaviour

pub returns-clause-listed : goal.returns-clause-listed
returns-clause-listed g c = λ behaviour. made_pass_what_they_make _ behaviour

pub returns-clause-skipped : goal.returns-clause-skipped
returns-clause-skipped g c = λ behaviour. refused_pass_at_most _ behaviour

pub returns-clause-condition : goal.returns-clause-condition
returns-clause-condition g c = λ behaviour. condition_leaves_all _ behaviour
