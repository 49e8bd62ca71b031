use Rattle.ir_model.proofs.EachKind.{each_can_be_made}
use Rattle.ir_model.proofs.Progress.{new_sessions_step}
use Rattle.ir_model.proofs.laws.edits_can_be_made.Goals as goal

pub returns-clause-steps : goal.returns-clause-steps
returns-clause-steps g c = λ behaviour. new_sessions_step behaviour

pub returns-clause-made : goal.returns-clause-made
returns-clause-made g c = λ behaviour. each_can_be_made _ behaviour
