use Rattle.ir_model.proofs.Progress.{room_is_enough, sound_sessions_go_on, runs_are_counted, runs_go_on}
use Rattle.ir_model.proofs.progress_laws.sessions_go_on.Goals as goal

pub returns-clause-made : goal.returns-clause-made
returns-clause-made g c = λ behaviour. room_is_enough behaviour

pub returns-clause-steps : goal.returns-clause-steps
returns-clause-steps g c = λ behaviour. sound_sessions_go_on behaviour

pub returns-clause-counted : goal.returns-clause-counted
returns-clause-counted g c = λ behaviour. runs_are_counted behaviour

pub returns-clause-runs : goal.returns-clause-runs
returns-clause-runs g c = λ behaviour. runs_go_on behaviour
