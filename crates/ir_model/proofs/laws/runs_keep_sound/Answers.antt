use Rattle.ir_model.proofs.StepSound.{runs_sound, runs_well_formed}
use Rattle.ir_model.proofs.laws.runs_keep_sound.Goals as goal

pub returns-clause-sound : goal.returns-clause-sound
returns-clause-sound g c = λ behaviour. runs_sound behaviour

pub returns-clause-well_formed : goal.returns-clause-well_formed
returns-clause-well_formed g c = λ behaviour. runs_well_formed behaviour
