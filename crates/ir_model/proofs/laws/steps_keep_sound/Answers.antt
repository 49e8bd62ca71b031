use Rattle.ir_model.proofs.StepSound.{steps_sound}
use Rattle.ir_model.proofs.laws.steps_keep_sound.Goals as goal

pub returns : goal.returns
returns g c = λ behaviour. steps_sound behaviour
