use Rattle.ir_model.proofs.Grows.{new_sound}
use Rattle.ir_model.proofs.laws.new_sessions_are_sound.Goals as goal

pub returns : goal.returns
returns g c = new_sound
