use Rattle.ir_model.proofs.Saving.{bodies_are_set}
use Rattle.ir_model.proofs.store_laws.bodies_are_set.Goals as goal

pub returns : goal.returns
returns g c = bodies_are_set _
