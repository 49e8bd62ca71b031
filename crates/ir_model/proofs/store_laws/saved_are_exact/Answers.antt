use Rattle.ir_model.proofs.Saving.{saved_are_exact}
use Rattle.ir_model.proofs.store_laws.saved_are_exact.Goals as goal

pub returns : goal.returns
returns g c = saved_are_exact _
