use Rattle.ir_model_passes.proofs.Unreached.{removal_tells}
use Rattle.ir_model_passes.proofs.unreached_laws.unreached_removal_is_one.Goals as goal

pub returns : goal.returns
returns g c = λ behaviour gives f h keys count region w s. removal_tells behaviour gives f keys region h count w s
