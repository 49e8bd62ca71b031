use Rattle.ir_model.proofs.StepLaws.{versions_rise}
use Rattle.ir_model.proofs.laws.versions_rise.Goals as goal

pub returns : goal.returns
returns g c = versions_rise _
