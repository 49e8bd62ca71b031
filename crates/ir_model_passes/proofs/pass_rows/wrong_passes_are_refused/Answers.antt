use Rattle.ir_model_passes.proofs.WrongPasses.{wrong_passes}
use Rattle.ir_model_passes.proofs.pass_rows.wrong_passes_are_refused.Goals as goal

pub returns : goal.returns
returns g c = λ gives. wrong_passes gives
