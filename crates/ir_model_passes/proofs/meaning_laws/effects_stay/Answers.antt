use Rattle.ir_model_passes.proofs.Preorder.{effects_stay}
use Rattle.ir_model_passes.proofs.meaning_laws.effects_stay.Goals as goal

pub returns : goal.returns
returns g c = λ behaviour f h none s. effects_stay behaviour f h none s
