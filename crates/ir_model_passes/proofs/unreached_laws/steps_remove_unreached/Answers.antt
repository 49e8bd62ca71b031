use Rattle.ir_model.proofs.TwoRuns.{lawful}
use Rattle.ir_model_passes.proofs.UnreachedSteps.{steps_remove_unreached}
use Rattle.ir_model_passes.proofs.unreached_laws.steps_remove_unreached.Goals as goal

pub returns : goal.returns
returns g c = λ f h keys region live w lists some none. steps_remove_unreached lawful f region keys w live lists h some none
