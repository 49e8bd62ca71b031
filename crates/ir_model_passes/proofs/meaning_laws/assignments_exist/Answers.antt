use Rattle.ir_model.proofs.TwoRuns.{lawful}
use Rattle.ir_model_passes.proofs.Completed.{completed}
use Rattle.ir_model_passes.proofs.meaning_laws.assignments_exist.Goals as goal

pub returns : goal.returns
returns g c = λ behaviour gives f keys w ranked. completed lawful behaviour gives f keys w ranked
