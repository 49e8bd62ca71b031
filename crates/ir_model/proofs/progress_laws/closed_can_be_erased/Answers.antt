use Rattle.ir_model.proofs.Progress.{closed_can_go, closed_are_erased}
use Rattle.ir_model.proofs.progress_laws.closed_can_be_erased.Goals as goal

pub returns-clause-removal : goal.returns-clause-removal
returns-clause-removal g c = λ behaviour. closed_can_go behaviour

pub returns-clause-erased : goal.returns-clause-erased
returns-clause-erased g c = λ behaviour. closed_are_erased behaviour
