use Rattle.ir_model.proofs.TwoRuns.{lawful}
use Rattle.ir_model.proofs.ByUses.{closed_by_definitions}
use Rattle.ir_model.proofs.definition_laws.closed_by_definitions.Goals as goal

pub returns : goal.returns
returns g c = λ f keys w. closed_by_definitions lawful f keys w
