use Rattle.ir_model.proofs.Edges.{edges_meet}
use Rattle.ir_model.proofs.definition_laws.successors_meet_predecessors.Goals as goal

pub returns : goal.returns
returns g c = λ behaviour. edges_meet _ behaviour
