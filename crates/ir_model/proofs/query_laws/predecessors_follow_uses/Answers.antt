use Rattle.ir_model.proofs.Queries.{predecessors_follow_uses}
use Rattle.ir_model.proofs.query_laws.predecessors_follow_uses.Goals as goal

pub returns : goal.returns
returns g c = predecessors_follow_uses _
