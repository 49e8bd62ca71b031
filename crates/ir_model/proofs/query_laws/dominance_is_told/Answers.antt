use Rattle.ir_model.proofs.Queries.{dominance_is_told}
use Rattle.ir_model.proofs.query_laws.dominance_is_told.Goals as goal

pub returns : goal.returns
returns g c = dominance_is_told _
