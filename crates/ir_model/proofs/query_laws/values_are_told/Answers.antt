use Rattle.ir_model.proofs.Queries.{values_are_told}
use Rattle.ir_model.proofs.query_laws.values_are_told.Goals as goal

pub returns : goal.returns
returns g c = values_are_told _
