use Rattle.ir_model.proofs.Queries.{parents_of_values}
use Rattle.ir_model.proofs.query_laws.parents_of_values.Goals as goal

pub returns : goal.returns
returns g c = parents_of_values _
