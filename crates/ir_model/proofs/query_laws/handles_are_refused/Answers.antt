use Rattle.ir_model.proofs.Queries.{handles_are_refused, keys_keep_their_kind}
use Rattle.ir_model.proofs.query_laws.handles_are_refused.Goals as goal

pub returns-clause-made : goal.returns-clause-made
returns-clause-made g c = keys_keep_their_kind _

pub returns-clause-refused : goal.returns-clause-refused
returns-clause-refused g c = handles_are_refused _
