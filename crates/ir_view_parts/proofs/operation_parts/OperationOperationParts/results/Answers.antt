use Rattle.ir_view_parts.proofs.Leads.{results-live}
use Rattle.ir_view_parts.proofs.operation_parts.OperationOperationParts.results.Goals as goal

pub returns-clause-live : goal.returns-clause-live
returns-clause-live g c = results-live c.args.self.now c.all.result c.all.ensures
