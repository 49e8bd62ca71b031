use Rattle.ir_view_parts.proofs.Leads.{successors-live}
use Rattle.ir_view_parts.proofs.operation_parts.OperationOperationParts.successors.Goals as goal

pub returns-clause-live : goal.returns-clause-live
returns-clause-live g c = successors-live c.args.self.now c.all.result c.all.ensures
