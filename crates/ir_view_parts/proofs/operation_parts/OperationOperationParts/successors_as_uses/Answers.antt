use Rattle.ir_view_parts.proofs.Leads.{successor-uses-live}
use Rattle.ir_view_parts.proofs.operation_parts.OperationOperationParts.successors_as_uses.Goals as goal

pub returns-clause-live : goal.returns-clause-live
returns-clause-live g c = successor-uses-live c.args.self.now c.all.result c.all.ensures
