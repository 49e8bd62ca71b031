use Rattle.ir_view_parts.proofs.Leads.{operand-uses-live}
use Rattle.ir_view_parts.proofs.operation_parts.OperationOperationParts.operands_as_uses.Goals as goal

pub returns-clause-live : goal.returns-clause-live
returns-clause-live g c = operand-uses-live c.args.self.now c.all.result c.all.ensures
