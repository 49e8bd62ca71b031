use Rattle.ir_view_parts.proofs.Leads.{result-types-known}
use Rattle.ir_view_parts.proofs.operation_parts.OperationOperationParts.result_types.Goals as goal

pub returns-clause-known : goal.returns-clause-known
returns-clause-known g c = result-types-known c.args.self.now c.all.result c.all.ensures
