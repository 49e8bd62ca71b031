use Rattle.ir_view_parts.proofs.Leads.{operands-live, operands-named}
use Rattle.std.proofs.Common.{◌∙◌, ap, map}
use Rattle.ir_core_records.specs.Meaning.{value_of}
use Rattle.ir_view_parts.proofs.operation_parts.OperationOperationParts.operands.Goals as goal

pub returns-clause-exact : goal.returns-clause-exact
returns-clause-exact g c = ap (map value_of) c.all.ensures ∙ operands-named c.args.self.now.operands

pub returns-clause-live : goal.returns-clause-live
returns-clause-live g c = operands-live c.args.self.now c.all.result c.all.ensures
