use Rattle.ir_core_queries.specs.State.{forest_of}
use Rattle.ir_view_parts.proofs.TypeLemmas.{operand-types, operand-types-known}
use Rattle.ir_view_parts.proofs.operation_parts.OperationOperationParts.operand_types.Goals as goal

pub returns-clause-exact : goal.returns-clause-exact
returns-clause-exact g c = operand-types (forest_of c.args.ctx.now) _ c.recall_well_formed.ensures c.args.self.now c.requires c.all.result c.all.ensures

pub returns-clause-known : goal.returns-clause-known
returns-clause-known g c = operand-types-known (forest_of c.args.ctx.now) _ c.recall_well_formed.ensures c.args.self.now c.requires c.all.result c.all.ensures
