use Rattle.ir_core_context.proofs.Stands.{parent-block, parent-no_op, parent-no_region, parent-there}
use Rattle.ir_core_context.proofs.asking.block_of_user.Goals as goal

pub unreachable-requires : goal.unreachable-requires
unreachable-requires g c = parent-no_op c.records.result.now c.args.ctx.now.records c.records.ensures c.args.user c.parent_of.result c.parent_of.ensures c.in-Some-Op.field-0 c.in-Some-Op.field-0-0 c.in-Some-Op.is c.in-Some-Op.field-0-is

pub unreachable-requires-in-Some-Region : goal.unreachable-requires-in-Some-Region
unreachable-requires-in-Some-Region g c = parent-no_region c.records.result.now c.args.ctx.now.records c.records.ensures c.args.user c.parent_of.result c.parent_of.ensures c.in-Some-Region.field-0 c.in-Some-Region.field-0-0 c.in-Some-Region.is c.in-Some-Region.field-0-is

pub unreachable-requires-in-None : goal.unreachable-requires-in-None
unreachable-requires-in-None g c = parent-there c.records.result.now c.args.ctx.now.records c.records.ensures c.args.user c.parent_of.result c.parent_of.ensures c.requires.linked c.in-None.is

pub returns : goal.returns
returns g c = parent-block c.records.result.now c.args.ctx.now.records c.records.ensures c.args.user c.parent_of.result c.parent_of.ensures c.in-Some-Block.field-0 c.in-Some-Block.block c.in-Some-Block.is c.in-Some-Block.field-0-is
