use Rattle.ir_view_parts.proofs.Stands.{parent-block, parent-no_op, parent-no_region, parent-none}
use Rattle.ir_view_parts.proofs.backward_edges.parent_block.Goals as goal

pub returns-in-Block : goal.returns-in-Block
returns-in-Block g c = parent-block c.records.result.now c.args.ctx.now.records c.records.ensures c.args.op c.parent_of.result c.parent_of.ensures c.in_ok-parent.parent c.in-Block.block c.in_ok-parent.was c.in-Block.is

pub returns-in-Op : goal.returns-in-Op
returns-in-Op g c = absurd (parent-no_op c.records.result.now c.args.ctx.now.records c.records.ensures c.args.op c.parent_of.result c.parent_of.ensures c.in_ok-parent.parent c.in-Op.field-0 c.in_ok-parent.was c.in-Op.is)

pub returns-in-Region : goal.returns-in-Region
returns-in-Region g c = absurd (parent-no_region c.records.result.now c.args.ctx.now.records c.records.ensures c.args.op c.parent_of.result c.parent_of.ensures c.in_ok-parent.parent c.in-Region.field-0 c.in_ok-parent.was c.in-Region.is)

pub returns-in_err-parent : goal.returns-in_err-parent
returns-in_err-parent g c = rw c.from_residual.ensures (parent-none c.records.result.now c.args.ctx.now.records c.records.ensures c.args.op c.parent_of.result c.parent_of.ensures c.in_err-parent.was)
