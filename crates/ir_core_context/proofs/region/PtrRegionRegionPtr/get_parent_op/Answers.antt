use Rattle.std.proofs.Common.{sym}
use Rattle.ir_core_context.proofs.Parents.{IsRegion-in, region-parent}
use Rattle.ir_core_context.proofs.region.PtrRegionRegionPtr.get_parent_op.Goals as goal

pub returns-clause-parent : goal.returns-clause-parent
returns-clause-parent g c =
    rw (sym c.ctx.view_is, c.from_index.ensures)
    (IsRegion-in _ c.args.self.index c.at.result.now (region-parent (record { records = c.ctx.inside.records; types = c.ctx.inside.types; next_value = c.ctx.inside.next_value; next_use = c.ctx.inside.next_use; side = c.ctx.inside.side; limits = c.ctx.inside.limits }) c.ctx.invariant c.args.self.index c.at.result.now c.at.ensures))

pub returns-clause-live : goal.returns-clause-live
returns-clause-live g c =
    rw (sym c.ctx.view_is, c.from_index.ensures)
    (region-parent (record { records = c.ctx.inside.records; types = c.ctx.inside.types; next_value = c.ctx.inside.next_value; next_use = c.ctx.inside.next_use; side = c.ctx.inside.side; limits = c.ctx.inside.limits }) c.ctx.invariant c.args.self.index c.at.result.now c.at.ensures).parent_live
