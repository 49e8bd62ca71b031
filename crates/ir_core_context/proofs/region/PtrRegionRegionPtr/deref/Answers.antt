use Rattle.std.proofs.Common.{sym}
use Rattle.ir_core_context.proofs.Parents.{region-parent}
use Rattle.ir_core_context.proofs.region.PtrRegionRegionPtr.deref.Goals as goal

pub returns : goal.returns
returns g c = rw (sym c.ctx.view_is) (region-parent (record { records = c.ctx.inside.records; types = c.ctx.inside.types; next_value = c.ctx.inside.next_value; next_use = c.ctx.inside.next_use; side = c.ctx.inside.side; limits = c.ctx.inside.limits }) c.ctx.invariant c.args.self.index c.at.result.now c.at.ensures)
