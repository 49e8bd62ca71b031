use Rattle.std.proofs.Common.{sym}
use Rattle.ir_core_context.proofs.Standing.{ops-live, ops-stand}
use Rattle.ir_core_context.proofs.arena_obj.OperationArenaObj.get_arena.Goals as goal

pub returns-clause-live : goal.returns-clause-live
returns-clause-live g c = rw (sym c.ctx.view_is) (ops-live (record { records = c.ctx.inside.records; types = c.ctx.inside.types; next_value = c.ctx.inside.next_value; next_use = c.ctx.inside.next_use; side = c.ctx.inside.side; limits = c.ctx.inside.limits }))

pub returns-clause-objects : goal.returns-clause-objects
returns-clause-objects g c = rw (sym c.ctx.view_is) (ops-stand (record { records = c.ctx.inside.records; types = c.ctx.inside.types; next_value = c.ctx.inside.next_value; next_use = c.ctx.inside.next_use; side = c.ctx.inside.side; limits = c.ctx.inside.limits }) c.ctx.invariant)
