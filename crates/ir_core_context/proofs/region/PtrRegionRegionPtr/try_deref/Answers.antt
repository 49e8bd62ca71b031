use Rattle.std.proofs.Common.{◌≡◌, sym, rules, IfOk, Some}
use Rattle.ir_base_arenas.specs.Arena.{get}
use Rattle.ir_core_context.proofs.Parents.{regions-found}
use Rattle.ir_core_context.proofs.region.PtrRegionRegionPtr.try_deref.Goals as goal

pub returns-clause-found : goal.returns-clause-found
returns-clause-found g c =
    let at : IfOk c.ok_or.result (λ region. get c.ctx.inside.records.regions c.args.self.index ≡ Some region.now) = search rules in
    rw (sym c.ctx.view_is) (regions-found (record { records = c.ctx.inside.records; types = c.ctx.inside.types; next_value = c.ctx.inside.next_value; next_use = c.ctx.inside.next_use; side = c.ctx.inside.side; limits = c.ctx.inside.limits }) c.ctx.invariant c.args.self.index (λ region. region.now) c.ok_or.result at)
