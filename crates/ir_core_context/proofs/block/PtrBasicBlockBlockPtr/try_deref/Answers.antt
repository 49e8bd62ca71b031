use Rattle.std.proofs.Common.{◌≡◌, length, rules, sym, IfOk, Some}
use Rattle.ir_base_arenas.specs.Arena.{get}
use Rattle.ir_core_context.specs.State.{forest_of, types_of}
use Rattle.ir_core_context.proofs.Leads.{block-leads-found}
use Rattle.ir_core_context.proofs.Standing.{blocks-found}
use Rattle.ir_core_context.proofs.block.PtrBasicBlockBlockPtr.try_deref.Goals as goal

pub returns-clause-found : goal.returns-clause-found
returns-clause-found g c =
    let at : IfOk c.ok_or.result (λ block. get c.ctx.inside.records.blocks c.args.self.index ≡ Some block.now) = search rules in
    rw (sym c.ctx.view_is) (blocks-found (record { records = c.ctx.inside.records; types = c.ctx.inside.types; next_value = c.ctx.inside.next_value; next_use = c.ctx.inside.next_use; side = c.ctx.inside.side; limits = c.ctx.inside.limits }) c.ctx.invariant c.args.self.index (λ block. block.now) c.ok_or.result at)

pub returns-clause-leads : goal.returns-clause-leads
returns-clause-leads g c =
    block-leads-found (forest_of c.args.ctx.now) (length (types_of c.args.ctx.now)) c.args.self.index (λ block. block.now) c.ok_or.result c.recall_well_formed.ensures (returns-clause-found g c)
