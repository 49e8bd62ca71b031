use Rattle.std.proofs.Common.{length, sym}
use Rattle.ir_core_context.specs.State.{forest_of, types_of}
use Rattle.ir_core_context.proofs.Leads.{block-leads-to-live}
use Rattle.ir_core_context.proofs.Standing.{block-stands}
use Rattle.ir_core_context.proofs.block.PtrBasicBlockBlockPtr.deref.Goals as goal

pub returns-clause-found : goal.returns-clause-found
returns-clause-found g c = rw (sym c.ctx.view_is) (block-stands (record { records = c.ctx.inside.records; types = c.ctx.inside.types; next_value = c.ctx.inside.next_value; next_use = c.ctx.inside.next_use; side = c.ctx.inside.side; limits = c.ctx.inside.limits }) c.ctx.invariant c.args.self.index c.at.result.now c.at.ensures)

pub returns-clause-leads : goal.returns-clause-leads
returns-clause-leads g c =
    block-leads-to-live (forest_of c.args.ctx.now) (length (types_of c.args.ctx.now)) c.recall_well_formed.ensures c.args.self.index c.at.result.now (returns-clause-found g c)
