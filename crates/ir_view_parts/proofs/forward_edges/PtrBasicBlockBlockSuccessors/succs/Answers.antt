use Rattle.ir_core_queries.specs.State.{forest_of}
use Rattle.ir_view_parts.proofs.Leads.{targets-live}
use Rattle.ir_view_parts.proofs.forward_edges.PtrBasicBlockBlockSuccessors.succs.Goals as goal

pub returns-in-Some-clause-live : goal.returns-in-Some-clause-live
returns-in-Some-clause-live g c = targets-live c.deref.result.now (λ p. p.index) (λ blocks. blocks.items) c.targets.result c.targets.ensures.exact (forest_of c.args.ctx.now) _ c.deref.ensures.leads
