use Rattle.ir_core_queries.specs.State.{forest_of}
use Rattle.ir_view_parts.proofs.Stands.{stands-found}
use Rattle.ir_view_parts.proofs.backward_edges.stands_in.Goals as goal

pub returns-in-Some : goal.returns-in-Some
returns-in-Some g c = stands-found (forest_of c.args.ctx.now) _ c.recall_well_formed.ensures c.args.op c.in-Some.parent c.args.block c.eq.result c.eq.ensures c.in-Some.ensures
