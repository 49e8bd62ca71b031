use Rattle.ir_core_queries.specs.State.{forest_of}
use Rattle.ir_view_parts.proofs.Stands.{linked-in}
use Rattle.ir_view_parts.proofs.backward_edges.linked_block.Goals as goal

pub unreachable-requires : goal.unreachable-requires
unreachable-requires g c = let at = linked-in (forest_of c.args.ctx.now) c.args.op c.requires.linked in c.in-None.ensures at.0 at.1
