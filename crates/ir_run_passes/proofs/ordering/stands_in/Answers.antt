use Rattle.ir_core_queries.specs.State.{forest_of}
use Rattle.ir_run_passes.proofs.Unmet.{stands_where, stands_nowhere}
use Rattle.ir_run_passes.proofs.ordering.stands_in.Goals as goal

pub returns-in-Some : goal.returns-in-Some
returns-in-Some g c =
    stands_where (forest_of c.args.ctx.now) c.args.block.index c.recall_well_formed.ensures.nested (λ p. p.index) c.args.op.index c.in-Some.parent c.in-Some.ensures.parent c.is_same_index.result c.is_same_index.ensures

pub returns-in-None : goal.returns-in-None
returns-in-None g c = stands_nowhere (forest_of c.args.ctx.now) c.args.block.index c.args.op.index c.in-None.ensures.parent
