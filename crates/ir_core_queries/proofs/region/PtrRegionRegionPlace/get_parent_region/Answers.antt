use Rattle.std.specs.Option.{option_map}
use Rattle.ir_model.specs.Forest.{a_region, an_op}
use Rattle.ir_core_context.specs.State.{forest_of}
use Rattle.ir_core_queries.proofs.Above.{above-parent}
use Rattle.ir_core_queries.proofs.region.PtrRegionRegionPlace.get_parent_region.Goals as goal

pub returns-clause-above : goal.returns-clause-above
returns-clause-above g c =
    let f = forest_of c.args.ctx.now in
    above-parent f c.recall_well_formed.ensures.nested 2 (a_region c.args.self.index) (an_op c.get_parent_op.result.index) (option_map (λ p. a_region p.index) c.get_parent_region.result) c.get_parent_op.ensures.parent
    c.get_parent_region.ensures.above
