use Rattle.std.specs.Option.{option_map}
use Rattle.ir_model.specs.Forest.{a_block, a_region, an_op}
use Rattle.ir_core_context.specs.State.{forest_of}
use Rattle.ir_core_queries.proofs.Above.{above-one, above-parent}
use Rattle.ir_core_queries.proofs.operation.PtrOperationOperationPlace.get_parent_region.Goals as goal

pub returns-clause-above : goal.returns-clause-above
returns-clause-above g c =
    let f = forest_of c.args.ctx.now in
    above-parent f c.recall_well_formed.ensures.nested 1 (an_op c.args.self.index) (a_block c.in_ok-get_parent_block.field-0.index) (option_map (λ p. a_region p.index) c.get_parent_region.result) c.in_ok-get_parent_block.ensures.parent
    (above-one f (a_block c.in_ok-get_parent_block.field-0.index) (option_map (λ p. a_region p.index) c.get_parent_region.result) c.get_parent_region.ensures.parent)
