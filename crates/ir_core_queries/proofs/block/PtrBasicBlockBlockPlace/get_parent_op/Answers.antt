use Rattle.std.proofs.Common.{Some}
use Rattle.ir_model.specs.Forest.{a_block, a_region, an_op}
use Rattle.ir_core_context.specs.State.{forest_of}
use Rattle.ir_core_queries.proofs.Above.{above-one, above-parent}
use Rattle.ir_core_queries.proofs.block.PtrBasicBlockBlockPlace.get_parent_op.Goals as goal

pub returns-clause-above : goal.returns-clause-above
returns-clause-above g c =
    let f = forest_of c.args.ctx.now in
    let region = a_region c.in_ok-region.region.index in
    let op = an_op c.get_parent_op.result.index in
    above-parent f c.recall_well_formed.ensures.nested 1 (a_block c.args.self.index) region (Some op) c.in_ok-region.ensures.parent (above-one f region (Some op) c.get_parent_op.ensures.parent)
