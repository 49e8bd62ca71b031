use Rattle.ir_model.specs.Forest.{a_block}
use Rattle.ir_core_context.specs.State.{forest_of}
use Rattle.ir_rewrite.proofs.Standing.{stands, stands_not}
use Rattle.ir_rewrite.proofs.checks.stands_outside.Goals as goal

pub returns-in-Some : goal.returns-in-Some
returns-in-Some g c = stands (forest_of c.args.ctx.now) c.recall_well_formed.ensures.nested c.args.op.index c.args.mark.index (a_block c.in-Some.block.index) c.in-Some.ensures.parent c.is_inside.result c.is_inside.ensures

pub returns-in-None : goal.returns-in-None
returns-in-None g c = stands_not (forest_of c.args.ctx.now) c.args.op.index c.args.mark.index c.in-None.ensures.parent
