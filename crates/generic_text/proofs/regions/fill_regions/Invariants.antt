use Rattle.ir_core_queries.specs.State.{forest_of}
use Rattle.ir_model.specs.Forest.{an_op}
use Rattle.generic_text.specs.Left.{GoesOnAt}
use Rattle.generic_text.proofs.regions.fill_regions.Given as goal

abbrev pub invariant-loop-index : goal.invariant-loop-index
invariant-loop-index l = GoesOnAt (an_op l.op.index) (forest_of l.fn.ctx) l.made (forest_of l.ctx) l.made
