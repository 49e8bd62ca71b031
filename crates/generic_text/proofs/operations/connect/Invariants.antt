use Rattle.ir_core_queries.specs.State.{forest_of}
use Rattle.ir_model.specs.Forest.{an_op}
use Rattle.generic_text.specs.Left.{GoesOnAt}
use Rattle.generic_text.proofs.operations.connect.Given as goal

abbrev pub invariant-loop-at : goal.invariant-loop-at
invariant-loop-at l = GoesOnAt (an_op l.op.index) (forest_of l.fn.ctx) l.made (forest_of l.ctx) l.made
