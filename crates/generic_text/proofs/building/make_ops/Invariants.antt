use Rattle.ir_core_queries.specs.State.{forest_of}
use Rattle.generic_text.specs.Left.{GoesOn}
use Rattle.generic_text.proofs.building.make_ops.Given as goal

abbrev pub invariant-loop-place : goal.invariant-loop-place
invariant-loop-place l = GoesOn (forest_of l.fn.ctx) l.fn.made (forest_of l.ctx) l.made
