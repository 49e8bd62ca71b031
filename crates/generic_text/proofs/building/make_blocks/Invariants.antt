use Rattle.ir_core_queries.specs.State.{forest_of}
use Rattle.generic_text.specs.Left.{GoesOn}
use Rattle.generic_text.proofs.building.make_blocks.Given as goal

abbrev pub invariant-loop-rows : goal.invariant-loop-rows
invariant-loop-rows l = GoesOn (forest_of l.fn.ctx) l.fn.made (forest_of l.ctx) l.made
