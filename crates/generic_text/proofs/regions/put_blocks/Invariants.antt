use Rattle.ir_core_queries.specs.State.{forest_of}
use Rattle.ir_model.specs.Forest.{a_region}
use Rattle.generic_text.specs.Left.{GoesOnAt}
use Rattle.generic_text.proofs.regions.put_blocks.Given as goal

abbrev pub invariant-loop : goal.invariant-loop
invariant-loop l = GoesOnAt (a_region l.region.index) (forest_of l.fn.ctx) l.made (forest_of l.ctx) l.made
