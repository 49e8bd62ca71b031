use Rattle.ir_core_queries.specs.State.{forest_of}
use Rattle.generic_text.specs.Left.{GoesOn}
use Rattle.generic_text.proofs.building.connect_all.Given as goal

abbrev pub invariant-loop-op : goal.invariant-loop-op
invariant-loop-op l = GoesOn (forest_of l.fn.ctx) l.made (forest_of l.ctx) l.made
