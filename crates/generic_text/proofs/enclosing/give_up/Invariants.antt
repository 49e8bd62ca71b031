use Rattle.ir_core_queries.specs.State.{forest_of}
use Rattle.generic_text.specs.Left.{StaysApartBut}
use Rattle.generic_text.proofs.enclosing.give_up.Given as goal

abbrev pub invariant-out : goal.invariant-out
invariant-out l = StaysApartBut l.block.index (forest_of l.fn.ctx) (forest_of l.ctx)
