use Rattle.ir_core_queries.specs.State.{forest_of}
use Rattle.ir_run_passes.specs.Ordering.{IsUnmet}
use Rattle.ir_run_passes.proofs.NamedOperands.{NoneNamed}
use Rattle.ir_run_passes.proofs.ordering.names_unmet.Given as goal

-- none of the operands so far names an unmet value
abbrev pub invariant-loop-index : goal.invariant-loop-index
invariant-loop-index g l = NoneNamed (forest_of l.ctx) (IsUnmet (forest_of l.ctx) l.block.index l.met.keys) l.fn.user.index l.index
