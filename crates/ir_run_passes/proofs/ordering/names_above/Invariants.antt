use Rattle.ir_core_queries.specs.State.{forest_of}
use Rattle.ir_run_passes.specs.Ordering.{IsFromAbove}
use Rattle.ir_run_passes.proofs.NamedOperands.{NoneNamed}
use Rattle.ir_run_passes.proofs.ordering.names_above.Given as goal

-- none of the operands so far names a value from above
abbrev pub invariant-loop-index : goal.invariant-loop-index
invariant-loop-index g l = NoneNamed (forest_of l.ctx) (IsFromAbove (forest_of l.ctx) l.block.index l.fn.user.index.slot) l.fn.user.index l.index
