use Rattle.std.proofs.Common.{◌≡◌}
use Rattle.ir_core_queries.specs.State.{forest_of}
use Rattle.generic_text.proofs.operations.read_op.Given as goal

abbrev pub invariant-loop-at : goal.invariant-loop-at
invariant-loop-at l = forest_of l.ctx ≡ forest_of l.fn.ctx

abbrev pub invariant-loop-at-2 : goal.invariant-loop-at-2
invariant-loop-at-2 l = forest_of l.ctx ≡ forest_of l.fn.ctx
