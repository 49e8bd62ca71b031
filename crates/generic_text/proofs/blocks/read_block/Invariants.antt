use Rattle.std.proofs.Common.{◌≡◌}
use Rattle.ir_core_queries.specs.State.{forest_of}
use Rattle.generic_text.proofs.blocks.read_block.Given as goal

abbrev pub invariant-loop-at : goal.invariant-loop-at
invariant-loop-at l = forest_of l.ctx ≡ forest_of l.fn.ctx
