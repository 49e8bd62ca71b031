use Rattle.std.proofs.Common.{◌-◌, length}
use Rattle.ir_model.specs.Nesting.{blocks_of}
use Rattle.ir_core_queries.specs.State.{forest_of}
use Rattle.ir_run_unreached.proofs.Marking.{Marking}
use Rattle.ir_run_unreached.proofs.reached.reached_blocks.Given as goal

-- the marks are reached, and what those name that were looked at is marked
abbrev pub invariant-loop-block : goal.invariant-loop-block
invariant-loop-block g l = Marking (forest_of l.ctx) l.region.index l.marked l.place

abbrev pub decreases-loop-block : goal.decreases-loop-block
decreases-loop-block g l = length (blocks_of (forest_of l.ctx) l.region.index) - l.place
