use Rattle.std.proofs.Common.{take}
use Rattle.ir_model.specs.BlockGraph.{targets_of}
use Rattle.ir_model.specs.Nesting.{In, blocks_of}
use Rattle.ir_core_queries.specs.State.{forest_of}
use Rattle.ir_run_unreached.specs.Marks.{Adds}
use Rattle.ir_run_unreached.proofs.reached.mark_targets.Given as goal

-- those of the first targets are marked
abbrev pub invariant-loop-place : goal.invariant-loop-place
invariant-loop-place g l = Adds (λ b. In b (take l.place (targets_of (forest_of l.ctx) l.fn.op.index)) × In b (blocks_of (forest_of l.ctx) l.fn.region.index)) l.initial.marked l.marked
