use Rattle.ir_model.specs.Forest.{of_block}
use Rattle.ir_core_queries.specs.State.{forest_of}
use Rattle.ir_run_unreached.proofs.KeptNames.{KeepsFirst}
use Rattle.ir_run_unreached.proofs.condition.keeps_block.Given as goal

-- what names one of the first arguments stands in marked blocks
abbrev pub invariant-loop-place : goal.invariant-loop-place
invariant-loop-place g l = KeepsFirst (forest_of l.ctx) l.marked (of_block l.fn.block.index) l.place
