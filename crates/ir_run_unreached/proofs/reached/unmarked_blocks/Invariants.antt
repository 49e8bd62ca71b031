use Rattle.std.proofs.Common.{◌≡◌, List, ◌++◌, map}
use Rattle.ir_model.specs.declared.ids.ArenaIndex.{ArenaIndex}
use Rattle.ir_model.specs.Nesting.{blocks_of}
use Rattle.ir_core_queries.specs.State.{forest_of}
use Rattle.ir_run_unreached.specs.Marks.{LeavesUnmarked}
use Rattle.ir_run_unreached.proofs.reached.unmarked_blocks.Given as goal

-- of the blocks that were passed those are kept that are not marked
abbrev pub invariant-loop-block : goal.invariant-loop-block
invariant-loop-block g l =
    (goal.iterator-loop-block g).can_next l.block-iterator
    × (goal.iterator-loop-block g).is_finite l.block-iterator
    × ((done : List ArenaIndex) × (done ++ l.block-iterator ≡ blocks_of (forest_of l.ctx) l.fn.region.index) × LeavesUnmarked l.marked done (map (λ p. p.index) l.blocks.items))
