use Rattle.std.proofs.Common.{◌≡◌, List, ◌++◌}
use Rattle.ir_model.specs.declared.ids.ArenaIndex.{ArenaIndex}
use Rattle.ir_model.specs.Nesting.{In, blocks_of, ops_of}
use Rattle.ir_core_queries.specs.State.{forest_of}
use Rattle.ir_run_unreached.specs.Marks.{Adds, IsNamedIn}
use Rattle.ir_run_unreached.proofs.reached.mark_successors.Given as goal

-- what the operations that were passed name is marked
abbrev pub invariant-loop-op : goal.invariant-loop-op
invariant-loop-op g l =
    (goal.iterator-loop-op g).can_next l.op-iterator
    × (goal.iterator-loop-op g).is_finite l.op-iterator
    × ((done : List ArenaIndex) × (done ++ l.op-iterator ≡ ops_of (forest_of l.ctx) l.fn.block.index)
    × Adds (λ b. IsNamedIn (forest_of l.ctx) done b × In b (blocks_of (forest_of l.ctx) l.fn.region.index)) l.initial.marked l.marked)
