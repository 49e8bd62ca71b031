use Rattle.std.proofs.Common.{List, ◌++◌}
use Rattle.ir_model.specs.ContextIds.{context_ids}
use Rattle.ir_model.specs.Forest.{Entity, a_block}
use Rattle.ir_model.specs.Subtree.{ListsSubtree}
use Rattle.ir_core_queries.specs.State.{forest_of}
use Rattle.ir_run_unreached.proofs.KeptNames.{MarksPassed}
use Rattle.ir_run_unreached.proofs.condition.mark_inside.Given as goal

-- the blocks that were passed are marked
abbrev pub invariant-loop-entity : goal.invariant-loop-entity
invariant-loop-entity g l =
    (goal.iterator-loop-entity g).can_next l.entity-iterator
    × (goal.iterator-loop-entity g).is_finite l.entity-iterator
    × ((done : List (Entity context_ids)) × ListsSubtree (forest_of l.ctx) (a_block l.fn.block.index) (done ++ l.entity-iterator) × MarksPassed (forest_of l.ctx) done l.initial.marked l.marked)
