use Rattle.std.proofs.Common.{List, ◌++◌}
use Rattle.ir_model.specs.ContextIds.{context_ids}
use Rattle.ir_model.specs.Forest.{Entity, a_block}
use Rattle.ir_model.specs.Nesting.{In}
use Rattle.ir_model.specs.Subtree.{ListsSubtree}
use Rattle.ir_core_queries.specs.State.{forest_of}
use Rattle.ir_run_unreached.specs.Kept.{KeepsOwn}
use Rattle.ir_run_unreached.proofs.condition.keeps_all_inside.Given as goal

-- what names something of those that were passed stands in marked blocks
abbrev pub invariant-loop-entity : goal.invariant-loop-entity
invariant-loop-entity g l =
    (goal.iterator-loop-entity g).can_next l.entity-iterator
    × (goal.iterator-loop-entity g).is_finite l.entity-iterator
    × ((done : List (Entity context_ids)) × ListsSubtree (forest_of l.ctx) (a_block l.fn.block.index) (done ++ l.entity-iterator)
    × ((x : Entity context_ids) → In x done → KeepsOwn (forest_of l.ctx) l.marked x))
