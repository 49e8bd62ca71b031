use Rattle.std.proofs.Common.{◌≡◌, ◌++◌, List, map}
use Rattle.ir_model.specs.Forest.{an_op}
use Rattle.ir_model.specs.Subtree.{ListsSubtree}
use Rattle.ir_core_queries.specs.State.{forest_of}
use Rattle.ir_run_passes.proofs.EachBlock.{E, blocks_among}
use Rattle.ir_run_passes.proofs.merging_inside.blocks_inside.Given as goal

-- the blocks of what the walk has passed were put into the list
abbrev pub invariant-loop-entity : goal.invariant-loop-entity
invariant-loop-entity g l =
    (goal.iterator-loop-entity g).can_next l.entity-iterator
    × (goal.iterator-loop-entity g).is_finite l.entity-iterator
    × ((all : List E) × ListsSubtree (forest_of l.ctx) (an_op l.fn.root.index) all × (map (λ p. p.index) l.blocks.items ++ blocks_among l.entity-iterator ≡ blocks_among all))
