use Rattle.std.proofs.Common.{◌↔◌, List, ◌++◌, map}
use Rattle.ir_model.specs.declared.ids.ArenaIndex.{ArenaIndex}
use Rattle.ir_model.specs.ContextIds.{context_ids}
use Rattle.ir_model.specs.Forest.{Entity, a_region, an_op}
use Rattle.ir_model.specs.Nesting.{In}
use Rattle.ir_model.specs.Subtree.{ListsSubtree}
use Rattle.ir_core_queries.specs.State.{forest_of}
use Rattle.ir_run_unreached.proofs.inside.regions_inside.Given as goal

-- the regions that were passed are listed
abbrev pub invariant-loop-entity : goal.invariant-loop-entity
invariant-loop-entity g l =
    (goal.iterator-loop-entity g).can_next l.entity-iterator
    × (goal.iterator-loop-entity g).is_finite l.entity-iterator
    × ((done : List (Entity context_ids)) × ListsSubtree (forest_of l.ctx) (an_op l.fn.root.index) (done ++ l.entity-iterator)
    × ((r : ArenaIndex) → In r (map (λ p. p.index) l.regions.items) ↔ In (a_region r) done))
