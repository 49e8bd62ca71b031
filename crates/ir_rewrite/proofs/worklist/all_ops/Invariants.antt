use Rattle.std.proofs.Common.{◌⊎◌, map}
use Rattle.ir_model.specs.declared.ids.ArenaIndex.{ArenaIndex}
use Rattle.ir_model.specs.Forest.{an_op}
use Rattle.ir_model.specs.Nesting.{In, Inside}
use Rattle.ir_core_context.specs.State.{forest_of}
use Rattle.ir_rewrite.proofs.worklist.all_ops.Given as goal

-- each operation inside the root is in the list, or is still to come
abbrev pub invariant-loop-entity : goal.invariant-loop-entity
invariant-loop-entity g l =
    (goal.iterator-loop-entity g).can_next l.entity-iterator
    × (goal.iterator-loop-entity g).is_finite l.entity-iterator
    × ((o : ArenaIndex) → Inside (forest_of l.ctx) (an_op l.fn.root.index) (an_op o) → In o (map (λ p. p.index) l.ops.items) ⊎ In (an_op o) l.entity-iterator)
