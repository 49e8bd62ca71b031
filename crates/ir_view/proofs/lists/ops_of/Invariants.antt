use Rattle.std.proofs.Common.{◌≡◌, ◌++◌, map}
use Rattle.ir_model.specs.Nesting.{ops_of}
use Rattle.ir_core_context.specs.State.{forest_of}
use Rattle.ir_view.proofs.lists.ops_of.Given as goal

abbrev pub invariant-loop-op : goal.invariant-loop-op
invariant-loop-op g l =
    (goal.iterator-loop-op g).can_next l.op-iterator
    × (goal.iterator-loop-op g).is_finite l.op-iterator
    × (map (λ p. p.index) l.ops.items ++ l.op-iterator ≡ ops_of (forest_of l.ctx) l.fn.block.index)
