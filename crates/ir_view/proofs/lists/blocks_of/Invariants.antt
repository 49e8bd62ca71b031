use Rattle.std.proofs.Common.{◌≡◌, ◌++◌, map}
use Rattle.ir_model.specs.Nesting.{blocks_of}
use Rattle.ir_core_context.specs.State.{forest_of}
use Rattle.ir_view.proofs.lists.blocks_of.Given as goal

abbrev pub invariant-loop-block : goal.invariant-loop-block
invariant-loop-block g l =
    (goal.iterator-loop-block g).can_next l.block-iterator
    × (goal.iterator-loop-block g).is_finite l.block-iterator
    × (map (λ p. p.index) l.blocks.items ++ l.block-iterator ≡ blocks_of (forest_of l.ctx) l.fn.region.index)
