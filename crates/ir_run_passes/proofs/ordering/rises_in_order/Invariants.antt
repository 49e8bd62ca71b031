use Rattle.ir_core_queries.specs.State.{forest_of}
use Rattle.ir_run_passes.proofs.Rising.{RisesSoFar}
use Rattle.ir_run_passes.proofs.ordering.rises_in_order.Given as goal

-- whether the block rises is left to what is ahead
abbrev pub invariant-loop-op : goal.invariant-loop-op
invariant-loop-op g l =
    (goal.iterator-loop-op g).can_next l.op-iterator
    × (goal.iterator-loop-op g).is_finite l.op-iterator
    × RisesSoFar (forest_of l.ctx) l.fn.block.index l.slot l.op-iterator
