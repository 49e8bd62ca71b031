use Rattle.ir_core_queries.specs.State.{forest_of}
use Rattle.ir_run_passes.proofs.MetSoFar.{MetSoFar}
use Rattle.ir_run_passes.proofs.ordering.is_in_order_by_table.Given as goal

-- those that were met are in order, and the rest is ahead
abbrev pub invariant-loop-op : goal.invariant-loop-op
invariant-loop-op g l =
    (goal.iterator-loop-op g).can_next l.op-iterator
    × (goal.iterator-loop-op g).is_finite l.op-iterator
    × MetSoFar (forest_of l.ctx) l.fn.block.index l.met.keys l.op-iterator
