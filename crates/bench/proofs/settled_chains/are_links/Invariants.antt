use Rattle.std.proofs.Common.{◌⊎◌}
use Rattle.ir_base.specs.Model.declared.ids.ArenaIndex.{ArenaIndex}
use Rattle.ir_base.specs.Model.Nesting.{In, ops_of}
use Rattle.ir_core.specs.Context.State.{forest_of}
use Rattle.bench.specs.Settled.{IsLink}
use Rattle.bench.proofs.settled_chains.are_links.Given as goal

abbrev pub invariant-loop-op : goal.invariant-loop-op
invariant-loop-op g l =
    (goal.iterator-loop-op g).can_next l.op-iterator
    × (goal.iterator-loop-op g).is_finite l.op-iterator
    × ((o : ArenaIndex) → In o (ops_of (forest_of l.ctx) l.fn.block.index) → IsLink (forest_of l.ctx) o ⊎ In o l.op-iterator)
