use Rattle.std.proofs.Common.{◌≤◌, length}
use Rattle.ir_base.specs.Model.Forest.{an_op}
use Rattle.ir_base.specs.Model.Nesting.{IsLive, operands_of}
use Rattle.ir_core.specs.Context.State.{forest_of}
use Rattle.bench.proofs.settled_operands.timed_removals.Given as goal

abbrev pub invariant-loop-left : goal.invariant-loop-left
invariant-loop-left g l = record {
  op : IsLive (forest_of l.ctx) (an_op l.op.index);
  within : l.left ≤ length (operands_of (forest_of l.ctx) l.op.index);
}

abbrev pub decreases-loop-left : goal.decreases-loop-left
decreases-loop-left g l = l.left
