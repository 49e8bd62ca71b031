use Rattle.std.proofs.Common.{◌≤◌, length}
use Rattle.ir_base.specs.Model.Forest.{a_value, an_op}
use Rattle.ir_base.specs.Model.Nesting.{IsLive, IsLiveNamed, operands_of}
use Rattle.ir_core.specs.Records.Meaning.{value_of}
use Rattle.ir_core.specs.Context.State.{forest_of}
use Rattle.bench.proofs.settled_operands.timed_pushes.Given as goal

abbrev pub invariant-loop-pushed : goal.invariant-loop-pushed
invariant-loop-pushed g l = record {
  op : IsLive (forest_of l.ctx) (an_op l.op.index);
  value : IsLiveNamed (forest_of l.ctx) (a_value (value_of l.value.index));
  count : l._pushed ≤ length (operands_of (forest_of l.ctx) l.op.index);
}
