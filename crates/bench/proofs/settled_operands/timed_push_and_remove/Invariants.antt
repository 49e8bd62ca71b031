use Rattle.ir_base.specs.Model.Forest.{a_value, an_op}
use Rattle.ir_base.specs.Model.Nesting.{IsLive, IsLiveNamed}
use Rattle.ir_core.specs.Records.Meaning.{value_of}
use Rattle.ir_core.specs.Context.State.{forest_of}
use Rattle.bench.proofs.settled_operands.timed_push_and_remove.Given as goal

abbrev pub invariant-loop-i : goal.invariant-loop-i
invariant-loop-i g l = record {
  op : IsLive (forest_of l.ctx) (an_op l.op.index);
  value : IsLiveNamed (forest_of l.ctx) (a_value (value_of l.value.index));
}
