use Rattle.ir_base.specs.Model.Forest.{a_block}
use Rattle.ir_base.specs.Model.Nesting.{IsLinked, IsLive}
use Rattle.ir_core.specs.Context.State.{forest_of}
use Rattle.bench.proofs.settled_lists.timed_front_to_back.Given as goal

abbrev pub invariant-loop-i : goal.invariant-loop-i
invariant-loop-i g l = record {
  from : IsLive (forest_of l.ctx) (a_block l.from.index);
  to : IsLive (forest_of l.ctx) (a_block l.to.index);
  free : IsLinked (forest_of l.ctx) (a_block l.to.index) → ⊥;
}
