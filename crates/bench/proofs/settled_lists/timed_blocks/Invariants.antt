use Rattle.ir_base.specs.Model.Forest.{a_region, an_op}
use Rattle.ir_base.specs.Model.Nesting.{In, IsLinked, IsLive, regions_of}
use Rattle.ir_core.specs.Context.State.{forest_of}
use Rattle.bench.proofs.settled_lists.timed_blocks.Given as goal

abbrev pub invariant-loop-i : goal.invariant-loop-i
invariant-loop-i g l = record {
  from : IsLive (forest_of l.ctx) (a_region l.from.index);
  to : IsLive (forest_of l.ctx) (a_region l.to.index);
  stands : In l.to.index (regions_of (forest_of l.ctx) l.fn.module.index);
  free : IsLinked (forest_of l.ctx) (an_op l.fn.module.index) → ⊥;
}
