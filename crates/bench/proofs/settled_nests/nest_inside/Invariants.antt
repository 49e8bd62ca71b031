use Rattle.std.proofs.Common.{◌<◌, length}
use Rattle.ir_base.specs.Model.Forest.{an_op}
use Rattle.ir_base.specs.Model.Nesting.{Inside, IsLive, regions_of}
use Rattle.ir_core.specs.Context.Calls.{KeepsAll}
use Rattle.ir_core.specs.Context.State.{forest_of}
use Rattle.bench.specs.Settled.{GrowsIn}
use Rattle.bench.proofs.settled_nests.nest_inside.Given as goal

abbrev pub invariant-loop-i : goal.invariant-loop-i
invariant-loop-i g l = record {
  live : IsLive (forest_of l.ctx) (an_op l.inner.index);
  region : 0 < length (regions_of (forest_of l.ctx) l.inner.index);
  inside : Inside (forest_of l.ctx) (an_op l.fn.outer.index) (an_op l.inner.index);
  keeps : KeepsAll l.initial.ctx l.ctx;
  grows : GrowsIn (forest_of l.initial.ctx) (forest_of l.ctx) (an_op l.fn.outer.index);
}
