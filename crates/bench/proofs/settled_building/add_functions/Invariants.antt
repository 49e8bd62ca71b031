use Rattle.std.proofs.Common.{◌<◌, length}
use Rattle.ir_base.specs.Model.Forest.{a_block}
use Rattle.ir_base.specs.Model.Nesting.{IsLive}
use Rattle.ir_core.specs.Context.Calls.{KeepsAll}
use Rattle.ir_core.specs.Context.State.{forest_of, types_of}
use Rattle.bench.specs.Settled.{GrowsIn}
use Rattle.bench.proofs.settled_building.add_functions.Given as goal

abbrev pub invariant-loop-i : goal.invariant-loop-i
invariant-loop-i g l = record {
  known : l.ty.place < length (types_of l.ctx);
  outer : IsLive (forest_of l.ctx) (a_block l.outer.index);
  keeps : KeepsAll l.initial.ctx l.ctx;
  grows : GrowsIn (forest_of l.initial.ctx) (forest_of l.ctx) (a_block l.outer.index);
}
