use Rattle.std.proofs.Common.{◌<◌, length}
use Rattle.ir_base.specs.Model.Forest.{a_block, a_value}
use Rattle.ir_base.specs.Model.Nesting.{IsLive, IsLiveNamed}
use Rattle.ir_core.specs.Records.Meaning.{value_of}
use Rattle.ir_core.specs.Context.Calls.{KeepsAll}
use Rattle.ir_core.specs.Context.State.{forest_of, types_of}
use Rattle.bench.specs.Settled.{GrowsIn}
use Rattle.bench.proofs.settled_building.build_from.Given as goal

abbrev pub invariant-loop-i : goal.invariant-loop-i
invariant-loop-i g l = record {
  known : l.ty.place < length (types_of l.ctx);
  block : IsLive (forest_of l.ctx) (a_block l.block.index);
  first : IsLiveNamed (forest_of l.ctx) (a_value (value_of l.first.index));
  second : IsLiveNamed (forest_of l.ctx) (a_value (value_of l.second.index));
  keeps : KeepsAll l.initial.ctx l.ctx;
  grows : GrowsIn (forest_of l.initial.ctx) (forest_of l.ctx) (a_block l.block.index);
}
