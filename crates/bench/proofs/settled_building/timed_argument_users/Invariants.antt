use Rattle.std.proofs.Common.{◌≤◌, length}
use Rattle.ir_base.specs.Model.Forest.{a_block, of_block}
use Rattle.ir_base.specs.Model.Nesting.{IsLive, definitions_of}
use Rattle.ir_core.specs.Context.State.{forest_of}
use Rattle.bench.proofs.settled_building.timed_argument_users.Given as goal

abbrev pub invariant-loop-index : goal.invariant-loop-index
invariant-loop-index g l = record {
  block : IsLive (forest_of l.ctx) (a_block l.block.index);
  arguments : l.count ≤ length (definitions_of (forest_of l.ctx) (of_block l.block.index));
}
