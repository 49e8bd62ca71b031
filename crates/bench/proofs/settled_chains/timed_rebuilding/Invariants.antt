use Rattle.std.proofs.Common.{◌<◌, length}
use Rattle.std.specs.Prelude.{IfSome}
use Rattle.ir_base.specs.Model.Nesting.{In, ops_of}
use Rattle.ir_core.specs.Context.State.{forest_of, types_of}
use Rattle.bench.specs.Settled.{AreLinks}
use Rattle.bench.proofs.settled_chains.timed_rebuilding.Given as goal

abbrev pub invariant-loop-i : goal.invariant-loop-i
invariant-loop-i g l = record {
  known : l.ty.place < length (types_of l.ctx);
  links : AreLinks (forest_of l.ctx) l.block.index;
  place : IfSome l.place (λ p. In p.index (ops_of (forest_of l.ctx) l.block.index));
}
