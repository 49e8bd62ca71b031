use Rattle.std.proofs.Common.{◌<◌, length}
use Rattle.ir_base.specs.Model.Forest.{a_value}
use Rattle.ir_base.specs.Model.Nesting.{IsLiveNamed}
use Rattle.ir_core.specs.Records.Meaning.{value_of}
use Rattle.ir_core.specs.Context.State.{forest_of, types_of}
use Rattle.example.proofs.chain.Given as goal

-- the type is known, and the last result is live
abbrev pub invariant-loop : goal.invariant-loop
invariant-loop g l = record {
  known : l.ty.place < length (types_of l.ctx);
  live : IsLiveNamed (forest_of l.ctx) (a_value (value_of l.last.index));
}
