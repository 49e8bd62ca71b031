use Rattle.std.proofs.Common.{◌<◌, All, length}
use Rattle.ir_base.specs.Model.Forest.{a_value}
use Rattle.ir_base.specs.Model.Nesting.{IsLiveNamed, operands_of}
use Rattle.ir_core.specs.Records.Meaning.{value_of}
use Rattle.ir_core.specs.Context.State.{forest_of}
use Rattle.bench.proofs.settled_operands.timed_replacements.Given as goal

abbrev pub invariant-loop-place : goal.invariant-loop-place
invariant-loop-place g l = record {
  users : All (λ op. 0 < length (operands_of (forest_of l.ctx) op.index)) l.ops;
  first : IsLiveNamed (forest_of l.ctx) (a_value (value_of l.first.index));
  second : IsLiveNamed (forest_of l.ctx) (a_value (value_of l.second.index));
}
