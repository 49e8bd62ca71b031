use Rattle.std.proofs.Common.{◌<◌, length}
use Rattle.ir_base.specs.Model.Forest.{a_value}
use Rattle.ir_base.specs.Model.Nesting.{IsLiveNamed}
use Rattle.ir_core.specs.Records.Meaning.{value_of}
use Rattle.ir_core.specs.Context.State.{forest_of, types_of}
use Rattle.bench.proofs.settled.timed_unlinked.Given as goal

abbrev pub invariant-loop-i : goal.invariant-loop-i
invariant-loop-i g l =
    (l.ty.place < length (types_of l.ctx)) × (IsLiveNamed (forest_of l.ctx) (a_value (value_of l.first.index))) × (IsLiveNamed (forest_of l.ctx) (a_value (value_of l.second.index)))
