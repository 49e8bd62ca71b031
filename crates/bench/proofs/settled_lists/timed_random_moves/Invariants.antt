use Rattle.std.proofs.Common.{All}
use Rattle.ir_core.specs.Context.State.{forest_of}
use Rattle.bench.specs.Settled.{StandsFree}
use Rattle.bench.proofs.settled_lists.timed_random_moves.Given as goal

abbrev pub invariant-loop-i : goal.invariant-loop-i
invariant-loop-i g l = All (λ op. StandsFree (forest_of l.ctx) op.index) l.ops
