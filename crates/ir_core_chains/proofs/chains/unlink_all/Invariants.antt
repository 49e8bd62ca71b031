use Rattle.std.proofs.Common.{length}
use Rattle.ir_core_records.specs.Table.{IsOp}
use Rattle.ir_core_chains.proofs.ChainLoops.{Relinks}
use Rattle.ir_core_chains.proofs.chains.unlink_all.Given as goal

abbrev pub invariant-loop-user : goal.invariant-loop-user
invariant-loop-user g l = Relinks IsOp g.N.Named.places_at g.N.Named.with_places g.N.Named.uses_at g.N.Named.with_uses l.fn.records l.records l.user

abbrev pub decreases-loop-user : goal.decreases-loop-user
decreases-loop-user g l = length (g.N.Named.places_at l.records l.user)
