use Rattle.ir_model.specs.Edits.{MayJoin}
use Rattle.ir_core_queries.specs.State.{forest_of}
use Rattle.ir_run_sessions.specs.Named.{not_these}
use Rattle.ir_run_sessions.specs.SessionLists.{clash}
use Rattle.ir_run_sessions.proofs.list_conditions.find_joined.Goals as goal

pub returns-then-may_join-clause-may_join : goal.returns-then-may_join-clause-may_join
returns-then-may_join-clause-may_join g c = (rw (c.entity.ensures, c.entity-2.ensures) at c.may_join.ensures).0 c.if-may_join.true

pub returns-else-may_join-clause-missing : goal.returns-else-may_join-clause-missing
returns-else-may_join-clause-missing g c =
    let f = forest_of c.args.ctx.now in
    let told = rw (c.entity.ensures, c.entity-2.ensures) at c.may_join.ensures in
    λ _. not_these c.in_ok-donee.ensures c.in_ok-donor.ensures (λ i j. MayJoin f (g.C.EntityEntry.entity_at i) (g.C.EntityEntry.entity_at j)) (λ may. clash c.may_join.result (told.1 may) c.if-may_join.false)
