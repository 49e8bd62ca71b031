use Rattle.ir_model.specs.Edits.{MayGoBeside}
use Rattle.ir_core_queries.specs.State.{forest_of}
use Rattle.ir_run_sessions.specs.Named.{not_these}
use Rattle.ir_run_sessions.specs.SessionLists.{clash}
use Rattle.ir_run_sessions.proofs.list_conditions.find_beside.Goals as goal

pub returns-then-may_go_beside-clause-may_go : goal.returns-then-may_go_beside-clause-may_go
returns-then-may_go_beside-clause-may_go g c = (rw (c.entity.ensures, c.entity-2.ensures) at c.may_go_beside.ensures).0 c.if-may_go_beside.true

pub returns-else-may_go_beside-clause-missing : goal.returns-else-may_go_beside-clause-missing
returns-else-may_go_beside-clause-missing g c =
    let f = forest_of c.args.ctx.now in
    let told = rw (c.entity.ensures, c.entity-2.ensures) at c.may_go_beside.ensures in
    λ _. not_these c.in_ok-node.ensures c.in_ok-mark.ensures (λ i j. MayGoBeside f (g.N.EntityEntry.entity_at i) (g.N.EntityEntry.entity_at j)) (λ may. clash c.may_go_beside.result (told.1 may) c.if-may_go_beside.false)
