use Rattle.ir_model.specs.Edits.{MayGoInto}
use Rattle.ir_core_queries.specs.State.{forest_of}
use Rattle.ir_run_sessions.specs.Named.{not_these}
use Rattle.ir_run_sessions.specs.SessionLists.{clash}
use Rattle.ir_run_sessions.proofs.list_conditions.find_into.Goals as goal

pub returns-then-may_go_into-clause-may_go : goal.returns-then-may_go_into-clause-may_go
returns-then-may_go_into-clause-may_go g c = (rw (c.entity.ensures, c.entity-2.ensures) at c.may_go_into.ensures).0 c.if-may_go_into.true

pub returns-else-may_go_into-clause-missing : goal.returns-else-may_go_into-clause-missing
returns-else-may_go_into-clause-missing g c =
    let f = forest_of c.args.ctx.now in
    let told = rw (c.entity.ensures, c.entity-2.ensures) at c.may_go_into.ensures in
    λ _. not_these c.in_ok-node.ensures c.in_ok-container.ensures (λ i j. MayGoInto f (g.N.EntityEntry.entity_at i) (g.C.EntityEntry.entity_at j)) (λ may. clash c.may_go_into.result (told.1 may) c.if-may_go_into.false)
