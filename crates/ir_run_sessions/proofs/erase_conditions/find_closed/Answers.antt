use Rattle.ir_model.specs.Nesting.{IsClosed}
use Rattle.ir_core_queries.specs.State.{forest_of}
use Rattle.ir_run_sessions.specs.Named.{not_this}
use Rattle.ir_run_sessions.specs.SessionLists.{clash}
use Rattle.ir_run_sessions.proofs.erase_conditions.find_closed.Goals as goal

pub returns-then-can_erase-clause-closed : goal.returns-then-can_erase-clause-closed
returns-then-can_erase-clause-closed g c = (rw c.entity.ensures at c.can_erase.ensures).0 c.if-can_erase.true

pub returns-else-can_erase-clause-missing : goal.returns-else-can_erase-clause-missing
returns-else-can_erase-clause-missing g c =
    let f = forest_of c.args.ctx.now in
    let told = rw c.entity.ensures at c.can_erase.ensures in
    λ _. not_this c.in_ok-entry.ensures (λ i. IsClosed f (g.E.EntityEntry.entity_at i)) (λ free. clash c.can_erase.result (told.1 free) c.if-can_erase.false)
