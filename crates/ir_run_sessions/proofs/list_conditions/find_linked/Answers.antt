use Rattle.ir_model.specs.Nesting.{IsLinked}
use Rattle.ir_core_queries.specs.State.{forest_of}
use Rattle.ir_core_queries.specs.Entities.{meant}
use Rattle.ir_run_sessions.specs.Named.{not_this}
use Rattle.ir_run_sessions.proofs.list_conditions.find_linked.Goals as goal

pub returns-clause-linked : goal.returns-clause-linked
returns-clause-linked g c = (meant c.in_ok-_container._container, rw c.entity.ensures at c.in_ok-_container.ensures)

pub returns-in_err-_container-clause-missing : goal.returns-in_err-_container-clause-missing
returns-in_err-_container-clause-missing g c =
    let f = forest_of c.args.ctx.now in
    let alone = rw c.entity.ensures at c.in_err-_container.ensures in
    λ _. not_this c.in_ok-entry.ensures (λ i. IsLinked f (g.E.EntityEntry.entity_at i)) (λ linked. alone linked.0 linked.1)
