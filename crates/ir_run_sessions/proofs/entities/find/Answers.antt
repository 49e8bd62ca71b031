use Rattle.ir_model.specs.Nesting.{IsLive}
use Rattle.ir_core_queries.specs.State.{forest_of}
use Rattle.ir_run_sessions.proofs.Placing.{looked_up}
use Rattle.ir_run_sessions.proofs.entities.find.Goals as goal

pub returns : goal.returns
returns g c =
    let f = forest_of c.args.ctx.now in
    looked_up (λ i. IsLive f (g.E.EntityEntry.entity_at i)) g.E.EntityEntry.index_of (λ x. g.E.Entry.IsLiveIn f x) (λ x. g.met.E.EntityEntry.lives f x) c.table.result.now _ c.table.ensures c.args.number
    c.live_entry.result c.live_entry.ensures.found c.live_entry.ensures.live c.live_entry.ensures.missing
