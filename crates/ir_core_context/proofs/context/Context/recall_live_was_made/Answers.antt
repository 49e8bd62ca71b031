use Rattle.std.proofs.Common.{sym}
use Rattle.ir_core_context.specs.State.{ContextState}
use Rattle.ir_core_context.proofs.LiveMade.{live-made}
use Rattle.ir_core_context.proofs.context.Context.recall_live_was_made.Goals as goal

pub returns : goal.returns
returns g c =
    let i = c.self.inside in
    let s : ContextState _ _ _ _ _ _ _ = record { records = i.records; types = i.types; next_value = i.next_value; next_use = i.next_use; side = i.side; limits = i.limits } in
    rw (sym c.self.view_is) (live-made s c.self.invariant c.room-op_room.ensures.whole c.room-block_room.ensures.whole c.room-region_room.ensures.whole)
