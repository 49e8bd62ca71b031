use Rattle.std.proofs.Common.{sym}
use Rattle.ir_model.proofs.Arenas.{live-passed}
use Rattle.ir_core_context.proofs.context.Context.recall_aux_was_made.Goals as goal

-- what is live in the arena was handed out
pub returns : goal.returns
returns g c = rw (sym c.self.view_is) (record { passed = λ i h. live-passed c.self.inside.side.aux i c.room-aux_room.ensures.whole h })
