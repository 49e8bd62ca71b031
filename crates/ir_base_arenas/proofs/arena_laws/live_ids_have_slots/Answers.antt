use Rattle.ir_model.proofs.Arenas.{live-numbered, live-unique}
use Rattle.ir_base_arenas.proofs.arena_laws.live_ids_have_slots.Goals as goal

pub returns : goal.returns
returns g c = record {
  numbered = live-numbered;
  one = live-unique;
}
