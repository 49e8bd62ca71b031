use Rattle.ir_model.proofs.Arenas.{get-fill_new_other, get-fill_live_other, get-cut_other, get-miss}
use Rattle.ir_base_arenas.proofs.arena_laws.other_ids_stay.Goals as goal

pub returns : goal.returns
returns g c = record {
  inserted = get-fill_new_other;
  written = get-fill_live_other;
  removed = get-cut_other;
  missed = get-miss;
}
