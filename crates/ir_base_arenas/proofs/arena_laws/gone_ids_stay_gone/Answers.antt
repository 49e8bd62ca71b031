use Rattle.ir_model.proofs.Arenas.{gone-fill_new, gone-fill_live, gone-cut}
use Rattle.ir_base_arenas.proofs.arena_laws.gone_ids_stay_gone.Goals as goal

pub returns : goal.returns
returns g c = record {
  inserted = gone-fill_new;
  written = gone-fill_live;
  removed = gone-cut;
  missed = λ a q gone. gone;
}
