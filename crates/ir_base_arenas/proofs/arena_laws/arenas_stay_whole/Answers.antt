use Rattle.ir_model.proofs.Arenas.{whole-empty, whole-fill_new, whole-fill_live, whole-cut, whole-miss}
use Rattle.ir_base_arenas.proofs.arena_laws.arenas_stay_whole.Goals as goal

pub returns : goal.returns
returns g c = record {
  empty = whole-empty _;
  inserted = whole-fill_new;
  written = whole-fill_live;
  removed = whole-cut;
  missed = whole-miss;
}
