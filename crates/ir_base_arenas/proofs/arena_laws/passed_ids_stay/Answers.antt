use Rattle.ir_model.proofs.Arenas.{passed-empty, passed-fill_new, passed-fill_live, passed-cut, passed-cleared, passed-miss, live-passed}
use Rattle.ir_base_arenas.proofs.arena_laws.passed_ids_stay.Goals as goal

pub returns : goal.returns
returns g c = record {
  empty = passed-empty _;
  inserted = passed-fill_new;
  written = passed-fill_live;
  removed = passed-cut;
  missed = passed-miss;
  cleared = passed-cleared;
  live = live-passed;
}
