use Rattle.ir_model.proofs.Arenas.{get-empty, get-fill_new, get-fill_live, get-cut, get-cleared}
use Rattle.ir_base_arenas.proofs.arena_laws.changes_are_read.Goals as goal

pub returns : goal.returns
returns g c = record {
  empty = get-empty _;
  inserted = get-fill_new;
  written = get-fill_live;
  removed = get-cut;
  cleared = get-cleared;
}
