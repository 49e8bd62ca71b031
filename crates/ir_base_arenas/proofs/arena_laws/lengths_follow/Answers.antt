use Rattle.ir_model.proofs.ArenaRoom.{len-fill_new, len-fill_live, len-cut, len-none}
use Rattle.ir_base_arenas.proofs.arena_laws.lengths_follow.Goals as goal

pub returns : goal.returns
returns g c = record {
  inserted = len-fill_new;
  written = len-fill_live;
  removed = len-cut;
  none = len-none;
}
