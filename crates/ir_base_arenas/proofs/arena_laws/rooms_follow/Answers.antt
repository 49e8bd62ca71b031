use Rattle.ir_model.proofs.ArenaRoom.{room-fill_live, room-cut, room-cut_last}
use Rattle.ir_base_arenas.proofs.arena_laws.rooms_follow.Goals as goal

pub returns : goal.returns
returns g c = record {
  written = room-fill_live;
  removed = room-cut;
  retired = room-cut_last;
}
