use Rattle.ir_model.proofs.Arenas.{get-new, passed-new, new-is_new}
use Rattle.ir_model.proofs.ArenaRoom.{new-room}
use Rattle.ir_base_arenas.proofs.arena_laws.new_ids_are_new.Goals as goal

pub returns : goal.returns
returns g c = record {
  absent = get-new;
  unpassed = passed-new;
  room = new-room;
  next = new-is_new;
}
