use Rattle.ir_model.proofs.ArenaRoom.{takes-number, has-room, lacks-room}
use Rattle.ir_base_arenas.proofs.arena_laws.rooms_are_exact.Goals as goal

pub returns : goal.returns
returns g c = record {
  counted = takes-number;
  enough = has-room;
  few = lacks-room;
}
