-- What an arena of auxiliary data ends as, where a `&mut` to one of its records is returned.
use Rattle.std.specs.Prelude.{Option}
use Rattle.std.specs.Borrow.{LendsIf, Fml, RattleType, MutBor}
use Rattle.ir_model.specs.declared.ids.ArenaIndex.{ArenaIndex}
use Rattle.ir_base_arenas.specs.Arena.{Arena, fill}
use Rattle.ir_core_data.specs.contracts.aux_arena.AuxArena.{the_row}

-- once the borrow r ends, the last value written through r stands under the id; at `None` the arena stays as it is
abbrev pub aux_lends_get : (A : RattleType) → MutBor (Arena A.Denot) → ArenaIndex → Option (MutBor A.Denot) → Fml
aux_lends_get A s id r = LendsIf (the_row A) A s r (fill s.now id) s.now
