-- What an `Arena` ends as, where a `&mut` to one of its records is returned.
use Rattle.std.specs.Prelude.{Option}
use Rattle.std.specs.Borrow.{Lends, LendsIf, Fml, RattleType, MutBor}
use Rattle.ir_model.specs.declared.ids.ArenaIndex.{ArenaIndex}
use Rattle.ir_base_arenas.specs.Arena.{Arena, fill}
use Rattle.ir_base_arenas.specs.contracts.arena.Arena.{the_row}

module _ (T : RattleType) (s : MutBor (Arena T.Denot)) (id : ArenaIndex) where
  -- once the borrow r ends, the last value written through r stands under the id; at `None` the arena stays as it is
  abbrev pub lends_get : Option (MutBor T.Denot) → Fml
  lends_get r = LendsIf (the_row T) T s r (fill s.now id) s.now

  -- once the borrow r ends, the last value written through r stands under the id
  abbrev pub lends_record : MutBor T.Denot → Fml
  lends_record r = Lends (the_row T) T s r (fill s.now id)
