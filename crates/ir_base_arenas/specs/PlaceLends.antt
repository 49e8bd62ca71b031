-- What the place of the items ends as, where a `&mut` to one of them is returned. No public clause cites this module.
use Rattle.std.specs.Prelude.{ℕ}
use Rattle.std.specs.Borrow.{Lends, Fml, RattleType, MutBor}
use Rattle.ir_base_arenas.specs.PlainItems.{place_with}
use Rattle.ir_base_arenas.specs.contracts.plain_seq.Place.{the_row}

module _ (T N : RattleType) (s : MutBor (the_row T N).Denot) where
  abbrev pub lends_place_item : ℕ → MutBor T.Denot → Fml
  lends_place_item i r = Lends (the_row T N) T s r (place_with s.now i)
