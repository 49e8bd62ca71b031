-- What the array of an `ArrayVec` ends as, where its first elements are lent. No public clause
-- cites this module.
use Rattle.std.specs.Prelude.{ℕ, List, length, slice_set}
use Rattle.std.specs.List.{refill}
use Rattle.std.specs.Borrow.{Lends, Fml, RattleType, MutBor, Array}
use Rattle.ir_base_arenas.specs.contracts.cells.Cells.{the_row}

module _ (T N : RattleType) (cells : MutBor (the_row T N).Denot) where
  -- once the borrow r ends, the array begins with what was written through r
  abbrev pub lends_front : MutBor (List T.Denot) → Fml
  lends_front r = Lends (the_row T N) (Array T 0) cells r
      (λ written. record { xs = refill (length cells.now.xs) cells.now.xs written })

  -- once the borrow r ends, the index has the last value written through r
  abbrev pub lends_at : ℕ → MutBor T.Denot → Fml
  lends_at i r = Lends (the_row T N) T cells r (λ x. record { xs = slice_set cells.now.xs i x })
