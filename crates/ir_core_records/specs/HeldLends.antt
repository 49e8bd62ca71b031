-- What definitions end as, where a `&mut` to one of them is returned. No public clause cites this module.
use Rattle.std.specs.Prelude.{ℕ, List, slice_set}
use Rattle.std.specs.Borrow.{Lends, Fml, RattleType, MutBor}
use Rattle.ir_core_records.specs.HeldItems.{held_with}
use Rattle.ir_core_records.specs.contracts.one_or_more.Held.{the_row as held_row}
use Rattle.ir_core_records.specs.contracts.one_or_more.OneOrMore.{the_row as list_row}

-- once the borrow r ends, the item at i is the last value written through r
abbrev pub lends_held_item : (T : RattleType) → MutBor (held_row T).Denot → ℕ → MutBor T.Denot → Fml
lends_held_item T s i r = Lends (held_row T) T s r (held_with s.now i)

abbrev pub lends_one_or_more : (T : RattleType) → MutBor (List T.Denot) → ℕ → MutBor T.Denot → Fml
lends_one_or_more T s i r = Lends (list_row T) T s r (slice_set s.now i)
