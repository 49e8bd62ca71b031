-- What a `PlainSeq` ends as, where a `&mut` to one of its items is returned.
use Rattle.std.specs.Prelude.{ℕ, List, slice_set}
use Rattle.std.specs.Borrow.{Lends, Fml, RattleType, MutBor}
use Rattle.ir_base_arenas.specs.contracts.plain_seq.PlainSeq.{the_row}

-- once the borrow r ends, the item at i is the last value written through r
abbrev pub lends_plain_item : (T N : RattleType) → MutBor (List T.Denot) → ℕ → MutBor T.Denot → Fml
lends_plain_item T N s i r = Lends (the_row T N) T s r (slice_set s.now i)
