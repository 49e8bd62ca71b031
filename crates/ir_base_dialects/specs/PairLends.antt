-- What the pairs of a dictionary end as, where a `&mut` to one of their attributes is returned. No public clause cites this module.
use Rattle.std.specs.Prelude.{ℕ, List, Option}
use Rattle.std.specs.Borrow.{LendsIf, Fml, RattleType, MutBor}
use Rattle.ir_model.specs.Stores.{set_attribute}
use Rattle.ir_base_dialects.specs.contracts.pairs.Pairs.{the_row}

module _ (A : RattleType) (p : MutBor (List (List ℕ × A.Denot))) where
  -- once the borrow r ends, the attribute at the key is the last value written through r; at `None` the pairs stay as they are
  abbrev pub lends_attribute : List ℕ → Option (MutBor A.Denot) → Fml
  lends_attribute key r = LendsIf (the_row A) A p r (set_attribute p.now key) p.now
