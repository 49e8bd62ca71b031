-- Where definitions lie: one in the list itself, or none or more in a vector. No public clause cites this module.
use Rattle.std.specs.Prelude.{ℕ, List, [], ◌∷◌}
use Rattle.std.specs.Vec as vec
use Rattle.ir_core_records.specs.declared.one_or_more.Held.{Held}
use Rattle.ir_core_records.specs.declared.one_or_more.Held.TheVariants.{One, More}

module _ {T : Type 0} where
  abbrev pub items_of : Held T → List T
  items_of (One x) = x ∷ []
  items_of (More v) = v.items

  -- with another item at an index below their number
  abbrev pub held_with : Held T → ℕ → T → Held T
  held_with (One y) i x = One x
  held_with (More v) i x = More (vec.with_item v i x)
