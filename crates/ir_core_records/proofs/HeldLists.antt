-- What a change of one of the items that are held does to their list.
use Rattle.std.proofs.Common.{◌≡◌, ℕ, zero, suc, ◌<◌, length, set, refl, arith}
use Rattle.ir_core_records.specs.declared.one_or_more.Held.{Held}
use Rattle.ir_core_records.specs.declared.one_or_more.Held.TheVariants.{One, More}
use Rattle.ir_core_records.specs.HeldItems.{items_of, held_with}

module _ {T : Type 0} where
  pub items-held_with : (h : Held T) (i : ℕ) (w : T) → i < length (items_of h) → items_of (held_with h i w) ≡ set (items_of h) i w
  items-held_with (One x) zero w within = refl
  items-held_with (One x) (suc i) w within = absurd (omega (arith, within))
  items-held_with (More v) i w within = refl
