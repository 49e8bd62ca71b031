-- A list parted at an item that it has, in one way only where it has no item twice.
use mathlib.Core.Path.{◌≡◌, refl, sym, ap, subst}
use Rattle.std.proofs.Common.{List, [], ◌∷◌, ◌++◌, inl, inr}
use Rattle.ir_model.specs.Ids.{Distinct}
use Rattle.ir_model.specs.Nesting.{In}
use Rattle.ir_model.proofs.Nests.{In-right, not_in-Absent}

module _ {E : Type 0} where
  pub split : (x : E) (xs : List E) → In x xs → (us : List E) × (vs : List E) × (xs ≡ us ++ x ∷ vs)
  split x [] h = absurd h
  split x (y ∷ ys) (inl e) = ([], ys, ap (λ z. z ∷ ys) (sym e))
  split x (y ∷ ys) (inr h) = let m = split x ys h in (y ∷ m.0, m.1, ap (λ zs. y ∷ zs) m.2)

  pub in-middle : (x : E) (us vs : List E) → In x (us ++ x ∷ vs)
  in-middle x us vs = In-right x us (x ∷ vs) (inl refl)

  pub unique-split : (x : E) (us vs ws zs : List E) → Distinct (us ++ x ∷ vs) → us ++ x ∷ vs ≡ ws ++ x ∷ zs → vs ≡ zs
  unique-split x [] vs [] zs d e = cc
  unique-split x [] vs (w ∷ ws) zs d e =
      let head : x ≡ w = cc in
      let tail : vs ≡ ws ++ x ∷ zs = cc in
      absurd (not_in-Absent x vs d.0 (subst (In x) (sym tail) (in-middle x ws zs)))
  unique-split x (u ∷ us) vs [] zs d e =
      let head : u ≡ x = cc in
      absurd (not_in-Absent u (us ++ x ∷ vs) d.0 (subst (λ z. In z (us ++ x ∷ vs)) (sym head) (in-middle x us vs)))
  unique-split x (u ∷ us) vs (w ∷ ws) zs d e =
      let tail : us ++ x ∷ vs ≡ ws ++ x ∷ zs = cc in
      unique-split x us vs ws zs d.1 tail
