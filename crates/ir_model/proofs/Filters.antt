-- What is left of a list by a test.
use mathlib.Core.Path.{◌≡◌, refl, ap, ◌∙◌}
use Rattle.std.proofs.Common.{inl, inr, Bool, true, false, List, [], ◌∷◌, cond}
use Rattle.std.specs.List.{filter}
use Rattle.ir_model.specs.Ids.{Distinct}
use Rattle.ir_model.specs.Nesting.{In}
use Rattle.ir_model.proofs.Nests.{Absent-not_in, not_in-Absent}

module _ {A : Type 0} where
  pub In-filter : (t : A → Bool) (x : A) (xs : List A) → In x (filter t xs) → In x xs × (t x ≡ true)
  In-filter t x [] h = elim h [ ]
  In-filter t x (y ∷ xs) h = by (In-filter t x xs) (t y) refl h
    where
      by : (In x (filter t xs) → In x xs × (t x ≡ true)) → (b : Bool) → t y ≡ b → In x (cond b (y ∷ filter t xs) (filter t xs)) → In x (y ∷ xs) × (t x ≡ true)
      by more true e (inl s) = (inl s, ap t s ∙ e)
      by more true e (inr k) = (inr (more k).0, (more k).1)
      by more false e k = (inr (more k).0, (more k).1)

  pub In-kept : (t : A → Bool) (x : A) (xs : List A) → In x xs → t x ≡ true → In x (filter t xs)
  In-kept t x [] h e = elim h [ ]
  In-kept t x (y ∷ xs) h e = by (λ k. In-kept t x xs k e) (t y) refl h
    where
      by : (In x xs → In x (filter t xs)) → (b : Bool) → t y ≡ b → In x (y ∷ xs) → In x (cond b (y ∷ filter t xs) (filter t xs))
      by more true f (inl s) = inl s
      by more true f (inr k) = inr (more k)
      by more false f (inl s) = (let g : t x ≡ t y = ap t s in absurd (cc))
      by more false f (inr k) = more k

  pub Distinct-filter : (t : A → Bool) (xs : List A) → Distinct xs → Distinct (filter t xs)
  Distinct-filter t [] d = tt
  Distinct-filter t (x ∷ xs) d = by (Distinct-filter t xs d.1) (t x)
    where
      by : Distinct (filter t xs) → (b : Bool) → Distinct (cond b (x ∷ filter t xs) (filter t xs))
      by more true = (Absent-not_in x (filter t xs) (λ h. not_in-Absent x xs d.0 (In-filter t x xs h).0), more)
      by more false = more
