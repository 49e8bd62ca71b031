-- Items with distinct numbers: the one with a number is the first with it, wherever it is looked for.
use Rattle.std.proofs.Common.{◌≡◌, ℕ, zero, suc, ◌==◌, List, [], ◌∷◌, get_or, map, Option, Some, None, slice_get, refl, sym, ap, ◌∙◌, arith, position}
use Rattle.std.proofs.lemmas.Bool.{eq-eqb, eqb-true, false≢true}
use Rattle.std.proofs.lemmas.Option.{slice_get-get_or, same_Some}
use Rattle.std.proofs.lemmas.List.Quantifiers.{position-Some}
use Rattle.ir_model.specs.Ids.{Absent, Distinct}
use Rattle.ir_core_records.specs.Numbered.{position-None}

module _ {A : Type 0} (f : A → ℕ) where
  absent-at : (n : ℕ) (xs : List A) → Absent n (map f xs) → (i : ℕ) (x : A) → slice_get xs i ≡ Some x → n ≡ f x → ⊥
  absent-at n [] out i x at e = absurd (cc)
  absent-at n (y ∷ ys) out zero x at e = out.0 (e ∙ ap f (sym (same_Some y x at)))
  absent-at n (y ∷ ys) out (suc i) x at e = absent-at n ys out.1 i x at e

  -- two places with one number are one place
  pub one_place : (xs : List A) → Distinct (map f xs) → (i j : ℕ) (x y : A) → slice_get xs i ≡ Some x → slice_get xs j ≡ Some y → f x ≡ f y → i ≡ j
  one_place [] d i j x y at_x at_y e = absurd (cc)
  one_place (z ∷ zs) d zero zero x y at_x at_y e = refl
  one_place (z ∷ zs) d zero (suc j) x y at_x at_y e = absurd (absent-at (f z) zs d.0 j y at_y (ap f (same_Some z x at_x) ∙ e))
  one_place (z ∷ zs) d (suc i) zero x y at_x at_y e = absurd (absent-at (f z) zs d.0 i x at_x (ap f (same_Some z y at_y) ∙ sym e))
  one_place (z ∷ zs) d (suc i) (suc j) x y at_x at_y e = ap suc (one_place zs d.1 i j x y at_x at_y e)

  out_of : (n : ℕ) (xs : List A) → ((i : ℕ) (x : A) → slice_get xs i ≡ Some x → n ≡ f x → ⊥) → Absent n (map f xs)
  out_of n [] none = tt
  out_of n (y ∷ ys) none = (none 0 y refl, out_of n ys (λ i x at. none (suc i) x at))

  -- where no two places have one number, the numbers are distinct
  pub distinct_by_place : (xs : List A) → ((i j : ℕ) (x y : A) → slice_get xs i ≡ Some x → slice_get xs j ≡ Some y → f x ≡ f y → i ≡ j) → Distinct (map f xs)
  distinct_by_place [] once = tt
  distinct_by_place (z ∷ zs) once = (
    out_of (f z) zs (λ i x at e. absurd (apart i (once 0 (suc i) z x refl at e))),
    distinct_by_place zs (λ i j x y at_x at_y e. behind i j (once (suc i) (suc j) x y at_x at_y e)),
  )
    where
      apart : (i : ℕ) → 0 ≡ suc i → ⊥
      apart i e = absurd (omega (arith, e))

      behind : (i j : ℕ) → suc i ≡ suc j → i ≡ j
      behind i j e = omega (arith, e)

  -- the one item with the number is the first
  pub first_with : (xs : List A) (n i : ℕ) (x : A) → Distinct (map f xs) → slice_get xs i ≡ Some x → f x ≡ n → position (λ y. f y == n) xs ≡ Some i
  first_with xs n i x d at is = found (position (λ y. f y == n) xs) refl
    where
      found : (o : Option ℕ) → position (λ y. f y == n) xs ≡ o → o ≡ Some i
      found None e = absurd (false≢true (sym (position-None (λ y. f y == n) xs i x e at) ∙ eq-eqb (f x) n is))
      found (Some k) e =
          let q = position-Some (λ y. f y == n) xs k x e in
          ap Some (one_place xs d k i (get_or xs k x) x (slice_get-get_or xs k x q.0) at (eqb-true (f (get_or xs k x)) n q.1 ∙ sym is))
