-- Facts that are decided: each is so, or is not so.
use mathlib.Core.Path.{◌≡◌, refl, sym, subst}
use Rattle.std.proofs.Common.{ℕ, ◌≤◌, ◌⊎◌, inl, inr, Bool, true, false, leb, Option, Some, None, List, [], ◌∷◌, IsSome, IsTrue, arith}
use Rattle.std.proofs.lemmas.Bool.{leb-true, leb-false}
use Rattle.ir_model.specs.Ids.{Absent, Distinct}
use Rattle.ir_model.specs.Nesting.{In}
use Rattle.ir_model.proofs.Renaming.{Tells}

abbrev pub Decided : Type 0 → Type 0
Decided P = P ⊎ (P → ⊥)

-- whether it is so
abbrev pub says : {P : Type 0} → Decided P → Bool
says (inl h) = true
says (inr h) = false

pub holds : {P : Type 0} (d : Decided P) → says d ≡ true → P
holds (inl h) e = h
holds (inr h) e = absurd cc

pub fails : {P : Type 0} (d : Decided P) → says d ≡ false → P → ⊥
fails (inl h) e = absurd cc
fails (inr h) e = h

pub says_true : {P : Type 0} (d : Decided P) → P → says d ≡ true
says_true (inl h) p = refl
says_true (inr h) p = absurd (h p)

pub bit_so : (b : Bool) → Decided (IsTrue b)
bit_so true = inl refl
bit_so false = inr (λ h. absurd cc)

pub some_so : {A : Type 0} (m : Option A) → Decided (IsSome m)
some_so None = inr (λ h. absurd cc)
some_so (Some x) = inl refl

abbrev pub not_so : {P : Type 0} → Decided P → Decided (P → ⊥)
not_so (inl h) = inr (λ n. n h)
not_so (inr h) = inl h

abbrev pub both : {P Q : Type 0} → Decided P → Decided Q → Decided (P × Q)
both (inl h) (inl k) = inl (h, k)
both (inr h) d = inr (λ p. h p.0)
both (inl h) (inr k) = inr (λ p. k p.1)

abbrev pub either : {P Q : Type 0} → Decided P → Decided Q → Decided (P ⊎ Q)
either (inl h) d = inl (inl h)
either (inr h) (inl k) = inl (inr k)
either (inr h) (inr k) = inr (λ p. elim p [ inl a ↦ h a | inr b ↦ k b ])

-- the one, where the other says the same
abbrev pub instead : {P Q : Type 0} → (P → Q) → (Q → P) → Decided P → Decided Q
instead there back (inl h) = inl (there h)
instead there back (inr h) = inr (λ q. h (back q))

pub not_at_most : (a b : ℕ) → leb a b ≡ false → a ≤ b → ⊥
not_at_most a b e k = let l = leb-false a b e in absurd (omega (arith, k, l))

abbrev at_most_by : (a b : ℕ) (r : Bool) → leb a b ≡ r → Decided (a ≤ b)
at_most_by a b true e = inl (leb-true a b e)
at_most_by a b false e = inr (not_at_most a b e)

abbrev pub at_most : (a b : ℕ) → Decided (a ≤ b)
at_most a b = at_most_by a b (leb a b) refl

module _ {A : Type 0} (same : A → A → Bool) (tells : Tells same) where
  pub not_one : (x y : A) → same x y ≡ false → x ≡ y → ⊥
  not_one x y e h = let t : same x y ≡ true = (tells x y).1 h in cc

  abbrev one_by : (x y : A) (b : Bool) → same x y ≡ b → Decided (x ≡ y)
  one_by x y true e = inl ((tells x y).0 e)
  one_by x y false e = inr (not_one x y e)

  abbrev pub one : (x y : A) → Decided (x ≡ y)
  one x y = one_by x y (same x y) refl

  abbrev pub in_list : (x : A) (xs : List A) → Decided (In x xs)
  in_list x [] = inr (λ h. h)
  in_list x (y ∷ ys) = either (one x y) (in_list x ys)

  abbrev pub absent : (x : A) (xs : List A) → Decided (Absent x xs)
  absent x [] = inl tt
  absent x (y ∷ ys) = both (not_so (one x y)) (absent x ys)

  abbrev pub distinct : (xs : List A) → Decided (Distinct xs)
  distinct [] = inl tt
  distinct (x ∷ xs) = both (absent x xs) (distinct xs)

module _ {A : Type 0} (P : A → Type 0) (d : (x : A) → Decided (P x)) where
  -- all of the list have P
  abbrev pub all : (xs : List A) → Decided ((x : A) → In x xs → P x)
  all [] = inl (λ x h. elim h [ ])
  all (y ∷ ys) = instead
      (λ k x h. elim h [ inl e ↦ subst P (sym e) k.0 | inr i ↦ k.1 x i ])
      (λ k. (k y (inl refl), λ x i. k x (inr i)))
      (both (d y) (all ys))

  -- one of the list has P
  pub some_of : (y : A) (ys : List A) → ((x : A) × In x (y ∷ ys) × P x) → P y ⊎ ((z : A) × In z ys × P z)
  some_of y ys k = elim k.1 [ inl e ↦ inl (subst P e k.2) | inr i ↦ inr (k.0, i, k.2) ]

  abbrev pub some : (xs : List A) → Decided ((x : A) × In x xs × P x)
  some [] = inr (λ h. elim h.1 [ ])
  some (y ∷ ys) = instead
      (λ k. elim k [ inl p ↦ (y, inl refl, p) | inr p ↦ (p.0, inr p.1, p.2) ])
      (some_of y ys)
      (either (d y) (some ys))
