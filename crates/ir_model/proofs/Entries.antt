-- One entry more in a list, or one fewer.
use mathlib.Core.Path.{◌≡◌, sym}
use Rattle.std.proofs.Common.{ℕ, zero, suc, ◌⊎◌, inl, inr, List, [], ◌∷◌, ◌++◌, map}
use Rattle.std.specs.List.{insert}
use Rattle.ir_model.specs.Ids.{Distinct}
use Rattle.ir_model.specs.Nesting.{In}
use Rattle.ir_model.proofs.Nests.{Absent-not_in, not_in-Absent}

-- the second list has x, somewhere among the elements of the first
pub data AddsOne {A : Type 0} (x : A) : List A → List A → Type 0 where
  here : {xs : List A} → AddsOne x xs (x ∷ xs)
  later : {y : A} {xs ys : List A} → AddsOne x xs ys → AddsOne x (y ∷ xs) (y ∷ ys)

module _ {A : Type 0} where
  pub AddsOne-map : {B : Type 0} (f : A → B) {x : A} {xs ys : List A} → AddsOne x xs ys → AddsOne (f x) (map f xs) (map f ys)
  AddsOne-map f here = here
  AddsOne-map f (later h) = later (AddsOne-map f h)

  pub AddsOne-before : {x : A} {xs ys : List A} (zs : List A) → AddsOne x xs ys → AddsOne x (xs ++ zs) (ys ++ zs)
  AddsOne-before zs here = here
  AddsOne-before zs (later h) = later (AddsOne-before zs h)

  pub AddsOne-behind : {x : A} {xs ys : List A} (zs : List A) → AddsOne x xs ys → AddsOne x (zs ++ xs) (zs ++ ys)
  AddsOne-behind [] h = h
  AddsOne-behind (z ∷ zs) h = later (AddsOne-behind zs h)

  pub AddsOne-push : (x : A) (xs : List A) → AddsOne x xs (xs ++ x ∷ [])
  AddsOne-push x [] = here
  AddsOne-push x (y ∷ xs) = later (AddsOne-push x xs)

  pub AddsOne-insert : (x : A) (xs : List A) (at : ℕ) → AddsOne x xs (insert xs at x)
  AddsOne-insert x xs zero = here
  AddsOne-insert x [] (suc at) = here
  AddsOne-insert x (y ∷ xs) (suc at) = later (AddsOne-insert x xs at)

  pub AddsOne-in : {x : A} {xs ys : List A} (z : A) → AddsOne x xs ys → In z ys → (z ≡ x) ⊎ In z xs
  AddsOne-in z here (inl e) = inl e
  AddsOne-in z here (inr h) = inr h
  AddsOne-in z (later a) (inl e) = inr (inl e)
  AddsOne-in z (later a) (inr h) = elim (AddsOne-in z a h) [ inl e ↦ inl e | inr k ↦ inr (inr k) ]

  pub AddsOne-still : {x : A} {xs ys : List A} (z : A) → AddsOne x xs ys → In z xs → In z ys
  AddsOne-still z here h = inr h
  AddsOne-still z (later a) (inl e) = inl e
  AddsOne-still z (later a) (inr h) = inr (AddsOne-still z a h)

  pub AddsOne-distinct : {x : A} {xs ys : List A} → AddsOne x xs ys → Distinct xs → (In x xs → ⊥) → Distinct ys
  AddsOne-distinct {x = x} {xs = xs} here d n = (Absent-not_in x xs n, d)
  AddsOne-distinct (later {y = y} {xs = xs} {ys = ys} a) d n = (
    Absent-not_in y ys (λ h. elim (AddsOne-in y a h) [ inl e ↦ n (inl (sym e)) | inr k ↦ not_in-Absent y xs d.0 k ]),
    AddsOne-distinct a d.1 (λ h. n (inr h)),
  )
