-- Loops over lists: what has been passed, and what is left at the end.
use Rattle.std.proofs.Common.{◌≡◌, ◌∙◌, ℕ, ◌+◌, ◌<◌, ◌≤◌, List, length, Some, sym, subst, slice_get, below_more, get_or, arith}
use Rattle.std.proofs.lemmas.Option.{same_Some, slice_get-get_or, slice_get_within}
use Rattle.ir_model.specs.Nesting.{In}
use Rattle.ir_core_records.specs.Found.{place-In}

module _ {A : Type 0} (P : A → Type 0) (xs : List A) where
  -- all that stands before the place has P
  abbrev pub Before : ℕ → Type 0
  Before i = (k : ℕ) → k < i → (x : A) → slice_get xs k ≡ Some x → P x

  pub before-more : (i : ℕ) (x : A) → Before i → slice_get xs i ≡ Some x → P x → Before (i + 1)
  before-more i x before at p = below_more (λ k. (y : A) → slice_get xs k ≡ Some y → P y) i before (λ y e. subst P (same_Some _ _ (sym at ∙ e)) p)

  pub before-all : (i : ℕ) → Before i → length xs ≤ i → (x : A) → In x xs → P x
  before-all i before past x h =
      let at = place-In xs x h in
      let within : at.0 < length xs = slice_get_within xs at.0 x at.1 in
      before at.0 (omega arith) x at.1
