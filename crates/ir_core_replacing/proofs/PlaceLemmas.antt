-- The place of a use, found and written by its number.
use Rattle.std.proofs.Common.{◌≡◌, ℕ, ◌==◌, List, set, Option, Some, None, slice_get, sym, ap, ◌∙◌, position, eqb-true}
use Rattle.std.proofs.lemmas.Option.{get_or_from_slice_get}
use Rattle.std.proofs.lemmas.List.Quantifiers.{position-Some}
use Rattle.ir_core_records.specs.declared.record.UsePlace.{UsePlace}
use Rattle.ir_core_replacing.specs.Renamed.{put_name}

module _ {N : Type 0} where
  -- what was found by the number has the number
  pub found_place : (xs ys : List (UsePlace N)) → xs ≡ ys → (n i : ℕ) (a : UsePlace N) → position (λ (x : UsePlace N). x.number == n) xs ≡ Some i → slice_get xs i ≡ Some a → (j : ℕ) × (slice_get ys j ≡ Some a) × (a.number ≡ n)
  found_place xs ys e n i a found at =
      let p = position-Some (λ (x : UsePlace N). x.number == n) xs i a found in
      let same = get_or_from_slice_get xs i a a at in
      (i, ap (λ (zs : List (UsePlace N)). slice_get zs i) (sym e) ∙ at, eqb-true a.number n (sym (ap (λ (x : UsePlace N). x.number == n) same) ∙ p.1))

  -- the write at the index that was found
  pub put_name-at : (xs : List (UsePlace N)) (n : ℕ) (v : N) (k i : ℕ) → position (λ (x : UsePlace N). x.number == n) xs ≡ Some i → set xs i (record { number = n; names = v; place = k }) ≡ put_name xs n v k
  put_name-at xs n v k i found = sym (ap (λ (m : Option ℕ). elim m as (λ _. List (UsePlace N)) [ None ↦ xs | Some j ↦ set xs j (record { number = n; names = v; place = k }) ]) found)
