-- A range of a list, with its first or its last item taken off.
use Rattle.std.proofs.Common.{◌≡◌, ℕ, suc, ◌+◌, ◌-◌, ◌<◌, ◌≤◌, List, [], ◌∷◌, ◌++◌, length, take, drop, get_or, Some, sym, ap, ◌∙◌, arith, get_or-drop, length-drop, slice_get, slice_range}
use Rattle.std.proofs.Math.Seq.{drop-cons, take-suc}
use Rattle.std.proofs.lemmas.Option.{slice_get_within, get_or_from_slice_get}

module _ {A : Type 0} (xs : List A) (i j : ℕ) (x : A) where
  -- the item at its start, and the range after it
  pub range-first : i < j → slice_get xs i ≡ Some x → slice_range xs i j ≡ x ∷ slice_range xs (i + 1) j
  range-first below at =
      let within : i < length xs = slice_get_within xs i x at in
      let more : j - i ≡ suc (j - (i + 1)) = omega arith in
      let after : suc i ≡ i + 1 = omega arith in
      ap (λ n. take n (drop i xs)) more
      ∙ ap (take (suc (j - (i + 1)))) (drop-cons xs i x within)
      ∙ ap (λ y. y ∷ take (j - (i + 1)) (drop (suc i) xs)) (get_or_from_slice_get xs i x x at)
      ∙ ap (λ k. x ∷ take (j - (i + 1)) (drop k xs)) after

  -- the range before its last item, and that item
  pub range-last : i < j → slice_get xs (j - 1) ≡ Some x → slice_range xs i j ≡ slice_range xs i (j - 1) ++ x ∷ []
  range-last below at =
      let within : j - 1 < length xs = slice_get_within xs (j - 1) x at in
      let more : j - i ≡ suc ((j - 1) - i) = omega arith in
      let there : i + ((j - 1) - i) ≡ j - 1 = omega arith in
      let inside : (j - 1) - i < length (drop i xs) = simp length-drop (omega arith) in
      ap (λ n. take n (drop i xs)) more
      ∙ take-suc (drop i xs) ((j - 1) - i) x inside
      ∙ ap (λ y. take ((j - 1) - i) (drop i xs) ++ y ∷ []) (get_or-drop i xs ((j - 1) - i) x ∙ ap (λ k. get_or xs k x) there ∙ get_or_from_slice_get xs (j - 1) x x at)
