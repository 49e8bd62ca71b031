-- Lists read by index after an edit.
use Rattle.std.proofs.Common.{◌≡◌, ◌⊎◌, ℕ, zero, suc, ◌+◌, ◌-◌, ◌<◌, ◌≤◌, List, [], ◌∷◌, ◌++◌, length, get_or, set, take, Some, None, slice_get, refl, sym, ap, ◌∙◌, inl, inr, arith}
use Rattle.std.specs.List.{swap_remove, remove}
use Rattle.std.proofs.lemmas.Option.{slice_get_within, slice_get-get_or}
use Rattle.std.proofs.lemmas.List.{length-set, length-take-le, length_push}
use Rattle.ir_model.proofs.Prefixes.{slice_get-take}

module _ {X : Type 0} where
  pub slice_get-set_same : (xs : List X) (i : ℕ) (y : X) → i < length xs → slice_get (set xs i y) i ≡ Some y
  slice_get-set_same (x ∷ xs) zero y h = refl
  slice_get-set_same (x ∷ xs) (suc i) y h = slice_get-set_same xs i y (omega arith)
  slice_get-set_same [] i y h = absurd (omega arith)

  pub slice_get-set_other : (xs : List X) (i j : ℕ) (y : X) → (j ≡ i → ⊥) → slice_get (set xs i y) j ≡ slice_get xs j
  slice_get-set_other [] i j y h = refl
  slice_get-set_other (x ∷ xs) zero zero y h = absurd (h refl)
  slice_get-set_other (x ∷ xs) zero (suc j) y h = refl
  slice_get-set_other (x ∷ xs) (suc i) zero y h = refl
  slice_get-set_other (x ∷ xs) (suc i) (suc j) y h = slice_get-set_other xs i j y (λ e. h (ap suc e))

  pub slice_get-push_before : (xs : List X) (y : X) (j : ℕ) → j < length xs → slice_get (xs ++ y ∷ []) j ≡ slice_get xs j
  slice_get-push_before [] y j h = absurd (omega arith)
  slice_get-push_before (x ∷ xs) y zero h = refl
  slice_get-push_before (x ∷ xs) y (suc j) h = slice_get-push_before xs y j (omega arith)

  pub slice_get-push_at : (xs : List X) (y : X) → slice_get (xs ++ y ∷ []) (length xs) ≡ Some y
  slice_get-push_at [] y = refl
  slice_get-push_at (x ∷ xs) y = slice_get-push_at xs y

  -- an item after a push is an old one, or the new one at the end
  pub slice_get-push_cases : (xs : List X) (y : X) (j : ℕ) (x : X) → slice_get (xs ++ y ∷ []) j ≡ Some x → (slice_get xs j ≡ Some x) ⊎ ((j ≡ length xs) × (y ≡ x))
  slice_get-push_cases [] y zero x h = inr (refl, cc)
  slice_get-push_cases [] y (suc j) x h = absurd (cc)
  slice_get-push_cases (z ∷ xs) y zero x h = inl h
  slice_get-push_cases (z ∷ xs) y (suc j) x h = elim (slice_get-push_cases xs y j x h) [ inl e ↦ inl e | inr e ↦ inr (ap suc e.0, e.1) ]

  -- the removal of the item at i
  pub slice_get-remove_below : (xs : List X) (i j : ℕ) → j < i → slice_get (remove xs i) j ≡ slice_get xs j
  slice_get-remove_below xs zero j h = absurd (omega arith)
  slice_get-remove_below [] (suc i) j h = refl
  slice_get-remove_below (x ∷ xs) (suc i) zero h = refl
  slice_get-remove_below (x ∷ xs) (suc i) (suc j) h = slice_get-remove_below xs i j (omega arith)

  pub slice_get-remove_from : (xs : List X) (i j : ℕ) → i ≤ j → slice_get (remove xs i) j ≡ slice_get xs (suc j)
  slice_get-remove_from [] zero j h = refl
  slice_get-remove_from [] (suc i) j h = refl
  slice_get-remove_from (x ∷ xs) zero j h = refl
  slice_get-remove_from (x ∷ xs) (suc i) zero h = absurd (omega arith)
  slice_get-remove_from (x ∷ xs) (suc i) (suc j) h = slice_get-remove_from xs i j (omega arith)

  -- swap_remove: the last item comes to k, the others stay
  pub swap_remove-at : (xs : List X) (k : ℕ) (d : X) → k + 1 < length xs → slice_get (swap_remove xs k d) k ≡ slice_get xs (length xs - 1)
  swap_remove-at xs k d h =
      slice_get-take (set xs k (get_or xs (length xs - 1) d)) (length xs - 1) k (omega arith)
      ∙ slice_get-set_same xs k (get_or xs (length xs - 1) d) (omega arith)
      ∙ sym (slice_get-get_or xs (length xs - 1) d (omega arith))

  pub swap_remove-other : (xs : List X) (k j : ℕ) (d : X) → j + 1 < length xs → (j ≡ k → ⊥) → slice_get (swap_remove xs k d) j ≡ slice_get xs j
  swap_remove-other xs k j d h ne =
      slice_get-take (set xs k (get_or xs (length xs - 1) d)) (length xs - 1) j (omega arith)
      ∙ slice_get-set_other xs k j (get_or xs (length xs - 1) d) ne

  pub swap_remove-within : (xs : List X) (k j : ℕ) (d x : X) → slice_get (swap_remove xs k d) j ≡ Some x → j + 1 < length xs
  swap_remove-within xs k j d x h =
      let w = slice_get_within (swap_remove xs k d) j x h in
      let e = length-take-le (length xs - 1) (set xs k (get_or xs (length xs - 1) d)) (omega (arith, length-set xs k (get_or xs (length xs - 1) d))) in
      omega (arith, length-set xs k (get_or xs (length xs - 1) d))

  pub length-swap_remove : (xs : List X) (k : ℕ) (d : X) → length (swap_remove xs k d) ≡ length xs - 1
  length-swap_remove xs k d = length-take-le (length xs - 1) (set xs k (get_or xs (length xs - 1) d)) (omega (arith, length-set xs k (get_or xs (length xs - 1) d)))

  -- what stands at k now was the last
  pub moved_from_last : (xs : List X) (k : ℕ) (d x : X) → slice_get (swap_remove xs k d) k ≡ Some x → slice_get xs (length xs - 1) ≡ Some x
  moved_from_last xs k d x h = sym (swap_remove-at xs k d (swap_remove-within xs k k d x h)) ∙ h

  take-all_but_last : (xs : List X) (y z : X) → take (length xs) (set (xs ++ y ∷ []) (length xs) z) ≡ xs
  take-all_but_last [] y z = refl
  take-all_but_last (x ∷ xs) y z = ap (λ ys. x ∷ ys) (take-all_but_last xs y z)

  -- the last item is taken out
  pub swap_remove-last : (xs : List X) (y d : X) → swap_remove (xs ++ y ∷ []) (length xs) d ≡ xs
  swap_remove-last xs y d =
      let size : length (xs ++ y ∷ []) - 1 ≡ length xs = omega (arith, length_push xs y) in
      ap (λ n. take n (set (xs ++ y ∷ []) (length xs) (get_or (xs ++ y ∷ []) n d))) size ∙ take-all_but_last xs y (get_or (xs ++ y ∷ []) (length xs) d)

  -- where nothing stands, the list has ended
  pub none_past : (xs : List X) (k : ℕ) → slice_get xs k ≡ None → length xs ≤ k
  none_past [] k none = omega arith
  none_past (x ∷ xs) zero none = absurd (cc)
  none_past (x ∷ xs) (suc k) none = let e = none_past xs k none in omega (arith, e)
