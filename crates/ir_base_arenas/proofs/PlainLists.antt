-- What a change of the cells of a list does to its items.
use Rattle.std.proofs.Common.{◌≡◌, ℕ, ◌-◌, ◌<◌, ◌≤◌, List, length, get_or, take, set, swap_remove, refl, sym, ap, ◌∙◌, arith, rules, length-take-le}
use Rattle.std.proofs.lemmas.List.{same_lists, places, get_or-set_same, get_or-take, get_or_read, take-take}
use Rattle.std.proofs.lemmas.Bool.{cases_eq}
use Rattle.ir_base_arenas.specs.declared.plain_seq.Place.{Place}
use Rattle.ir_base_arenas.specs.declared.plain_seq.Place.TheVariants.{Inline, Heap}
use Rattle.ir_base_arenas.specs.PlainItems.{items_of, IsPlaced, place_with}

module _ {X : Type 0} where
  -- a write below n is a write to the first n items
  pub take-set_below : (n : ℕ) (xs : List X) (i : ℕ) (x : X) → i < n → n ≤ length xs → take n (set xs i x) ≡ set (take n xs) i x
  take-set_below n xs i x lt le =
      same_lists _ _ (search (rules, places))
      (λ k d h. grind (arith, places, get_or-set_same, cases_eq k i))

  -- the last of the first n items in the place of another
  pub take-swap_remove : (n : ℕ) (xs : List X) (i : ℕ) (x d : X) → i < n → n ≤ length xs → x ≡ get_or xs (n - 1) x → take (n - 1) (set xs i x) ≡ swap_remove (take n xs) i d
  take-swap_remove n xs i x d lt le is =
      let long : length (take n xs) ≡ n = length-take-le n xs le in
      let last : get_or (take n xs) (n - 1) d ≡ x = get_or-take n xs (n - 1) d (omega (arith, lt)) ∙ sym (get_or_read xs (n - 1) x (omega (arith, lt, le)) is d) in
      sym (take-take (n - 1) n (set xs i x) (omega arith))
      ∙ ap (take (n - 1)) (take-set_below n xs i x lt le)
      ∙ ap (λ y. take (n - 1) (set (take n xs) i y)) (sym last)
      ∙ ap (λ k. take (k - 1) (set (take n xs) i (get_or (take n xs) (k - 1) d))) (sym long)

module _ {T : Type 0} {N : ℕ} where
  pub items-place_with : (p : Place T N) (i : ℕ) (w : T) → IsPlaced p → i < length (items_of p) → items_of (place_with p i w) ≡ set (items_of p) i w
  items-place_with (Inline len cells) i w placed within =
      take-set_below len cells.xs i w (omega (arith, within, length-take-le len cells.xs (omega (arith, placed.0, placed.1)))) (omega (arith, placed.0, placed.1))
  items-place_with (Heap v) i w placed within = refl
