-- What follows for lists of verifiers and of dictionary keys.
use Rattle.std.proofs.Common.{◌≡◌, ◌≢◌, ℕ, ◌+◌, ◌<◌, ◌≤◌, Bool, true, false, cond, nat_lt, nat_eq, List, map, take, length, slice_get, position, Some, None, is_some, refl, sym, ap, ◌∙◌, arith, true≢false, ltb-true, ltb-false, inl, inr, below_more, unwrap_or, length-take}
use Rattle.std.specs.Cmp.Lexicographic.{pointwise, same_text}
use Rattle.std.specs.Option.{option_map}
use Rattle.std.specs.List.{position_or_len}
use Rattle.std.proofs.lemmas.List.{length-map}
use Rattle.std.proofs.lemmas.Cmp.{nat_list_eq_equiv}
use Rattle.std.proofs.lemmas.List.Sums.{fails_before_first}
use Rattle.std.proofs.lemmas.List.Quantifiers.{position-Some}
use Rattle.std.proofs.lemmas.Option.{slice_get-map, slice_get_within, slice_get_cases}
use Rattle.ir_model.specs.VerifierLists.{DifferBelow, IsFirstRepeat}
use Rattle.ir_model.proofs.Prefixes.{slice_get-take}

-- a search that finds nothing stops at the end
none_at_end : (n l : ℕ) → cond (nat_lt n l) (Some n) None ≡ None → l ≤ n
none_at_end n l e = by (nat_lt n l) refl e
  where
    by : (b : Bool) → nat_lt n l ≡ b → cond b (Some n) None ≡ None → l ≤ n
    by true q e = absurd (true≢false (ap is_some e))
    by false q e = omega (arith, ltb-false n l q)

-- a search that finds a place stops there
found_within : (n l k : ℕ) → cond (nat_lt n l) (Some n) None ≡ Some k → k < l
found_within n l k e = by (nat_lt n l) refl e
  where
    by : (b : Bool) → nat_lt n l ≡ b → cond b (Some n) None ≡ Some k → k < l
    by true q e = let same : n ≡ k = ap (λ o. unwrap_or o 0) e in omega (arith, ltb-true n l q, same)
    by false q e = absurd (true≢false (sym (ap is_some e)))

module _ {X : Type 0} (f : X → List ℕ) (text : List ℕ) where
  -- where none is found, no item has the text
  pub no_place : (xs : List X) → position (λ x. pointwise nat_eq (f x) text) xs ≡ None → (k : ℕ) → slice_get (map f xs) k ≢ Some text
  no_place xs none k at =
      let P = λ (x : X). pointwise nat_eq (f x) text in
      elim (slice_get_cases xs k).1 [
        | inl h ↦
            let same : f h.0 ≡ text = ap (λ o. unwrap_or o text) (sym (slice_get-map f xs k ∙ ap (option_map f) h.2) ∙ at) in
            let end : length xs ≤ position_or_len P xs = none_at_end _ _ none in
            let differs : P h.0 ≡ false = sym (ap P h.3) ∙ fails_before_first P xs k h.0 (omega (arith, h.1, end)) in
            true≢false (sym (nat_list_eq_equiv.refl text) ∙ sym (ap (λ t. pointwise nat_eq t text) same) ∙ differs)
        | inr h ↦ true≢false (sym (ap is_some (sym (slice_get-map f xs k ∙ ap (option_map f) h.1) ∙ at)))
      ]

  -- where one is found, its item has the text
  pub at_place : (xs : List X) (k : ℕ) → position (λ x. pointwise nat_eq (f x) text) xs ≡ Some k → slice_get (map f xs) k ≡ Some text
  at_place xs k found =
      let P = λ (x : X). pointwise nat_eq (f x) text in
      elim (slice_get_cases xs k).1 [
        | inl h ↦
            let passes : P h.0 ≡ true = sym (ap P h.3) ∙ (position-Some P xs k h.0 found).1 in
            slice_get-map f xs k ∙ ap (option_map f) h.2 ∙ ap Some (same_text (f h.0) text (sym passes))
        | inr h ↦ absurd (omega (arith, found_within _ (length xs) k found, h.0))
      ]

module _ {X : Type 0} (f : X → List ℕ) (xs : List X) (n : ℕ) (x : X) (at : slice_get xs n ≡ Some x) (below : DifferBelow (map f xs) n) where
  at_text : slice_get (map f xs) n ≡ Some (f x)
  at_text = slice_get-map f xs n ∙ ap (option_map f) at

  before : (k : ℕ) → k < n → slice_get (map f (take n xs)) k ≡ slice_get (map f xs) k
  before k lt = slice_get-map f (take n xs) k ∙ ap (option_map f) (slice_get-take xs n k lt) ∙ sym (slice_get-map f xs k)

  -- an item that none before it equals leaves all different
  pub DifferBelow-more : position (λ y. pointwise nat_eq (f y) (f x)) (take n xs) ≡ None → DifferBelow (map f xs) (n + 1)
  DifferBelow-more none first second lt le e =
      below_more (λ j. first < j → slice_get (map f xs) first ≢ slice_get (map f xs) j) n (λ j h l. below first j l h)
      (λ l same. no_place f (f x) (take n xs) none first (before first l ∙ same ∙ at_text))
      second le lt e

  -- an item that one before it equals is the first that repeats
  pub repeats : (k : ℕ) → position (λ y. pointwise nat_eq (f y) (f x)) (take n xs) ≡ Some k → IsFirstRepeat (map f xs) k n
  repeats k found =
      let there : slice_get (map f (take n xs)) k ≡ Some (f x) = at_place f (f x) (take n xs) k found in
      let early : k < n = omega (arith, slice_get_within (map f (take n xs)) k (f x) there, length-map (take n xs) f, length-take n xs) in
      record {
        in_order = early;
        within = slice_get_within (map f xs) n (f x) at_text;
        same = sym (before k early) ∙ there ∙ sym at_text;
        least = below;
      }
