-- Places in a store.
use Rattle.std.proofs.Common.{◌≡◌, ◌+◌, ◌<◌, Bool, true, false, cond, not, ◌||◌, List, [], ◌∷◌, length, get_or, refl, sym, ap, subst, ◌∙◌, true≢false, arith, ◌↔◌}
use Rattle.std.specs.Cmp.{IsEquivalence}
use Rattle.std.specs.List.{list_any, position_or_len}
use Rattle.std.proofs.lemmas.List.Sums.{passes_at_first}
use Rattle.ir_model.specs.Edits.{place_of}

-- a test that some item passes, passes within the list
passes_within : {X : Type 0} (p : X → Bool) (xs : List X) → list_any p xs ≡ true → position_or_len p xs < length xs
passes_within p [] h = absurd (true≢false (sym h))
passes_within {X} p (x ∷ xs) h = by (p x) refl (passes_within p xs)
  where
    by : (b : Bool) → p x ≡ b → (list_any p xs ≡ true → position_or_len p xs < length xs) → position_or_len p (x ∷ xs) < length (x ∷ xs)
    by true e rest = omega (arith, ap (λ b. cond (not b) (1 + position_or_len p xs) 0) e)
    by false e rest = omega (arith, ap (λ b. cond (not b) (1 + position_or_len p xs) 0) e, rest (sym (ap (λ b. b || list_any p xs) e) ∙ h))

module _ {K : Type 0} (eq : K → K → Bool) (laws : IsEquivalence eq) (keys : List K) (a b : K) where
  -- equal keys have one place
  equal_places : eq a b ≡ true → place_of eq keys a ≡ place_of eq keys b
  equal_places e = λ j. position_or_len (λ k. (laws.symm k a ∙ laws.congr a b k e ∙ laws.symm b k) j) keys

  -- the key at its place is equal to it
  at_place : (c : K) → place_of eq keys c < length keys → eq (get_or keys (place_of eq keys c) a) c ≡ true
  at_place c lt = passes_at_first (λ k. eq k c) keys a lt

  -- one place means equal keys
  same_place : list_any (λ k. eq k a) keys ≡ true → place_of eq keys a ≡ place_of eq keys b → eq a b ≡ true
  same_place there e =
      let lt : place_of eq keys a < length keys = passes_within (λ k. eq k a) keys there in
      let left : eq (get_or keys (place_of eq keys a) a) a ≡ true = at_place a lt in
      let right : eq (get_or keys (place_of eq keys a) a) b ≡ true
      = ap (λ n. eq (get_or keys n a) b) e ∙ at_place b (subst (λ n. n < length keys) e lt) in
      sym (laws.congr (get_or keys (place_of eq keys a) a) a b left) ∙ right

  -- one place exactly where they are equal
  pub places : list_any (λ k. eq k a) keys ≡ true → (place_of eq keys a ≡ place_of eq keys b) ↔ (eq a b ≡ true)
  places there = (same_place there, equal_places)
