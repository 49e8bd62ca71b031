-- A list of pairs in two parts: what is found at a key, put there or taken away, in the first part or else in the second.
use Rattle.std.proofs.Common.{◌≡◌, ◌<◌, ◌+◌, ℕ, zero, suc, Bool, true, false, cond, List, [], ◌∷◌, ◌++◌, length, Option, Some, None, is_some, get_or, remove, position, slice_get, refl, sym, ap, subst, ◌∙◌, true≢false, arith}
use Rattle.std.specs.List.{slice_set, position_from}
use Rattle.std.proofs.lemmas.Iterator.Adapters.{position_from-zero}
use Rattle.std.proofs.lemmas.List.{append-nil}
use Rattle.std.proofs.lemmas.List.Quantifiers.{position-Some}
use Rattle.std.proofs.lemmas.Option.{get_or_from_slice_get}
use Rattle.std.specs.Option.{option_map}
use Rattle.ir_model.specs.Stores.{attribute_at, set_attribute, without_attribute, HasDistinctKeys}
use Rattle.ir_model.proofs.Dictionaries.{dictionaries_keep_order}
use Rattle.ir_base_dialects.specs.Attributes.{same_key}

module _ {A : Type 0} (key : List ℕ) where
  -- the pair has the key
  abbrev pub has : List ℕ × A → Bool
  has p = same_key key p.0

  -- the pair stands at the place, and is the first with the key
  pub IsFirst : List (List ℕ × A) → ℕ → List ℕ × A → Type 0
  IsFirst [] i p = ⊥
  IsFirst (q ∷ qs) zero p = (q ≡ p) × (has p ≡ true)
  IsFirst (q ∷ qs) (suc i) p = (has q ≡ false) × IsFirst qs i p

  first_of : (pairs : List (List ℕ × A)) (i : ℕ) (p : List ℕ × A) → i < length pairs → has (get_or pairs i p) ≡ true → ((k : ℕ) → k < i → has (get_or pairs k p) ≡ false) → IsFirst pairs i (get_or pairs i p)
  unfolding IsFirst
  first_of [] i p within here before = absurd (omega (arith, within))
  first_of (q ∷ qs) zero p within here before = (refl, here)
  first_of (q ∷ qs) (suc i) p within here before = (before 0 (omega arith), first_of qs i p (omega (arith, within)) here (λ k less. before (suc k) (omega (arith, less))))

  -- what stands at the place that was found is the first with the key
  pub found_at : (pairs : List (List ℕ × A)) (i : ℕ) (p : List ℕ × A) → Some i ≡ position has pairs → p ≡ get_or pairs i p → IsFirst pairs i p
  found_at pairs i p found is = let at = position-Some has pairs i p (sym found) in subst (IsFirst pairs i) (sym is) (first_of pairs i p at.0 at.1 at.2)

  -- and so is the one of which this is the attribute
  pub found_with : (pairs : List (List ℕ × A)) (i : ℕ) (a : A) → Some i ≡ position has pairs → Some a ≡ option_map (λ p. p.1) (slice_get pairs i) → (p : List ℕ × A) × IsFirst pairs i p × (Some a ≡ Some p.1)
  found_with pairs i a found is = by (slice_get pairs i) refl is
    where
      by : (o : Option (List ℕ × A)) → slice_get pairs i ≡ o → Some a ≡ option_map (λ p. p.1) o → (p : List ℕ × A) × IsFirst pairs i p × (Some a ≡ Some p.1)
      by None at is = absurd (true≢false (ap is_some is))
      by (Some p) at is = (p, found_at pairs i p found (sym (get_or_from_slice_get pairs i p p at)), is)

  module _ (more : List (List ℕ × A)) where
    pub looked : (pairs : List (List ℕ × A)) (i : ℕ) (p : List ℕ × A) → IsFirst pairs i p → attribute_at (pairs ++ more) key ≡ Some p.1
    unfolding IsFirst
    looked [] i p h = absurd h
    looked (q ∷ qs) zero p h = ap (λ x. cond (has x) (Some x.1) (attribute_at (qs ++ more) key)) h.0 ∙ ap (λ b. cond b (Some p.1) (attribute_at (qs ++ more) key)) h.1
    looked (q ∷ qs) (suc i) p h = ap (λ b. cond b (Some q.1) (attribute_at (qs ++ more) key)) h.0 ∙ looked qs i p h.1

    pub put : (pairs : List (List ℕ × A)) (i : ℕ) (p : List ℕ × A) → IsFirst pairs i p → (a : A) → set_attribute (pairs ++ more) key a ≡ slice_set pairs i (p.0, a) ++ more
    unfolding IsFirst
    put [] i p h a = absurd h
    put (q ∷ qs) zero p h a = ap (λ x. cond (has x) ((x.0, a) ∷ qs ++ more) (x ∷ set_attribute (qs ++ more) key a)) h.0 ∙ ap (λ b. cond b ((p.0, a) ∷ qs ++ more) (p ∷ set_attribute (qs ++ more) key a)) h.1
    put (q ∷ qs) (suc i) p h a = ap (λ b. cond b ((q.0, a) ∷ qs ++ more) (q ∷ set_attribute (qs ++ more) key a)) h.0 ∙ ap (λ l. q ∷ l) (put qs i p h.1 a)

    pub taken : (pairs : List (List ℕ × A)) (i : ℕ) (p : List ℕ × A) → IsFirst pairs i p → without_attribute (pairs ++ more) key ≡ remove pairs i ++ more
    unfolding IsFirst
    taken [] i p h = absurd h
    taken (q ∷ qs) zero p h = ap (λ x. cond (has x) (qs ++ more) (x ∷ without_attribute (qs ++ more) key)) h.0 ∙ ap (λ b. cond b (qs ++ more) (p ∷ without_attribute (qs ++ more) key)) h.1
    taken (q ∷ qs) (suc i) p h = ap (λ b. cond b (qs ++ more) (q ∷ without_attribute (qs ++ more) key)) h.0 ∙ ap (λ l. q ∷ l) (taken qs i p h.1)

  -- no pair has the key
  pub HasNone : List (List ℕ × A) → Type 0
  HasNone [] = Unit {0}
  HasNone (q ∷ qs) = (has q ≡ false) × HasNone qs

  none_from : (pairs : List (List ℕ × A)) (i : ℕ) → None ≡ position_from has i pairs → HasNone pairs
  unfolding HasNone
  none_from [] i e = tt
  none_from (q ∷ qs) i e = by (has q) refl (none_from qs (i + 1)) e
    where
      by : (b : Bool) → has q ≡ b → (None ≡ position_from has (i + 1) qs → HasNone qs) → None ≡ cond b (Some i) (position_from has (i + 1) qs) → (has q ≡ false) × HasNone qs
      by true is rest e = absurd (true≢false (sym (ap is_some e)))
      by false is rest e = (is, rest e)

  -- where no place was found, no pair has the key
  pub none_at : (pairs : List (List ℕ × A)) → None ≡ position has pairs → HasNone pairs
  none_at pairs e = none_from pairs 0 (e ∙ position_from-zero has pairs)

  module _ (more : List (List ℕ × A)) where
    pub looked_on : (pairs : List (List ℕ × A)) → HasNone pairs → attribute_at (pairs ++ more) key ≡ attribute_at more key
    unfolding HasNone
    looked_on [] h = refl
    looked_on (q ∷ qs) h = ap (λ b. cond b (Some q.1) (attribute_at (qs ++ more) key)) h.0 ∙ looked_on qs h.1

    pub put_on : (pairs : List (List ℕ × A)) → HasNone pairs → (a : A) → set_attribute (pairs ++ more) key a ≡ pairs ++ set_attribute more key a
    unfolding HasNone
    put_on [] h a = refl
    put_on (q ∷ qs) h a = ap (λ b. cond b ((q.0, a) ∷ qs ++ more) (q ∷ set_attribute (qs ++ more) key a)) h.0 ∙ ap (λ l. q ∷ l) (put_on qs h.1 a)

    -- with nothing in the second part, what is put at a new key goes last in the first
    pub put_last : (pairs : List (List ℕ × A)) → HasNone pairs → more ≡ [] → (new : List (List ℕ × A)) (a : A) → new ≡ pairs ++ (key, a) ∷ [] → new ++ more ≡ set_attribute (pairs ++ more) key a
    put_last pairs h none new a is = ap (λ l. new ++ l) none ∙ append-nil new ∙ is ∙ ap (λ l. pairs ++ set_attribute l key a) (sym none) ∙ sym (put_on pairs h a)

    pub taken_on : (pairs : List (List ℕ × A)) → HasNone pairs → without_attribute (pairs ++ more) key ≡ pairs ++ without_attribute more key
    unfolding HasNone
    taken_on [] h = refl
    taken_on (q ∷ qs) h = ap (λ b. cond b (qs ++ more) (q ∷ without_attribute (qs ++ more) key)) h.0 ∙ ap (λ l. q ∷ l) (taken_on qs h.1)

  -- keys stay distinct
  pub still_distinct : (pairs : List (List ℕ × A)) (a : A) → HasDistinctKeys pairs → HasDistinctKeys (set_attribute pairs key a)
  still_distinct pairs a d = ((dictionaries_keep_order A).set pairs key a).distinct d

  pub distinct_without : (pairs : List (List ℕ × A)) → HasDistinctKeys pairs → HasDistinctKeys (without_attribute pairs key)
  distinct_without pairs d = ((dictionaries_keep_order A).removed pairs key d).distinct
