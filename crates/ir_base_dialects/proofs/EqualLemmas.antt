-- Equal dictionaries: each key of either leads to an equal attribute in the other.
use Rattle.std.proofs.Common.{◌≡◌, ◌+◌, ℕ, Bool, true, false, cond, List, [], ◌∷◌, ◌++◌, take, slice_get, Option, Some, None, is_some, get_or, refl, sym, ap, subst, ◌∙◌, true≢false}
use Rattle.std.specs.Prelude.{◌↔◌, IsTrue}
use Rattle.std.specs.Cmp.{IsEquivalence}
use Rattle.std.specs.Cmp.Lexicographic.{nat_list_eq_equiv}
use Rattle.std.specs.List.{All}
use Rattle.std.proofs.lemmas.List.{take_more}
use Rattle.std.proofs.lemmas.List.Elements.{All-nil, All-cons, All-head, All-tail, All-same}
use Rattle.std.proofs.lemmas.Map.Entries.{lookup_from_place}
use Rattle.std.proofs.lemmas.Option.{get_or_from_slice_get, slice_get_within, slice_get-get_or}
use Rattle.ir_model.specs.Stores.{attribute_at, HasDistinctKeys, SameAttribute}
use Rattle.ir_base_dialects.specs.Attributes.{same_key, same_pairs, IsWithin}
use Rattle.ir_base_dialects.specs.AttributeLaws.{same_pairs-laws}
use Rattle.ir_base_dialects.proofs.KeyLemmas.{distinct_keys, same_key-is, same_at_each_key}

-- with one more item
All-push : {X : Type 0} (P : X → Type 0) (xs : List X) (x : X) → All P xs → P x → All P (xs ++ x ∷ [])
All-push P [] x so_far here = All-cons P x [] here (All-nil P)
All-push P (y ∷ ys) x so_far here = All-cons P y (ys ++ x ∷ []) (All-head P y ys so_far) (All-push P ys x (All-tail P y ys so_far) here)

module _ {A : Type 0} (same : A → A → Bool) where
  -- the attribute of a pair, at its key in the other list
  abbrev Leads : List (List ℕ × A) → List ℕ × A → Type 0
  Leads fs p = SameAttribute same (Some p.1) (attribute_at fs p.0)

  module _ (es fs : List (List ℕ × A)) (i : ℕ) (p : List ℕ × A) (at : Some p ≡ slice_get es i) where
    -- with one pair more
    pub within-more : IsWithin same (take i es) fs → Leads fs p → IsWithin same (take (i + 1) es) fs
    within-more so_far here =
        All-same (Leads fs) (take (i + 1) es) (take i es ++ p ∷ [])
        (take_more es i p (slice_get_within es i p (sym at)) ∙ ap (λ e. take i es ++ e ∷ []) (get_or_from_slice_get es i p p (sym at)))
        (All-push (Leads fs) (take i es) p so_far here)

    -- what holds of all pairs holds of the one at a place
    pub within-at : IsWithin same es fs → Leads fs p
    within-at all = subst (Leads fs) (get_or_from_slice_get es i p p (sym at)) (all i p (slice_get_within es i p (sym at)))

  -- a key that leads to an attribute leads to an equal one in the other list
  leads_on : (es fs : List (List ℕ × A)) → IsWithin same es fs → (key : List ℕ) (a : A) → attribute_at es key ≡ Some a → SameAttribute same (Some a) (attribute_at fs key)
  leads_on [] fs all key a found = absurd (true≢false (sym (ap is_some found)))
  leads_on (e ∷ es) fs all key a found = by (same_key key e.0) refl found (leads_on es fs (All-tail (Leads fs) e es all) key a)
    where
      by : (b : Bool) → same_key key e.0 ≡ b → cond b (Some e.1) (attribute_at es key) ≡ Some a → (attribute_at es key ≡ Some a → SameAttribute same (Some a) (attribute_at fs key)) → SameAttribute same (Some a) (attribute_at fs key)
      by true is found rest = subst (λ o. SameAttribute same o (attribute_at fs key)) found (subst (λ k. SameAttribute same (Some e.1) (attribute_at fs k)) (sym (same_key-is key e.0 is)) (All-head (Leads fs) e es all))
      by false is found rest = rest found

  module _ (es fs : List (List ℕ × A)) where
    -- lists of which each lies within the other are equal
    pub equal-from_both : IsWithin same es fs → IsWithin same fs es → same_pairs same es fs ≡ true
    equal-from_both there back = (same_at_each_key same es fs).1 (λ key. by key (attribute_at es key) refl (attribute_at fs key) refl)
      where
        by : (key : List ℕ) (x : Option A) → attribute_at es key ≡ x → (y : Option A) → attribute_at fs key ≡ y → SameAttribute same (attribute_at es key) (attribute_at fs key)
        by key (Some a) is y at = subst (λ o. SameAttribute same o (attribute_at fs key)) (sym is) (leads_on es fs there key a is)
        by key None is None at = subst (λ o. SameAttribute same o (attribute_at fs key)) (sym is) (subst (SameAttribute same None) (sym at) tt)
        by key None is (Some b) at = absurd (subst (SameAttribute same (Some b)) is (leads_on fs es back key b at))

    -- and equal ones do
    pub within-from_equal : HasDistinctKeys es → same_pairs same es fs ≡ true → IsWithin same es fs
    within-from_equal distinct equal = λ i d less.
        let p = get_or es i d in
        let found : attribute_at es p.0 ≡ Some p.1 = lookup_from_place nat_list_eq_equiv es i p.0 p.1 ((distinct_keys es).1 distinct) (slice_get-get_or es i d less) in
        subst (λ o. SameAttribute same o (attribute_at fs p.0)) found ((same_at_each_key same es fs).0 equal p.0)

module _ {A : Type 0} (same : A → A → Bool) (laws : IsEquivalence same) (es fs : List (List ℕ × A)) where
  -- where the first doesn't lie within the second, they aren't equal
  pub not-equal : (r : Bool) → r ≡ false → (IsTrue r ↔ IsWithin same es fs) → HasDistinctKeys es → r ≡ same_pairs same es fs
  not-equal r none is distinct = by (same_pairs same es fs) refl
    where
      by : (b : Bool) → same_pairs same es fs ≡ b → r ≡ b
      by true equal = is.1 (within-from_equal same es fs distinct equal)
      by false equal = none

  -- and where it does, they are if the second lies within the first
  pub equal-if : (r : Bool) → IsWithin same es fs → (IsTrue r ↔ IsWithin same fs es) → HasDistinctKeys fs → r ≡ same_pairs same es fs
  equal-if true there is distinct = sym (equal-from_both same es fs there (is.0 refl))
  equal-if false there is distinct = by (same_pairs same es fs) refl
    where
      by : (b : Bool) → same_pairs same es fs ≡ b → false ≡ b
      by true equal = is.1 (within-from_equal same fs es distinct (sym ((same_pairs-laws same laws).symm es fs) ∙ equal))
      by false equal = refl
