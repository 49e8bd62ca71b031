-- Attribute dictionaries keep their order and their other attributes, and owners of verifiers stay apart.
use mathlib.Core.Path.{◌≡◌, refl, sym, ap, ◌∙◌, subst}
use Rattle.std.proofs.Common.{ℕ, ◌≢◌, ◌⊎◌, inl, inr, Bool, true, false, not, cond, Some, None, List, [], ◌∷◌, ◌++◌, map}
use Rattle.std.specs.Prelude.{◌↔◌, bytes_eq, nat_eq}
use Rattle.std.specs.List.{filter, flat_map}
use Rattle.std.specs.Map.{keys_of}
use Rattle.std.proofs.lemmas.Slice.Eq.{bytes_eq-Decides}
use Rattle.ir_model.specs.Ids.{Distinct}
use Rattle.ir_model.specs.Forest.{Text}
use Rattle.ir_model.specs.Nesting.{In}
use Rattle.ir_model.specs.Stores.{attribute_at, set_attribute, without_attribute, HasDistinctKeys}
use Rattle.ir_model.specs.VerifierLists.{first_places, joined}
use Rattle.ir_model.specs.StoreLaws.{DictionariesKeepOrder, OwnersStayApart}
use Rattle.ir_model.proofs.Renaming.{Tells}
use Rattle.ir_model.proofs.TwoRuns.{lawful}
use Rattle.ir_model.proofs.Nests.{In-append, In-left, In-right, In-map_back, Absent-not_in, not_in-Absent}
use Rattle.ir_model.proofs.Filters.{In-filter, In-kept, Distinct-filter}
use Rattle.ir_model.proofs.Relinks.{same_refl, differs}

-- the key is that of the pair, or another one
data Case {A : Type 0} (key : Text) (p : Text × A) : Type 0 where
  its_key : key ≡ p.0 → bytes_eq key p.0 ≡ true → Case key p
  other_key : key ≢ p.0 → bytes_eq key p.0 ≡ false → Case key p

case : {A : Type 0} (key : Text) (p : Text × A) → Case key p
case key p = by (bytes_eq key p.0) refl
  where
    by : (t : Bool) → bytes_eq key p.0 ≡ t → Case key p
    by true e = its_key ((bytes_eq-Decides key p.0).0 e) e
    by false e = other_key (λ s. (let t : bytes_eq key p.0 ≡ true = (bytes_eq-Decides key p.0).1 s in cc)) e

module _ {A : Type 0} (key : Text) where
  -- a pair at the front of a dictionary that is set
  at_front : (p : Text × A) (pairs : List (Text × A)) (a : A) → bytes_eq key p.0 ≡ true → set_attribute (p ∷ pairs) key a ≡ (p.0, a) ∷ pairs
  at_front p pairs a e = ap (λ t. cond t ((p.0, a) ∷ pairs) (p ∷ set_attribute pairs key a)) e

  behind_front : (p : Text × A) (pairs : List (Text × A)) (a : A) → bytes_eq key p.0 ≡ false → set_attribute (p ∷ pairs) key a ≡ p ∷ set_attribute pairs key a
  behind_front p pairs a e = ap (λ t. cond t ((p.0, a) ∷ pairs) (p ∷ set_attribute pairs key a)) e

  looked : (other : Text) (x : Text) (a : A) (pairs : List (Text × A)) → bytes_eq other x ≡ true → attribute_at ((x, a) ∷ pairs) other ≡ Some a
  looked other x a pairs e = ap (λ t. cond t (Some a) (attribute_at pairs other)) e

  passed : (other : Text) (x : Text) (a : A) (pairs : List (Text × A)) → bytes_eq other x ≡ false → attribute_at ((x, a) ∷ pairs) other ≡ attribute_at pairs other
  passed other x a pairs e = ap (λ t. cond t (Some a) (attribute_at pairs other)) e

  set_there : (pairs : List (Text × A)) (a : A) → attribute_at (set_attribute pairs key a) key ≡ Some a
  set_there [] a = looked key key a [] (same_refl bytes_eq bytes_eq-Decides key)
  set_there (p ∷ pairs) a = elim (case key p) [
    | its_key s e ↦ ap (λ l. attribute_at l key) (at_front p pairs a e) ∙ looked key p.0 a pairs e
    | other_key n e ↦ ap (λ l. attribute_at l key) (behind_front p pairs a e) ∙ passed key p.0 p.1 (set_attribute pairs key a) e ∙ set_there pairs a
  ]

  set_others : (pairs : List (Text × A)) (a : A) (other : Text) → other ≢ key → attribute_at (set_attribute pairs key a) other ≡ attribute_at pairs other
  set_others [] a other n = passed other key a [] (differs bytes_eq bytes_eq-Decides other key n)
  set_others (p ∷ pairs) a other n = elim (case key p) [
    | its_key s e ↦
        let o = differs bytes_eq bytes_eq-Decides other p.0 (λ h. n (h ∙ sym s)) in
        ap (λ l. attribute_at l other) (at_front p pairs a e) ∙ passed other p.0 a pairs o ∙ sym (passed other p.0 p.1 pairs o)
    | other_key m e ↦ ap (λ l. attribute_at l other) (behind_front p pairs a e) ∙ ap (λ r. cond (bytes_eq other p.0) (Some p.1) r) (set_others pairs a other n)
  ]

  keeps_place : (pairs : List (Text × A)) (a : A) → In key (keys_of pairs) → keys_of (set_attribute pairs key a) ≡ keys_of pairs
  keeps_place [] a h = elim h [ ]
  keeps_place (p ∷ pairs) a h = elim (case key p) [
    | its_key s e ↦ ap keys_of (at_front p pairs a e)
    | other_key n e ↦ ap keys_of (behind_front p pairs a e) ∙ ap (λ l. p.0 ∷ l) (keeps_place pairs a (elim h [ inl s ↦ absurd (n s) | inr k ↦ k ]))
  ]

  goes_last : (pairs : List (Text × A)) (a : A) → (In key (keys_of pairs) → ⊥) → set_attribute pairs key a ≡ pairs ++ (key, a) ∷ []
  goes_last [] a n = refl
  goes_last (p ∷ pairs) a n = elim (case key p) [
    | its_key s e ↦ absurd (n (inl s))
    | other_key m e ↦ behind_front p pairs a e ∙ ap (λ l. p ∷ l) (goes_last pairs a (λ h. n (inr h)))
  ]

  in_set : (pairs : List (Text × A)) (a : A) (x : Text) → In x (keys_of (set_attribute pairs key a)) → In x (keys_of pairs) ⊎ (x ≡ key)
  in_set [] a x (inl e) = inr e
  in_set [] a x (inr k) = elim k [ ]
  in_set (p ∷ pairs) a x h = elim (case key p) [
    | its_key s e ↦ inl (subst (In x) (ap keys_of (at_front p pairs a e)) h)
    | other_key n e ↦ elim (subst (In x) (ap keys_of (behind_front p pairs a e)) h) [
      | inl s ↦ inl (inl s)
      | inr k ↦ elim (in_set pairs a x k) [ inl i ↦ inl (inr i) | inr i ↦ inr i ]
    ]
  ]

  set_distinct : (pairs : List (Text × A)) (a : A) → HasDistinctKeys pairs → HasDistinctKeys (set_attribute pairs key a)
  set_distinct [] a d = (tt, tt)
  set_distinct (p ∷ pairs) a d = elim (case key p) [
    | its_key s e ↦ subst Distinct (sym (ap keys_of (at_front p pairs a e))) d
    | other_key n e ↦ subst Distinct (sym (ap keys_of (behind_front p pairs a e))) (
      Absent-not_in p.0 (keys_of (set_attribute pairs key a)) (λ h. elim (in_set pairs a p.0 h) [ inl k ↦ not_in-Absent p.0 (keys_of pairs) d.0 k | inr k ↦ n (sym k) ]),
      set_distinct pairs a d.1,
    )
  ]

  off_front : (p : Text × A) (pairs : List (Text × A)) → bytes_eq key p.0 ≡ true → without_attribute (p ∷ pairs) key ≡ pairs
  off_front p pairs e = ap (λ t. cond t pairs (p ∷ without_attribute pairs key)) e

  off_behind : (p : Text × A) (pairs : List (Text × A)) → bytes_eq key p.0 ≡ false → without_attribute (p ∷ pairs) key ≡ p ∷ without_attribute pairs key
  off_behind p pairs e = ap (λ t. cond t pairs (p ∷ without_attribute pairs key)) e

  unlooked : (pairs : List (Text × A)) → (In key (keys_of pairs) → ⊥) → attribute_at pairs key ≡ None
  unlooked [] n = refl
  unlooked (p ∷ pairs) n = passed key p.0 p.1 pairs (differs bytes_eq bytes_eq-Decides key p.0 (λ e. n (inl e))) ∙ unlooked pairs (λ h. n (inr h))

  unfiltered : (pairs : List (Text × A)) → (In key (keys_of pairs) → ⊥) → filter (λ (p : Text × A). not (bytes_eq key p.0)) pairs ≡ pairs
  unfiltered [] n = refl
  unfiltered (p ∷ pairs) n =
      ap (λ t. cond (not t) (p ∷ filter (λ (q : Text × A). not (bytes_eq key q.0)) pairs) (filter (λ (q : Text × A). not (bytes_eq key q.0)) pairs)) (differs bytes_eq bytes_eq-Decides key p.0 (λ e. n (inl e)))
      ∙ ap (λ l. p ∷ l) (unfiltered pairs (λ h. n (inr h)))

  alone : (p : Text × A) (pairs : List (Text × A)) → HasDistinctKeys (p ∷ pairs) → key ≡ p.0 → In key (keys_of pairs) → ⊥
  alone p pairs d s h = not_in-Absent p.0 (keys_of pairs) d.0 (subst (λ z. In z (keys_of pairs)) s h)

  removed_none : (pairs : List (Text × A)) → HasDistinctKeys pairs → attribute_at (without_attribute pairs key) key ≡ None
  removed_none [] d = refl
  removed_none (p ∷ pairs) d = elim (case key p) [
    | its_key s e ↦ ap (λ l. attribute_at l key) (off_front p pairs e) ∙ unlooked pairs (alone p pairs d s)
    | other_key n e ↦ ap (λ l. attribute_at l key) (off_behind p pairs e) ∙ passed key p.0 p.1 (without_attribute pairs key) e ∙ removed_none pairs d.1
  ]

  removed_others : (pairs : List (Text × A)) (other : Text) → other ≢ key → attribute_at (without_attribute pairs key) other ≡ attribute_at pairs other
  removed_others [] other n = refl
  removed_others (p ∷ pairs) other n = elim (case key p) [
    | its_key s e ↦ ap (λ l. attribute_at l other) (off_front p pairs e) ∙ sym (passed other p.0 p.1 pairs (differs bytes_eq bytes_eq-Decides other p.0 (λ h. n (h ∙ sym s))))
    | other_key m e ↦ ap (λ l. attribute_at l other) (off_behind p pairs e) ∙ ap (λ r. cond (bytes_eq other p.0) (Some p.1) r) (removed_others pairs other n)
  ]

  removed_order : (pairs : List (Text × A)) → HasDistinctKeys pairs → without_attribute pairs key ≡ filter (λ (p : Text × A). not (bytes_eq key p.0)) pairs
  removed_order [] d = refl
  removed_order (p ∷ pairs) d = elim (case key p) [
    | its_key s e ↦ off_front p pairs e ∙ sym (unfiltered pairs (alone p pairs d s)) ∙ sym (step e)
    | other_key n e ↦ off_behind p pairs e ∙ ap (λ l. p ∷ l) (removed_order pairs d.1) ∙ sym (step e)
  ]
    where
      step : {t : Bool} → bytes_eq key p.0 ≡ t → filter (λ (q : Text × A). not (bytes_eq key q.0)) (p ∷ pairs)
          ≡ cond (not t) (p ∷ filter (λ (q : Text × A). not (bytes_eq key q.0)) pairs) (filter (λ (q : Text × A). not (bytes_eq key q.0)) pairs)
      step e = ap (λ t. cond (not t) (p ∷ filter (λ (q : Text × A). not (bytes_eq key q.0)) pairs) (filter (λ (q : Text × A). not (bytes_eq key q.0)) pairs)) e

  in_removed : (pairs : List (Text × A)) (x : Text) → In x (keys_of (without_attribute pairs key)) → In x (keys_of pairs)
  in_removed [] x h = h
  in_removed (p ∷ pairs) x h = elim (case key p) [
    | its_key s e ↦ inr (subst (In x) (ap keys_of (off_front p pairs e)) h)
    | other_key n e ↦ elim (subst (In x) (ap keys_of (off_behind p pairs e)) h) [ inl s ↦ inl s | inr k ↦ inr (in_removed pairs x k) ]
  ]

  removed_distinct : (pairs : List (Text × A)) → HasDistinctKeys pairs → HasDistinctKeys (without_attribute pairs key)
  removed_distinct [] d = d
  removed_distinct (p ∷ pairs) d = elim (case key p) [
    | its_key s e ↦ subst Distinct (sym (ap keys_of (off_front p pairs e))) d.1
    | other_key n e ↦ subst Distinct (sym (ap keys_of (off_behind p pairs e))) (
      Absent-not_in p.0 (keys_of (without_attribute pairs key)) (λ h. not_in-Absent p.0 (keys_of pairs) d.0 (in_removed pairs p.0 h)),
      removed_distinct pairs d.1,
    )
  ]

pub dictionaries_keep_order : (A : Type 0) → DictionariesKeepOrder A
dictionaries_keep_order A = record {
  set = λ pairs key a. record {
    set = set_there key pairs a;
    others = set_others key pairs a;
    keeps_place = keeps_place key pairs a;
    goes_last = goes_last key pairs a;
    distinct = set_distinct key pairs a;
  };
  removed = λ pairs key d. record {
    none = removed_none key pairs d;
    others = removed_others key pairs;
    order = removed_order key pairs d;
    distinct = removed_distinct key pairs d;
  };
}

-- each item at its first place: the items of the list, each once
module _ {X : Type 0} (same : X → X → Bool) (tells : Tells same) where
  in_first : (x : X) (xs : List X) → In x (first_places same xs) → In x xs
  in_first x [] h = h
  in_first x (y ∷ xs) (inl e) = inl e
  in_first x (y ∷ xs) (inr h) = inr (in_first x xs (In-filter (λ z. not (same y z)) x (first_places same xs) h).0)

  first_in : (x : X) (xs : List X) → In x xs → In x (first_places same xs)
  first_in x [] h = h
  first_in x (y ∷ xs) (inl e) = inl e
  first_in x (y ∷ xs) (inr h) = by (same y x) refl (first_in x xs h)
    where
      by : (t : Bool) → same y x ≡ t → In x (first_places same xs) → In x (y ∷ filter (λ z. not (same y z)) (first_places same xs))
      by true e k = inl (sym ((tells y x).0 e))
      by false e k = inr (In-kept (λ z. not (same y z)) x (first_places same xs) k (ap not e))

  first_once : (xs : List X) → Distinct (first_places same xs)
  first_once [] = tt
  first_once (y ∷ xs) = (
    Absent-not_in y (filter (λ z. not (same y z)) (first_places same xs)) (λ h. (let k = (In-filter (λ z. not (same y z)) y (first_places same xs) h).1 in let e : same y y ≡ true = same_refl same tells y in let n : not (same y y) ≡ false = ap not e in cc)),
    Distinct-filter (λ z. not (same y z)) (first_places same xs) (first_once xs),
  )

in_flat : {A B : Type 0} (g : A → List B) (x : B) (xs : List A) → In x (flat_map g xs) → (a : A) × In a xs × In x (g a)
in_flat g x [] h = elim h [ ]
in_flat g x (a ∷ xs) h = elim (In-append x (g a) (flat_map g xs) h) [ inl k ↦ (a, inl refl, k) | inr k ↦ (let more = in_flat g x xs k in (more.0, inr more.1, more.2)) ]

flat_in : {A B : Type 0} (g : A → List B) (x : B) (xs : List A) (a : A) → In a xs → In x (g a) → In x (flat_map g xs)
flat_in g x [] a h k = elim h [ ]
flat_in g x (b ∷ xs) a (inl e) k = In-left x (g b) (flat_map g xs) (subst (λ z. In x (g z)) e k)
flat_in g x (b ∷ xs) a (inr h) k = In-right x (g b) (flat_map g xs) (flat_in g x xs a h k)

module _ (entries : List (ℕ × List ℕ)) where
  owners_are : (os : List ℕ) → keys_of (map (λ owner. (owner, first_places nat_eq (joined entries owner))) os) ≡ os
  owners_are [] = refl
  owners_are (o ∷ os) = ap (λ l. o ∷ l) (owners_are os)

  in_joined : (owner x : ℕ) → In x (joined entries owner) ↔ ((e : ℕ × List ℕ) × In e entries × (e.0 ≡ owner) × In x e.1)
  in_joined owner x = (
    λ h. let at = in_flat (λ (e : ℕ × List ℕ). e.1) x (filter (λ e. nat_eq e.0 owner) entries) h in
        let k = In-filter (λ (e : ℕ × List ℕ). nat_eq e.0 owner) at.0 entries at.1 in
        (at.0, k.0, (lawful.numbers at.0.0 owner).0 k.1, at.2),
    λ h. flat_in (λ (e : ℕ × List ℕ). e.1) x (filter (λ e. nat_eq e.0 owner) entries) h.0 (In-kept (λ (e : ℕ × List ℕ). nat_eq e.0 owner) h.0 entries h.1 ((lawful.numbers h.0.0 owner).1 h.2)) h.3,
  )

pub owners_stay_apart : OwnersStayApart
owners_stay_apart entries = record {
  once = subst Distinct (sym (owners_are entries (first_places nat_eq (keys_of entries)))) (first_once nat_eq lawful.numbers (keys_of entries));
  owners = λ owner. (
    λ h. in_first nat_eq lawful.numbers owner (keys_of entries) (subst (In owner) (owners_are entries (first_places nat_eq (keys_of entries))) h),
    λ h. subst (In owner) (sym (owners_are entries (first_places nat_eq (keys_of entries)))) (first_in nat_eq lawful.numbers owner (keys_of entries) h),
  );
  verifiers = λ owner list h.
      let at = In-map_back (λ o. (o, first_places nat_eq (joined entries o))) (owner, list) (first_places nat_eq (keys_of entries)) h in
      let o : owner ≡ at.0 = ap (λ (p : ℕ × List ℕ). p.0) at.2 in
      let l : list ≡ first_places nat_eq (joined entries owner) = ap (λ (p : ℕ × List ℕ). p.1) at.2 ∙ ap (λ z. first_places nat_eq (joined entries z)) (sym o) in (
        subst Distinct (sym l) (first_once nat_eq lawful.numbers (joined entries owner)),
        λ x. (
          λ i. (in_joined entries owner x).0 (in_first nat_eq lawful.numbers x (joined entries owner) (subst (In x) l i)),
          λ e. subst (In x) (sym l) (first_in nat_eq lawful.numbers x (joined entries owner) ((in_joined entries owner x).1 e)),
        ),
      );
}
