-- What follows for verifiers that are grouped by their owners.
use Rattle.std.proofs.Common.{◌≡◌, ℕ, suc, ◌+◌, Bool, true, false, cond, not, ◌||◌, nat_eq, List, [], ◌∷◌, ◌++◌, map, filter, Some, None, slice_get, refl, sym, ap, subst, ◌∙◌, arith, true≢false, is_some, eqb-true, append_assoc, length, take, get_or, ◌<◌, Vec, inl, inr}
use Rattle.std.specs.List.{list_any, flat_map, IsDistinct, AllByRecursion}
use Rattle.std.specs.Map.{keys_of, values_of}
use Rattle.std.proofs.lemmas.Cmp.{nat_eq_equiv}
use Rattle.std.proofs.lemmas.Grind.{flat_map-append}
use Rattle.std.proofs.lemmas.List.{take_more, map-append, append-nil}
use Rattle.std.proofs.lemmas.List.Elements.{filter-append}
use Rattle.std.proofs.lemmas.List.Sums.{fold-append}
use Rattle.std.proofs.lemmas.Option.{get_or_from_slice_get, same_Some, slice_get_within, slice_get_cases}
use Rattle.indexmap.specs.IndexMap.{IndexMap, get, insert_entry, set_value_at}
use Rattle.ir_base_dialects.specs.Stores.{has_key}
use Rattle.ir_model.specs.VerifierLists.{first_places, joined, deduplicated}
use Rattle.ir_base_dialects.specs.VerifierGroups.{with_each, with_owner, with_entry, plain_entry}
use Rattle.ir_base_dialects.proofs.StoreLemmas.{has_key-get, keys_of-push, goes_last}
use Rattle.ir_model.specs.Edits.{place_of, with_key}

-- one more
one_more : (n : ℕ) → 1 + n ≡ suc n
one_more n = omega arith

module _ {S : Type 0} (m : IndexMap ℕ (List ℕ) S) (owner : ℕ) where
  -- an owner that is there stays where it is
  pub owner-there : true ≡ is_some (get nat_eq m owner) → m.entries ≡ with_owner m.entries owner
  owner-there e = sym (ap (λ b. cond b m.entries (m.entries ++ (owner, []) ∷ [])) (has_key-get nat_eq nat_eq_equiv m m.entries owner refl ∙ sym e))

  -- one that isn't there goes last, without verifiers
  pub owner-new : false ≡ is_some (get nat_eq m owner) → (first : List ℕ) → first ≡ [] → (new : List (ℕ × List ℕ)) → new ≡ insert_entry nat_eq m.entries owner first → new ≡ with_owner m.entries owner
  owner-new e first empty new inserted =
      goes_last nat_eq nat_eq_equiv m m.entries owner refl e first new inserted
      ∙ ap (λ l. m.entries ++ (owner, l) ∷ []) empty
      ∙ sym (ap (λ b. cond b m.entries (m.entries ++ (owner, []) ∷ [])) (has_key-get nat_eq nat_eq_equiv m m.entries owner refl ∙ sym e))

-- one step of `owner_within`
within_step : (b has : Bool) (g : ℕ × List ℕ) (gs added : List (ℕ × List ℕ)) (n : ℕ)
    → n < length (cond has gs (gs ++ added)) → cond (not b) (1 + n) 0 < length (cond (b || has) (g ∷ gs) (g ∷ gs ++ added))
within_step true has g gs added n lt = omega arith
within_step false true g gs added n lt = omega (arith, lt)
within_step false false g gs added n lt = omega (arith, lt)

-- the owner's place is within the groups with it
owner_within : (gs : List (ℕ × List ℕ)) (owner : ℕ) → place_of nat_eq (keys_of gs) owner < length (with_owner gs owner)
owner_within [] owner = omega arith
owner_within (g ∷ gs) owner =
    within_step (nat_eq g.0 owner) (has_key nat_eq gs owner) g gs ((owner, []) ∷ []) (place_of nat_eq (keys_of gs) owner) (owner_within gs owner)

-- the same, of groups and a place that are known by equations
pub owner_within_at : (gs : List (ℕ × List ℕ)) (owner : ℕ) {now : List (ℕ × List ℕ)} {place : ℕ} → now ≡ with_owner gs owner → place ≡ place_of nat_eq (keys_of gs) owner → place < length now
owner_within_at gs owner is_now is_place = coe 1 0 (j. is_place j < length (is_now j)) (owner_within gs owner)

-- one step of `written`
written_step : (b has : Bool) (g : ℕ × List ℕ) (gs : List (ℕ × List ℕ)) (owner n : ℕ) (added rest : List (ℕ × List ℕ)) (f : List ℕ → List ℕ)
    → ((l : List ℕ) → slice_get (values_of (cond has gs (gs ++ added))) n ≡ Some l → set_value_at (cond has gs (gs ++ added)) n (f l) ≡ rest)
    → (l : List ℕ) → slice_get (values_of (cond (b || has) (g ∷ gs) (g ∷ gs ++ added))) (cond (not b) (1 + n) 0) ≡ Some l
    → set_value_at (cond (b || has) (g ∷ gs) (g ∷ gs ++ added)) (cond (not b) (1 + n) 0) (f l) ≡ cond b ((g.0, f g.1) ∷ gs) (g ∷ rest)
written_step true has g gs owner n added rest f go l at = ap (λ v. (g.0, f v) ∷ gs) (sym (same_Some _ _ at))
written_step false true g gs owner n added rest f go l at =
    ap (λ k. set_value_at (g ∷ gs) k (f l)) (one_more n) ∙ ap (λ r. g ∷ r) (go l (ap (slice_get (values_of (g ∷ gs))) (sym (one_more n)) ∙ at))
written_step false false g gs owner n added rest f go l at =
    ap (λ k. set_value_at (g ∷ gs ++ added) k (f l)) (one_more n) ∙ ap (λ r. g ∷ r) (go l (ap (slice_get (values_of (g ∷ gs ++ added))) (sym (one_more n)) ∙ at))

-- a write at the owner's place adds to its list
pub written : (gs : List (ℕ × List ℕ)) (owner : ℕ) (verifiers l : List ℕ) → slice_get (values_of (with_owner gs owner)) (place_of nat_eq (keys_of gs) owner) ≡ Some l
    → set_value_at (with_owner gs owner) (place_of nat_eq (keys_of gs) owner) (with_each nat_eq l verifiers) ≡ with_entry gs owner verifiers
written [] owner verifiers l at = ap (λ v. (owner, with_each nat_eq v verifiers) ∷ []) (sym (same_Some _ _ at))
written (g ∷ gs) owner verifiers l at =
    written_step (nat_eq g.0 owner) (has_key nat_eq gs owner) g gs owner (place_of nat_eq (keys_of gs) owner) ((owner, []) ∷ [])
    (with_entry gs owner verifiers) (λ v. with_each nat_eq v verifiers) (λ k e. written gs owner verifiers k e) l at

-- the same, of groups, a place and a list that are known by equations
pub written_at : (gs : List (ℕ × List ℕ)) (owner : ℕ) (verifiers l : List ℕ) (now : List (ℕ × List ℕ)) (place : ℕ) (added : List ℕ)
    → now ≡ with_owner gs owner → place ≡ place_of nat_eq (keys_of gs) owner → Some l ≡ slice_get (values_of now) place → added ≡ with_each nat_eq l verifiers
    → set_value_at now place added ≡ with_entry gs owner verifiers
written_at gs owner verifiers l now place added is_now is_place at is_added =
    (λ j. set_value_at (is_now j) (is_place j) (is_added j)) ∙ written gs owner verifiers l (sym (at ∙ λ j. slice_get (values_of (is_now j)) (is_place j)))

-- one more item is put last
pub with_each-more : (kept items : List ℕ) (i : ℕ) → i < length items
    → with_each nat_eq kept (take (i + 1) items) ≡ with_key nat_eq (with_each nat_eq kept (take i items)) (get_or items i 0)
with_each-more kept items i lt = ap (with_each nat_eq kept) (take_more items i 0 lt) ∙ fold-append (with_key nat_eq) kept (take i items) (get_or items i 0 ∷ [])

-- one more group as a vector
pub plain-more : {Y : Type 0} (groups : List (ℕ × List ℕ)) (i owner : ℕ) (list : List ℕ) (lists new : List (ℕ × Vec ℕ Y)) (v : Vec ℕ Y)
    → map plain_entry lists ≡ take i groups → Some (owner, list) ≡ slice_get groups i → v.items ≡ list → new ≡ lists ++ (owner, v) ∷ [] → map plain_entry new ≡ take (i + 1) groups
plain-more groups i owner list lists new v so_far at same pushed =
    ap (map plain_entry) pushed
    ∙ map-append plain_entry lists ((owner, v) ∷ [])
    ∙ ap (λ l. l ++ (owner, v.items) ∷ []) so_far
    ∙ ap (λ l. take i groups ++ (owner, l) ∷ []) same
    ∙ ap (λ e. take i groups ++ e ∷ []) (sym (get_or_from_slice_get groups i (owner, list) (owner, list) (sym at)))
    ∙ sym (take_more groups i (owner, list) (slice_get_within groups i (owner, list) (sym at)))

-- a place in range has an item
pub none_in_range : {X : Type 0} (xs : List X) (i n : ℕ) → None ≡ slice_get xs i → i < n → n ≡ length xs → ⊥
none_in_range xs i n none lt end =
    elim (slice_get_cases xs i).1 [
      | inl h ↦ true≢false (sym (ap is_some (none ∙ h.2)))
      | inr h ↦ omega (arith, h.0, lt, end)
    ]

-- a filter that drops only items other than y leaves the answer for y
any-filter : (x y : ℕ) → nat_eq x y ≡ false → (xs : List ℕ) → list_any (λ k. nat_eq k y) (filter (λ k. not (nat_eq x k)) xs) ≡ list_any (λ k. nat_eq k y) xs
any-filter x y other [] = refl
any-filter x y other (k ∷ ks) = by (nat_eq x k) refl (any-filter x y other ks)
  where
    by : (b : Bool) → nat_eq x k ≡ b → list_any (λ k. nat_eq k y) (filter (λ k. not (nat_eq x k)) ks) ≡ list_any (λ k. nat_eq k y) ks
        → list_any (λ k. nat_eq k y) (filter (λ k. not (nat_eq x k)) (k ∷ ks)) ≡ list_any (λ k. nat_eq k y) (k ∷ ks)
    by true same rest =
        ap (λ b. list_any (λ k. nat_eq k y) (cond (not b) (k ∷ filter (λ k. not (nat_eq x k)) ks) (filter (λ k. not (nat_eq x k)) ks))) same
        ∙ rest
        ∙ sym (ap (λ b. b || list_any (λ k. nat_eq k y) ks) (sym (ap (λ n. nat_eq n y) (eqb-true x k same)) ∙ other))
    by false differ rest =
        ap (λ b. list_any (λ k. nat_eq k y) (cond (not b) (k ∷ filter (λ k. not (nat_eq x k)) ks) (filter (λ k. not (nat_eq x k)) ks))) differ
        ∙ ap (λ r. nat_eq k y || r) rest

-- one item more, under a filter
filter-push : (x y : ℕ) (b : Bool) → nat_eq x y ≡ b → (xs : List ℕ)
    → filter (λ k. not (nat_eq x k)) (xs ++ y ∷ []) ≡ filter (λ k. not (nat_eq x k)) xs ++ cond (not b) (y ∷ []) []
filter-push x y b e xs = filter-append (λ k. not (nat_eq x k)) xs (y ∷ []) ∙ ap (λ c. filter (λ k. not (nat_eq x k)) xs ++ cond (not c) (y ∷ []) []) e

-- one step of `first_places-push`
push_step : (same there : Bool) (x y : ℕ) (xs : List ℕ) → nat_eq x y ≡ same → list_any (λ k. nat_eq k y) xs ≡ there
    → x ∷ filter (λ k. not (nat_eq x k)) (with_key nat_eq xs y) ≡ with_key nat_eq (x ∷ filter (λ k. not (nat_eq x k)) xs) y
push_step true there x y xs e h =
    let rest : List ℕ = filter (λ k. not (nat_eq x k)) xs in
    ap (λ l. x ∷ l) (dropped there h) ∙ sym (ap (λ b. cond (b || list_any (λ k. nat_eq k y) rest) (x ∷ rest) (x ∷ rest ++ y ∷ [])) e)
  where
    dropped : (b : Bool) → list_any (λ k. nat_eq k y) xs ≡ b → filter (λ k. not (nat_eq x k)) (with_key nat_eq xs y) ≡ filter (λ k. not (nat_eq x k)) xs
    dropped true q = ap (λ b. filter (λ k. not (nat_eq x k)) (cond b xs (xs ++ y ∷ []))) q
    dropped false q = ap (λ b. filter (λ k. not (nat_eq x k)) (cond b xs (xs ++ y ∷ []))) q ∙ filter-push x y true e xs ∙ append-nil _
push_step false there x y xs e h =
    let rest : List ℕ = filter (λ k. not (nat_eq x k)) xs in
    kept there h
    ∙ sym (ap (λ b. cond b (x ∷ rest) (x ∷ rest ++ y ∷ [])) (ap (λ b. b || list_any (λ k. nat_eq k y) rest) e ∙ any-filter x y e xs ∙ h))
  where
    kept : (b : Bool) → list_any (λ k. nat_eq k y) xs ≡ b
        → x ∷ filter (λ k. not (nat_eq x k)) (with_key nat_eq xs y) ≡ cond b (x ∷ filter (λ k. not (nat_eq x k)) xs) (x ∷ filter (λ k. not (nat_eq x k)) xs ++ y ∷ [])
    kept true q = ap (λ b. x ∷ filter (λ k. not (nat_eq x k)) (cond b xs (xs ++ y ∷ []))) q
    kept false q = ap (λ b. x ∷ filter (λ k. not (nat_eq x k)) (cond b xs (xs ++ y ∷ []))) q ∙ ap (λ l. x ∷ l) (filter-push x y false e xs)

-- the last item of a longer list goes last where it is new
pub first_places-push : (xs : List ℕ) (y : ℕ) → first_places nat_eq (xs ++ y ∷ []) ≡ with_key nat_eq (first_places nat_eq xs) y
first_places-push [] y = refl
first_places-push (x ∷ xs) y =
    ap (λ l. x ∷ filter (λ k. not (nat_eq x k)) l) (first_places-push xs y)
    ∙ push_step (nat_eq x y) (list_any (λ k. nat_eq k y) (first_places nat_eq xs)) x y (first_places nat_eq xs) refl refl

-- the items of a second list are added to those of the first
pub first_places-append : (xs ys : List ℕ) → first_places nat_eq (xs ++ ys) ≡ with_each nat_eq (first_places nat_eq xs) ys
first_places-append xs [] = ap (first_places nat_eq) (append-nil xs)
first_places-append xs (y ∷ ys) =
    ap (first_places nat_eq) (sym (append_assoc xs (y ∷ []) ys))
    ∙ first_places-append (xs ++ y ∷ []) ys
    ∙ ap (λ l. with_each nat_eq l ys) (first_places-push xs y)

-- what holds of each item holds of each that a filter keeps
all-filter : (P : ℕ → Type 0) (p : ℕ → Bool) (xs : List ℕ) → AllByRecursion P xs → AllByRecursion P (filter p xs)
all-filter P p [] h = tt
all-filter P p (x ∷ xs) h = by (p x) (all-filter P p xs h.1)
  where
    by : (b : Bool) → AllByRecursion P (filter p xs) → AllByRecursion P (cond b (x ∷ filter p xs) (filter p xs))
    by true rest = (h.0, rest)
    by false rest = rest

-- the kept items of a list without doubles
distinct-filter : (p : ℕ → Bool) (xs : List ℕ) → IsDistinct nat_eq xs → IsDistinct nat_eq (filter p xs)
unfolding IsDistinct
distinct-filter p [] d = tt
distinct-filter p (x ∷ xs) d = distinct_step p x xs (p x) d.0 (distinct-filter p xs d.1)
  where
    distinct_step : (q : ℕ → Bool) (y : ℕ) (ys : List ℕ) (b : Bool) → AllByRecursion (λ k. nat_eq y k ≡ false) ys → IsDistinct nat_eq (filter q ys) → IsDistinct nat_eq (cond b (y ∷ filter q ys) (filter q ys))
    distinct_step q y ys true all rest = (all-filter (λ k. nat_eq y k ≡ false) q ys all, rest)
    distinct_step q y ys false all rest = rest

-- what a filter for other items keeps differs
kept_differ : (x : ℕ) (xs : List ℕ) → AllByRecursion (λ k. nat_eq x k ≡ false) (filter (λ k. not (nat_eq x k)) xs)
kept_differ x [] = tt
kept_differ x (y ∷ ys) = by (nat_eq x y) refl (kept_differ x ys)
  where
    by : (b : Bool) → nat_eq x y ≡ b → AllByRecursion (λ k. nat_eq x k ≡ false) (filter (λ k. not (nat_eq x k)) ys)
        → AllByRecursion (λ k. nat_eq x k ≡ false) (cond (not b) (y ∷ filter (λ k. not (nat_eq x k)) ys) (filter (λ k. not (nat_eq x k)) ys))
    by true e rest = rest
    by false e rest = (e, rest)

-- each item at its first place: no item stands twice
pub first_places-distinct : (xs : List ℕ) → IsDistinct nat_eq (first_places nat_eq xs)
unfolding IsDistinct
first_places-distinct [] = tt
first_places-distinct (x ∷ xs) = (kept_differ x (first_places nat_eq xs), distinct-filter (λ k. not (nat_eq x k)) (first_places nat_eq xs) (first_places-distinct xs))

-- an item that stands at no first place stands nowhere
nowhere : (xs : List ℕ) (y : ℕ) → list_any (λ k. nat_eq k y) (first_places nat_eq xs) ≡ false → list_any (λ k. nat_eq k y) xs ≡ false
nowhere [] y e = refl
nowhere (x ∷ xs) y e = by (nat_eq x y) refl (nowhere xs y)
  where
    by : (b : Bool) → nat_eq x y ≡ b → (list_any (λ k. nat_eq k y) (first_places nat_eq xs) ≡ false → list_any (λ k. nat_eq k y) xs ≡ false) → list_any (λ k. nat_eq k y) (x ∷ xs) ≡ false
    by true q rest = absurd (true≢false (sym (ap (λ b. b || list_any (λ k. nat_eq k y) (filter (λ k. not (nat_eq x k)) (first_places nat_eq xs))) q) ∙ e))
    by false q rest =
        ap (λ b. b || list_any (λ k. nat_eq k y) xs) q
        ∙ rest (sym (any-filter x y q (first_places nat_eq xs)) ∙ sym (ap (λ b. b || list_any (λ k. nat_eq k y) (filter (λ k. not (nat_eq x k)) (first_places nat_eq xs))) q) ∙ e)

-- an owner without entries has no verifiers
no_entries : (es : List (ℕ × List ℕ)) (owner : ℕ) → list_any (λ k. nat_eq k owner) (keys_of es) ≡ false → joined es owner ≡ []
no_entries [] owner none = refl
no_entries (e ∷ es) owner none = by (nat_eq e.0 owner) refl (no_entries es owner)
  where
    by : (b : Bool) → nat_eq e.0 owner ≡ b → (list_any (λ k. nat_eq k owner) (keys_of es) ≡ false → joined es owner ≡ []) → joined (e ∷ es) owner ≡ []
    by true q rest = absurd (true≢false (sym (ap (λ b. b || list_any (λ k. nat_eq k owner) (keys_of es)) q) ∙ none))
    by false q rest =
        ap (λ b. flat_map (λ f. f.1) (cond b (e ∷ filter (λ f. nat_eq f.0 owner) es) (filter (λ f. nat_eq f.0 owner) es))) q
        ∙ rest (sym (ap (λ b. b || list_any (λ k. nat_eq k owner) (keys_of es)) q) ∙ none)

-- what one more entry adds to the lists
joined-push : (es : List (ℕ × List ℕ)) (owner o : ℕ) (verifiers : List ℕ) → joined (es ++ (owner, verifiers) ∷ []) o ≡ joined es o ++ cond (nat_eq owner o) verifiers []
joined-push es owner o verifiers =
    ap (flat_map (λ (f : ℕ × List ℕ). f.1)) (filter-append (λ (f : ℕ × List ℕ). nat_eq f.0 o) es ((owner, verifiers) ∷ []))
    ∙ flat_map-append (λ (f : ℕ × List ℕ). f.1) (filter (λ (f : ℕ × List ℕ). nat_eq f.0 o) es) (cond (nat_eq owner o) ((owner, verifiers) ∷ []) [])
    ∙ ap (λ l. joined es o ++ l) (by (nat_eq owner o))
  where
    by : (b : Bool) → flat_map (λ (f : ℕ × List ℕ). f.1) (cond b ((owner, verifiers) ∷ []) []) ≡ cond b verifiers []
    by true = append-nil verifiers
    by false = refl

-- a first item, whichever the rest
cons-cond : {X : Type 0} (b : Bool) (x : X) (xs ys : List X) → cond b (x ∷ xs) (x ∷ ys) ≡ x ∷ cond b xs ys
cons-cond true x xs ys = refl
cons-cond false x xs ys = refl

-- each owner with its list
abbrev paired : (ℕ → List ℕ) → List ℕ → List (ℕ × List ℕ)
paired f os = map (λ o. (o, f o)) os

-- where all other owners' lists stay
map-others : (owner : ℕ) (old new : ℕ → List ℕ) → ((o : ℕ) → nat_eq owner o ≡ false → new o ≡ old o)
    → (os : List ℕ) → AllByRecursion (λ o. nat_eq owner o ≡ false) os → paired old os ≡ paired new os
map-others owner old new others [] h = refl
map-others owner old new others (o ∷ os) h = ap (λ l. (o, l) ∷ paired old os) (sym (others o h.0)) ∙ ap (λ l. (o, new o) ∷ l) (map-others owner old new others os h.1)

-- adding to one owner's list, where the lists are a function of the owner
with_entry-map : (os : List ℕ) (owner : ℕ) (verifiers : List ℕ) (old new : ℕ → List ℕ) → IsDistinct nat_eq os
    → (list_any (λ k. nat_eq k owner) os ≡ false → old owner ≡ [])
    → ((o : ℕ) → nat_eq owner o ≡ false → new o ≡ old o) → new owner ≡ with_each nat_eq (old owner) verifiers
    → with_entry (paired old os) owner verifiers ≡ paired new (with_key nat_eq os owner)
unfolding IsDistinct
with_entry-map [] owner verifiers old new d absent others own =
    ap (λ l. (owner, l) ∷ []) (ap (λ l. with_each nat_eq l verifiers) (sym (absent refl)) ∙ sym own)
with_entry-map (q ∷ os) owner verifiers old new d absent others own =
    entry_step (nat_eq q owner) refl d.0 (λ n. with_entry-map os owner verifiers old new d.1 (λ k. absent (ap (λ b. b || list_any (λ o. nat_eq o owner) os) n ∙ k)) others own)
  where
    entry_step : (b : Bool) → nat_eq q owner ≡ b → AllByRecursion (λ k. nat_eq q k ≡ false) os
        → (nat_eq q owner ≡ false → with_entry (paired old os) owner verifiers ≡ paired new (with_key nat_eq os owner))
        → with_entry (paired old (q ∷ os)) owner verifiers ≡ paired new (with_key nat_eq (q ∷ os) owner)
    entry_step true e all rest =
        ap (λ b. cond b ((q, with_each nat_eq (old q) verifiers) ∷ paired old os) ((q, old q) ∷ with_entry (paired old os) owner verifiers)) e
        ∙ ap (λ l. (q, l) ∷ paired old os) (sym (subst (λ k. new k ≡ with_each nat_eq (old k) verifiers) (sym (eqb-true q owner e)) own))
        ∙ ap (λ l. (q, new q) ∷ l) (map-others q old new (subst (λ k. (o : ℕ) → nat_eq k o ≡ false → new o ≡ old o) (sym (eqb-true q owner e)) others) os all)
        ∙ sym (ap (λ b. paired new (cond (b || list_any (λ k. nat_eq k owner) os) (q ∷ os) (q ∷ os ++ owner ∷ []))) e)
    entry_step false e all rest =
        ap (λ b. cond b ((q, with_each nat_eq (old q) verifiers) ∷ paired old os) ((q, old q) ∷ with_entry (paired old os) owner verifiers)) e
        ∙ ap (λ l. (q, l) ∷ with_entry (paired old os) owner verifiers) (sym (others q (nat_eq_equiv.symm owner q ∙ e)))
        ∙ ap (λ l. (q, new q) ∷ l) (rest e)
        ∙ sym (ap (paired new) (ap (λ b. cond (b || list_any (λ k. nat_eq k owner) os) (q ∷ os) (q ∷ os ++ owner ∷ [])) e ∙ cons-cond (list_any (λ k. nat_eq k owner) os) q os (os ++ owner ∷ [])))

-- one more entry, deduplicated
pub deduplicated-push : (es : List (ℕ × List ℕ)) (owner : ℕ) (verifiers : List ℕ) → with_entry (deduplicated es) owner verifiers ≡ deduplicated (es ++ (owner, verifiers) ∷ [])
deduplicated-push es owner verifiers =
    let new : ℕ → List ℕ = λ o. first_places nat_eq (joined (es ++ (owner, verifiers) ∷ []) o) in
    with_entry-map (first_places nat_eq (keys_of es)) owner verifiers (λ o. first_places nat_eq (joined es o)) new
    (first_places-distinct (keys_of es))
    (λ n. ap (first_places nat_eq) (no_entries es owner (nowhere (keys_of es) owner n)))
    (λ o q. ap (first_places nat_eq) (joined-push es owner o verifiers ∙ ap (λ b. joined es o ++ cond b verifiers []) q ∙ append-nil (joined es o)))
    (ap (first_places nat_eq) (joined-push es owner owner verifiers ∙ ap (λ b. joined es owner ++ cond b verifiers []) (nat_eq_equiv.refl owner))
    ∙ first_places-append (joined es owner) verifiers)
    ∙ sym (ap (paired new) (ap (first_places nat_eq) (keys_of-push es (owner, verifiers)) ∙ first_places-push (keys_of es) owner))

-- the same, of one entry more of those handed in
pub deduplicated-more : {Y : Type 0} (es : List (ℕ × Vec ℕ Y)) (i : ℕ) (e : ℕ × Vec ℕ Y) (groups new : List (ℕ × List ℕ)) → i < length es → e ≡ get_or es i e
    → groups ≡ deduplicated (map plain_entry (take i es)) → new ≡ with_entry groups e.0 e.1.items → new ≡ deduplicated (map plain_entry (take (i + 1) es))
deduplicated-more es i e groups new lt item so_far added =
    added
    ∙ ap (λ g. with_entry g e.0 e.1.items) so_far
    ∙ deduplicated-push (map plain_entry (take i es)) e.0 e.1.items
    ∙ ap deduplicated (sym (map-append plain_entry (take i es) (e ∷ [])))
    ∙ ap (λ f. deduplicated (map plain_entry (take i es ++ f ∷ []))) item
    ∙ ap (λ l. deduplicated (map plain_entry l)) (sym (take_more es i e lt))
