-- What a caller of the list functions may cite: what a list's nodes are, which changes of the arenas keep the lists, and what the edits leave.
use Rattle.std.proofs.Common.{◌≡◌, ◌⊎◌, ◌↔◌, ℕ, ◌+◌, Bool, cond, List, [], ◌∷◌, ◌++◌, map, Option, Some, None, IsSome, is_some, is_none, nat_lt, ◌&&◌, count_by, refl, sym, ap, ◌∙◌, subst, inl, inr, rules}
use Rattle.std.specs.Option.{option_map}
use Rattle.std.proofs.lemmas.List.Sums.{sum_by-cons}
use Rattle.std.proofs.lemmas.Option.{same_Some}
use Rattle.ir_model.specs.declared.ids.ArenaIndex.{ArenaIndex}
use Rattle.ir_model.specs.Slots.{Slot, is_taken, is_retired, had_version}
use Rattle.ir_base_arenas.specs.Arena.{Arena, get, fill, cut, empty, IsLiveIn, IsNew, is_passed, arena_len, room}
use Rattle.ir_model.specs.Ids.{Distinct}
use Rattle.ir_model.specs.Nesting.{In}
use Rattle.ir_base_arenas.specs.Lists.{seen, Links, Ends, Heap, unlinked, no_ends, ends_of, AreLists, container_in, container_of, IsInList, map_slot, map_records, SameBut, SameIds}
use Rattle.ir_model.proofs.Arenas.{get-empty, get-new, get-fill_new, get-fill_new_other, get-cut, get-cut_other}
use Rattle.ir_model.proofs.IdCases.{id_cases}
use Rattle.ir_base_arenas.proofs.ListArena.{slot_at-map}
use Rattle.ir_base_arenas.proofs.ListChains.{head-None, chain-at, chain-same, chain-apart}
use Rattle.ir_base_arenas.proofs.ListRecords.{seen-same, SameBut-get}
use Rattle.ir_base_arenas.proofs.ListPlaces.{in-linked, in-is_linked, In-middle, place}

-- ---- what the lists are

-- a node's container is the one in whose list it stands
pub container-is_in : {h : Heap Links} {r : Heap Ends} {lists : ArenaIndex → List ArenaIndex} → AreLists h r lists → (c x : ArenaIndex) → (container_of h x ≡ Some c) ↔ In x (lists c)
container-is_in {h} {r} {lists} l c x = (λ e. found (h x) refl e, λ i. in-linked l c x i)
  where
    middle : (xs a b : List ArenaIndex) → xs ≡ a ++ x ∷ b → In x xs
    middle xs a b e = subst (λ ys. In x ys) (sym e) (In-middle x a b)

    found : (o : Option Links) → h x ≡ o → container_of h x ≡ Some c → In x (lists c)
    found None e k = absurd (no_container e k)
      where
        no_container : h x ≡ None → container_of h x ≡ Some c → ⊥
        no_container e k = cc
    found (Some m) e k =
        let p = place l x c m e (sym (ap container_in e) ∙ k) in
        middle (lists c) p.before p.after p.splits

pub linked-is_in : {h : Heap Links} {r : Heap Ends} {lists : ArenaIndex → List ArenaIndex} → AreLists h r lists → (x : ArenaIndex) → IsInList h x ↔ ((c : ArenaIndex) × In x (lists c))
linked-is_in {h} {r} {lists} l x = (λ k. of_container (container_of h x) refl k, λ s. in-is_linked l s.0 x s.1)
  where
    of_container : (o : Option ArenaIndex) → container_of h x ≡ o → IsSome (container_of h x) → (c : ArenaIndex) × In x (lists c)
    of_container None e k = absurd (none e k)
      where
        none : container_of h x ≡ None → IsSome (container_of h x) → ⊥
        none e k = absurd (search (rules, subst IsSome e k))
    of_container (Some c) e k = (c, (container-is_in l c x).0 e)

-- no node stands twice in a list
pub list-apart : {h : Heap Links} {r : Heap Ends} {lists : ArenaIndex → List ArenaIndex} → AreLists h r lists → (c : ArenaIndex) → Distinct (lists c)
list-apart {h} {r} {lists} l c = chain-apart h c None (lists c) (l.chains c)

-- ---- changes that keep the lists

-- the lists of empty arenas are empty
pub AreLists-empty : {T C : Type 0} (links : T → Links) (ends : C → Ends) (limit last other_limit other_last : ℕ) → AreLists (seen links (empty limit last)) (seen ends (empty other_limit other_last)) (λ _. [])
AreLists-empty {T} {C} links ends limit last other_limit other_last = record {
  chains = λ c. tt;
  ends = λ c e is. absurd (nothing_at c e is);
  absent = λ c is. refl;
  covers = λ x l is. absurd (nothing_of x l is);
}
  where
    nothing_at : (c : ArenaIndex) (e : Ends) → seen ends (empty other_limit other_last) c ≡ Some e → ⊥
    nothing_at c e is = let none : seen ends (empty other_limit other_last) c ≡ None = ap (option_map ends) (get-empty C other_limit other_last c) in cc

    nothing_of : (x : ArenaIndex) (l : Links) → seen links (empty limit last) x ≡ Some l → ⊥
    nothing_of x l is = let none : seen links (empty limit last) x ≡ None = ap (option_map links) (get-empty T limit last x) in cc

-- a change of the nodes that leaves those in a list, and makes none that is linked
AreLists-nodes : (h h' : Heap Links) (r : Heap Ends) (lists : ArenaIndex → List ArenaIndex) → AreLists h r lists
    → ((c y : ArenaIndex) → In y (lists c) → h' y ≡ h y)
    → ((y : ArenaIndex) (m : Links) → h' y ≡ Some m → (m ≡ unlinked) ⊎ (h' y ≡ h y))
    → AreLists h' r lists
AreLists-nodes h h' r lists l frame made = record {
  chains = λ c. chain-same h h' c None (lists c) None (λ y i. frame c y i) (l.chains c);
  ends = l.ends;
  absent = l.absent;
  covers = λ y m e. elim (made y m e) [ inl u ↦ inl u | inr s ↦ l.covers y m (sym s ∙ e) ];
}

module _ {T : Type 0} (links : T → Links) (nodes : Arena T) (r : Heap Ends) (lists : ArenaIndex → List ArenaIndex) (l : AreLists (seen links nodes) r lists) where
  pub AreLists-fill_new : (id : ArenaIndex) (v : T) → IsNew nodes id → links v ≡ unlinked → AreLists (seen links (fill nodes id v)) r lists
  AreLists-fill_new id v new free =
      AreLists-nodes (seen links nodes) (seen links (fill nodes id v)) r lists l
      (λ c y i. same y (λ e. unused c (subst (λ z. In z (lists c)) (sym e) i)))
      (λ y m e. elim (id_cases id y) [
        | inl here ↦ inl (same_Some _ _ (sym e ∙ sym (ap (seen links (fill nodes id v)) here) ∙ ap (option_map links) (get-fill_new nodes id v new) ∙ ap Some free))
        | inr ne ↦ inr (same y ne)
      ])
    where
      same : (y : ArenaIndex) → (id ≡ y → ⊥) → seen links (fill nodes id v) y ≡ seen links nodes y
      same y ne = ap (option_map links) (get-fill_new_other nodes id y v new (λ e. ne (sym e)))

      unused : (c : ArenaIndex) → In id (lists c) → ⊥
      unused c i =
          let s = chain-at (seen links nodes) c None (lists c) None id (l.chains c) i in
          let none : seen links nodes id ≡ None = ap (option_map links) (get-new nodes id new) in
          let bad : None ≡ Some s.0 = sym none ∙ s.1 in
          cc

  pub AreLists-cut_node : (id : ArenaIndex) → IsLiveIn nodes id → (IsInList (seen links nodes) id → ⊥) → AreLists (seen links (cut nodes id)) r lists
  AreLists-cut_node id live free =
      AreLists-nodes (seen links nodes) (seen links (cut nodes id)) r lists l
      (λ c y i. same y (λ e. free (in-is_linked l c id (subst (λ z. In z (lists c)) (sym e) i))))
      (λ y m e. elim (id_cases id y) [
        | inl here ↦ absurd (gone y m here e)
        | inr ne ↦ inr (same y ne)
      ])
    where
      same : (y : ArenaIndex) → (id ≡ y → ⊥) → seen links (cut nodes id) y ≡ seen links nodes y
      same y ne = ap (option_map links) (get-cut_other nodes id y live (λ e. ne (sym e)))

      gone : (y : ArenaIndex) (m : Links) → id ≡ y → seen links (cut nodes id) y ≡ Some m → ⊥
      gone y m here e =
          let none : seen links (cut nodes id) y ≡ None = sym (ap (seen links (cut nodes id)) here) ∙ ap (option_map links) (get-cut nodes id live) in
          let bad : None ≡ Some m = sym none ∙ e in
          cc

  pub AreLists-write_node : (id : ArenaIndex) (x v : T) → get nodes id ≡ Some x → links v ≡ links x → AreLists (seen links (fill nodes id v)) r lists
  AreLists-write_node id x v found same = subst (λ h. AreLists h r lists) (sym (seen-same links nodes id x v found same)) l

module _ {C : Type 0} (ends : C → Ends) (h : Heap Links) (containers : Arena C) (lists : ArenaIndex → List ArenaIndex) (l : AreLists h (seen ends containers) lists) where
  pub AreLists-fill_container : (id : ArenaIndex) (v : C) → IsNew containers id → ends v ≡ no_ends → AreLists h (seen ends (fill containers id v)) lists
  AreLists-fill_container id v new free = record {
    chains = l.chains;
    ends = λ c e is. elim (id_cases id c) [
      | inl here ↦ same_Some _ _ (sym is ∙ sym (ap (seen ends (fill containers id v)) here) ∙ ap (option_map ends) (get-fill_new containers id v new) ∙ ap Some (free ∙ ap ends_of (sym (ap lists (sym here) ∙ none))))
      | inr ne ↦ l.ends c e (sym (same c ne) ∙ is)
    ];
    absent = λ c is. elim (id_cases id c) [
      | inl here ↦ ap lists (sym here) ∙ none
      | inr ne ↦ l.absent c (sym (same c ne) ∙ is)
    ];
    covers = l.covers;
  }
    where
      none : lists id ≡ []
      none = l.absent id (ap (option_map ends) (get-new containers id new))

      same : (c : ArenaIndex) → (id ≡ c → ⊥) → seen ends (fill containers id v) c ≡ seen ends containers c
      same c ne = ap (option_map ends) (get-fill_new_other containers id c v new (λ e. ne (sym e)))

  pub AreLists-cut_container : (id : ArenaIndex) → IsLiveIn containers id → lists id ≡ [] → AreLists h (seen ends (cut containers id)) lists
  AreLists-cut_container id live none = record {
    chains = l.chains;
    ends = λ c e is. elim (id_cases id c) [
      | inl here ↦ absurd (gone c e here is)
      | inr ne ↦ l.ends c e (sym (same c ne) ∙ is)
    ];
    absent = λ c is. elim (id_cases id c) [
      | inl here ↦ ap lists (sym here) ∙ none
      | inr ne ↦ l.absent c (sym (same c ne) ∙ is)
    ];
    covers = l.covers;
  }
    where
      same : (c : ArenaIndex) → (id ≡ c → ⊥) → seen ends (cut containers id) c ≡ seen ends containers c
      same c ne = ap (option_map ends) (get-cut_other containers id c live (λ e. ne (sym e)))

      gone : (c : ArenaIndex) (e : Ends) → id ≡ c → seen ends (cut containers id) c ≡ Some e → ⊥
      gone c e here is =
          let none : seen ends (cut containers id) c ≡ None = sym (ap (seen ends (cut containers id)) here) ∙ ap (option_map ends) (get-cut containers id live) in
          let bad : None ≡ Some e = sym none ∙ is in
          cc

  pub AreLists-write_container : (id : ArenaIndex) (x v : C) → get containers id ≡ Some x → ends v ≡ ends x → AreLists h (seen ends (fill containers id v)) lists
  AreLists-write_container id x v found same = subst (λ r. AreLists h r lists) (sym (seen-same ends containers id x v found same)) l

-- a container with no first node has an empty list
pub list-empty : {h : Heap Links} {r : Heap Ends} {lists : ArenaIndex → List ArenaIndex} → AreLists h r lists → (c : ArenaIndex) (e : Ends) → r c ≡ Some e → e.head ≡ None → lists c ≡ []
list-empty {h} {r} {lists} l c e is none = head-None (lists c) (sym none ∙ ap (λ (e : Ends). e.head) (l.ends c e is))

-- ---- what an edit leaves

-- a field that an edit does not write
pub SameBut-read : {T A : Type 0} (clear : T → T) (read : T → A) (old new : Arena T) → ((x : T) → read (clear x) ≡ read x) → SameBut clear old new → (id : ArenaIndex) → seen read new id ≡ seen read old id
SameBut-read {T} {A} clear read old new same kept id =
    sym (read_cleared (get new id)) ∙ ap (option_map read) (SameBut-get clear old new kept id) ∙ read_cleared (get old id)
  where
    read_cleared : (o : Option T) → option_map read (option_map clear o) ≡ option_map read o
    read_cleared None = refl
    read_cleared (Some x) = ap Some (same x)

module _ {T : Type 0} (clear : T → T) where
  some-map : (o : Option T) → is_some (option_map clear o) ≡ is_some o
  some-map None = refl
  some-map (Some x) = refl

  none-map : (o : Option T) → is_none (option_map clear o) ≡ is_none o
  none-map None = refl
  none-map (Some x) = refl

  count-map : (p : Slot T → Bool) → ((s : Slot T) → p (map_slot clear s) ≡ p s) → (slots : List (Slot T)) → count_by p (map (map_slot clear) slots) ≡ count_by p slots
  count-map p same [] = refl
  count-map p same (s ∷ rest) =
      sum_by-cons (λ s. cond (p s) 1 0) (map_slot clear s) (map (map_slot clear) rest)
      ∙ ap (λ b. cond b 1 0 + count_by p (map (map_slot clear) rest)) (same s)
      ∙ ap (λ n. cond (p s) 1 0 + n) (count-map p same rest)
      ∙ sym (sum_by-cons (λ s. cond (p s) 1 0) s rest)

  taken-map : (slots : List (Slot T)) → count_by is_taken (map (map_slot clear) slots) ≡ count_by is_taken slots
  taken-map slots = count-map is_taken (λ s. some-map s.item) slots

  retired-map : (last : ℕ) (slots : List (Slot T)) → count_by (is_retired last) (map (map_slot clear) slots) ≡ count_by (is_retired last) slots
  retired-map last slots = count-map (is_retired last) (λ s. ap (λ b. b && nat_lt last (s.version + 2)) (none-map s.item)) slots

  room-map : (a : Arena T) → room (map_records clear a) ≡ room a
  room-map a = rw (taken-map a.slots, retired-map a.last_version a.slots)

  passed-map : (a : Arena T) (id : ArenaIndex) → is_passed (map_records clear a) id ≡ is_passed a id
  passed-map a id = ap (λ (s : Slot T). had_version s.version id.version) (slot_at-map clear a.slots id.slot)

  -- an edit hands out no id and frees none
  pub SameIds-from : (old new : Arena T) → SameBut clear old new → SameIds old new
  SameIds-from old new same = record {
    live = λ id. (live_of (get old id) (get new id) (SameBut-get clear old new same id), live_of (get new id) (get old id) (sym (SameBut-get clear old new same id)));
    passed = λ id. sym (passed-map new id) ∙ ap (λ (a : Arena T). is_passed a id) same ∙ passed-map old id;
    room = sym (room-map new) ∙ ap room same ∙ room-map old;
    len = sym (taken-map new.slots) ∙ ap arena_len same ∙ taken-map old.slots;
    limit = ap (λ (a : Arena T). a.limit) same;
    last_version = ap (λ (a : Arena T). a.last_version) same;
    removals = ap (λ (a : Arena T). a.removals) same;
  }
    where
      live_of : (o p : Option T) → option_map clear p ≡ option_map clear o → IsSome p → IsSome o
      live_of None None e live = live
      live_of None (Some x) e live = cc
      live_of (Some y) p e live = search rules
