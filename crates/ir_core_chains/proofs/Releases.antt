-- What the removal of a place, its replacement and its insertion at an index do to the links of a chain, whatever is named and wherever the lists lie.
use Rattle.std.proofs.Common.{◌≡◌, ℕ, ◌-◌, ◌<◌, ◌≤◌, ◌==◌, List, [], ◌∷◌, ◌++◌, length, set, Some, None, slice_get, true, false, refl, sym, ap, subst, ◌∙◌, arith, inl, inr}
use Rattle.std.proofs.lemmas.Bool.{cases_eq, eq-eqb, ne_eqb}
use Rattle.std.proofs.lemmas.Option.{slice_get_within}
use Rattle.std.specs.List.{swap_remove, insert, remove}
use Rattle.ir_model.proofs.IdCases.{id_cases}
use Rattle.ir_model.specs.declared.ids.ArenaIndex.{ArenaIndex}
use Rattle.ir_core_records.specs.declared.record.UseIndex.{UseIndex}
use Rattle.ir_core_records.specs.declared.record.UsePlace.{UsePlace}
use Rattle.ir_core_records.specs.Lists.{put_place, HaveDistinctUses}
use Rattle.ir_core_records.specs.Links.{LinkedBut, NoHole, IsFreshUse, IsPlaced}
use Rattle.ir_core_records.specs.Chains.{number_and_name, names_in}
use Rattle.ir_core_records.specs.Mapped.{map-insert, map-remove, slice_get-insert_at}
use Rattle.ir_core_records.specs.Numbered.{put_place-set}
use Rattle.ir_core_records.specs.Distinct.{distinct_by_place}
use Rattle.ir_core_chains.specs.Besides.{LinkedBesides}
use Rattle.ir_core_chains.specs.Chain.{IsUseChain}
use Rattle.ir_core_chains.specs.ListReads.{moved_from_last, length-swap_remove, swap_remove-within, none_past}
use Rattle.ir_core_chains.specs.LinkLemmas.{OperandsChange, UsesChange, release, relabel, relabel-none, drop_place, attach}
use Rattle.ir_core_chains.proofs.InsertLemmas.{set-insert, insert_place, swap_place, use_stays}
use Rattle.ir_core_chains.specs.ChainEdits.{place_named, place_within, place_use, with_use}

put_place-names : {N : Type 0} (xs : List (UsePlace N)) (n k : ℕ) → names_in (put_place xs n k) ≡ names_in xs
put_place-names [] n k = refl
put_place-names (x ∷ xs) n k =
    elim (cases_eq x.number n) [
      | inl q ↦ let hit : x.number == n ≡ true = eq-eqb x.number n q in rw hit refl
      | inr q ↦ let miss : x.number == n ≡ false = ne_eqb x.number n q in rw miss (ap (λ ms. number_and_name x ∷ ms) (put_place-names xs n k))
    ]

names-set : {N : Type 0} (xs : List (UsePlace N)) (i : ℕ) (a : UsePlace N) → i < length xs → names_in (set xs i a) ≡ insert (remove (names_in xs) i) i (number_and_name a)
names-set xs i a within = ap names_in (set-insert xs i a within) ∙ map-insert number_and_name (remove xs i) i a ∙ ap (λ ns. insert ns i (number_and_name a)) (map-remove number_and_name xs i)

module _ {S N : Type 0} {Live : S → ArenaIndex → Type 0} {ps : S → ArenaIndex → List (UsePlace N)} {put_ps : S → ArenaIndex → List (UsePlace N) → S} {Has : S → N → Type 0} {us : S → N → List UseIndex} {put_us : S → N → List UseIndex → S} (C : IsUseChain Live ps put_ps Has us put_us) where
  abbrev Linked : S → Type 0
  Linked t = LinkedBut NoHole (ps t) (us t)

  abbrev Besides : S → N → ℕ → Type 0
  Besides t v k = LinkedBesides v k (ps t) (us t)

  -- a use that no place stands for was taken out of its list
  module _ (t s : S) (v : N) (k : ℕ) (x : UseIndex) (links : Besides t v k) (has : Has t v) (within : k < length (us t v)) (taken : s ≡ put_us t v (swap_remove (us t v) k x)) where
    places_same : ps s ≡ ps t
    places_same = ap ps taken ∙ C.places_stay t v (swap_remove (us t v) k x)

    same_at : (p : ArenaIndex) → ps s p ≡ ps t p
    same_at p = ap (λ (os : ArenaIndex → List (UsePlace N)). os p) places_same

    uses_change : UsesChange v (swap_remove (us t v) k x) (us t) (us s)
    uses_change = record {
      here = ap (λ (r : S). us r v) taken ∙ C.use_lists.here t v (swap_remove (us t v) k x) has;
      others = λ w ne. ap (λ (r : S). us r w) taken ∙ C.use_lists.others t v (swap_remove (us t v) k x) has w ne;
    }

    -- where nothing stands at its index now, it was the last
    pub taken_last : slice_get (swap_remove (us t v) k x) k ≡ None → Linked s
    taken_last none =
        let size = length-swap_remove (us t v) k x in
        let past = none_past (swap_remove (us t v) k x) k none in
        let last : k ≡ length (us t v) - 1 = omega (arith, within, size, past) in
        let M = release C.tell v k (ps t) (ps t) (us t) (us s) x links within uses_change (relabel-none C.tell {os = ps t} v (length (us t v) - 1) k last) in
        subst (λ (os : ArenaIndex → List (UsePlace N)). LinkedBut NoHole os (us s)) (sym places_same) M

    pub taken_names : (p : ArenaIndex) → names_in (ps s p) ≡ names_in (ps t p)
    taken_names p = ap names_in (same_at p)

    -- the numbers of an operation's places are distinct
    pub taken_distinct : (p : ArenaIndex) → HaveDistinctUses (ps s p)
    taken_distinct p = subst HaveDistinctUses (sym (same_at p)) (distinct_by_place (λ (b : UsePlace N). b.number) (ps t p) (λ j l b c at_b at_c e. (links.distinct p p j l b c at_b at_c e).1))

    -- where a use stands there now, it was the last one, and its place is given that index
    module _ (u : UseIndex) (h : slice_get (swap_remove (us t v) k x) k ≡ Some u) where
      was_last : slice_get (us t v) (length (us t v) - 1) ≡ Some u
      was_last = moved_from_last (us t v) k x u h

      last_place : (j : ℕ) × (slice_get (ps t u.user) j ≡ Some (record { number = u.number; names = v; place = length (us t v) - 1 }))
      last_place =
          let more = swap_remove-within (us t v) k k x u h in
          links.backward v (length (us t v) - 1) u was_last (λ e. absurd (omega (arith, e.1, more)))

      pub taken_place : IsPlaced (ps s) u
      taken_place =
          subst (λ (os : ArenaIndex → List (UsePlace N)). IsPlaced os u) (sym places_same)
          (last_place.0, record { number = u.number; names = v; place = length (us t v) - 1 }, last_place.1, refl)

      pub taken_user : Live s u.user
      taken_user = C.place_lists.has s u.user taken_place.0 taken_place.1 taken_place.2

      module _ (r : S) (placed : r ≡ put_ps s u.user (put_place (ps s u.user) u.number k)) where
        pub placed_links : Linked r
        placed_links =
            let m = last_place in
            let m_is : UsePlace N = record { number = u.number; names = v; place = length (us t v) - 1 } in
            let written : put_place (ps s u.user) u.number k ≡ set (ps t u.user) m.0 (record m_is { place = k }) =
            ap (λ (xs : List (UsePlace N)). put_place xs u.number k) (same_at u.user)
            ∙ put_place-set (ps t u.user) u.number k m.0 m_is m.1 refl (λ j b atb e. (links.distinct u.user u.user j m.0 b m_is atb m.1 e).1) in
            let G : OperandsChange u.user (set (ps t u.user) m.0 (record m_is { place = k })) (ps t) (ps r) = record {
              here = ap (λ (q : S). ps q u.user) placed ∙ C.place_lists.here s u.user (put_place (ps s u.user) u.number k) taken_user ∙ written;
              others = λ p ne. ap (λ (q : S). ps q p) placed ∙ C.place_lists.others s u.user (put_place (ps s u.user) u.number k) taken_user p ne ∙ same_at p;
            } in
            let R = relabel C.tell {os = ps t} {os' = ps r} {us = us t} v (length (us t v) - 1) k u.user m.0 m_is links m.1 refl refl G in
            let stay : us r ≡ us s = ap us placed ∙ C.uses_stay s u.user (put_place (ps s u.user) u.number k) in
            let U : UsesChange v (swap_remove (us t v) k x) (us t) (us r) = subst (λ (ws : N → List UseIndex). UsesChange v (swap_remove (us t v) k x) (us t) ws) (sym stay) uses_change in
            release C.tell v k (ps t) (ps r) (us t) (us r) x links within U R

        pub placed_names : (p : ArenaIndex) → names_in (ps r p) ≡ names_in (ps t p)
        placed_names p =
            let xs = put_place (ps s u.user) u.number k in
            let at_p : names_in (ps (put_ps s u.user xs) p) ≡ names_in (ps s p) = elim (id_cases p u.user) [
              | inl e ↦ ap (λ (j : ArenaIndex). names_in (ps (put_ps s u.user xs) j)) e ∙ ap names_in (C.place_lists.here s u.user xs taken_user) ∙ put_place-names (ps s u.user) u.number k ∙ ap (λ (j : ArenaIndex). names_in (ps s j)) (sym e)
              | inr ne ↦ ap names_in (C.place_lists.others s u.user xs taken_user p ne)
            ] in
            ap (λ (q : S). names_in (ps q p)) placed ∙ at_p ∙ taken_names p

  -- a place was taken out, and its use stands there still
  module _ (t r : S) (o : ArenaIndex) (i : ℕ) (a : UsePlace N) (links : Linked t) (live : Live t o) (at : slice_get (ps t o) i ≡ Some a) (gone : r ≡ put_ps t o (remove (ps t o) i)) where
    uses_same : us r ≡ us t
    uses_same = ap us gone ∙ C.uses_stay t o (remove (ps t o) i)

    pub removed_links : Besides r a.names a.place
    removed_links =
        let G : OperandsChange o (remove (ps t o) i) (ps t) (ps r) = record {
          here = ap (λ (q : S). ps q o) gone ∙ C.place_lists.here t o (remove (ps t o) i) live;
          others = λ p ne. ap (λ (q : S). ps q p) gone ∙ C.place_lists.others t o (remove (ps t o) i) live p ne;
        } in
        subst (λ (ws : N → List UseIndex). LinkedBesides a.names a.place (ps r) ws) (sym uses_same) (drop_place C.tell (ps t) (ps r) (us t) o i a links at G)

    pub removed_has : Has r a.names
    removed_has = subst (λ (q : S). Has q a.names) (sym gone) (C.has_stays t o (remove (ps t o) i) a.names (place_named C t o i a links at))

    pub removed_within : a.place < length (us r a.names)
    removed_within = subst (λ (ws : N → List UseIndex). a.place < length (ws a.names)) (sym uses_same) (place_within C t o i a links at)

    pub removed_names : names_in (ps r o) ≡ remove (names_in (ps t o)) i
    removed_names = ap (λ (q : S). names_in (ps q o)) gone ∙ ap names_in (C.place_lists.here t o (remove (ps t o) i) live) ∙ map-remove number_and_name (ps t o) i

    pub removed_others : (p : ArenaIndex) → ¬ (p ≡ o) → names_in (ps r p) ≡ names_in (ps t p)
    removed_others p ne = ap (λ (q : S). names_in (ps q p)) gone ∙ ap names_in (C.place_lists.others t o (remove (ps t o) i) live p ne)

  -- a use was put at the end: places are as they were, and each use stands where it stood
  module _ (t s : S) (o : ArenaIndex) (b : UsePlace N) (live : Live t o) (has : Has t b.names) (used : s ≡ with_use C t o b) where
    abbrev mine : UseIndex
    mine = record { user = o; number = b.number }

    used_places : ps s ≡ ps t
    used_places = ap ps used ∙ C.places_stay t b.names (us t b.names ++ mine ∷ [])

    pub used_live : Live s o
    used_live = subst (λ (q : S). Live q o) (sym used) (C.live_stays t b.names (us t b.names ++ mine ∷ []) o live)

    pub used_count : length (ps s o) ≡ length (ps t o)
    used_count = ap (λ (os : ArenaIndex → List (UsePlace N)). length (os o)) used_places

    used_uses : UsesChange b.names (us t b.names ++ mine ∷ []) (us t) (us s)
    used_uses = record {
      here = ap (λ (q : S). us q b.names) used ∙ C.use_lists.here t b.names (us t b.names ++ mine ∷ []) has;
      others = λ w ne. ap (λ (q : S). us q w) used ∙ C.use_lists.others t b.names (us t b.names ++ mine ∷ []) has w ne;
    }

    -- then the places of the user were written
    module _ (r : S) (xs ys : List (UsePlace N)) (put : r ≡ put_ps s o xs) (is : xs ≡ ys) where
      put_places : OperandsChange o ys (ps t) (ps r)
      put_places = record {
        here = ap (λ (q : S). ps q o) put ∙ C.place_lists.here s o xs used_live ∙ is;
        others = λ p ne. ap (λ (q : S). ps q p) put ∙ C.place_lists.others s o xs used_live p ne ∙ ap (λ (os : ArenaIndex → List (UsePlace N)). os p) used_places;
      }

      put_uses : UsesChange b.names (us t b.names ++ mine ∷ []) (us t) (us r)
      put_uses = subst (λ (ws : N → List UseIndex). UsesChange b.names (us t b.names ++ mine ∷ []) (us t) ws) (sym (ap us put ∙ C.uses_stay s o xs)) used_uses

      put_live : Live r o
      put_live = subst (λ (q : S). Live q o) (sym put) (C.place_lists.keeps s o xs o used_live)

    -- a place was put in at an index
    module _ (r : S) (i : ℕ) (within : i ≤ length (ps t o)) (put : r ≡ put_ps s o (insert (ps s o) i b)) where
      inserted_places : OperandsChange o (insert (ps t o) i b) (ps t) (ps r)
      inserted_places = put_places r (insert (ps s o) i b) (insert (ps t o) i b) put (ap (λ (os : ArenaIndex → List (UsePlace N)). insert (os o) i b) used_places)

      pub inserted_live : Live r o
      inserted_live = put_live r (insert (ps s o) i b) (insert (ps s o) i b) put refl

      pub inserted_links : Linked t → IsFreshUse (ps t) b.number → b.place ≡ length (us t b.names) → Linked r
      inserted_links links fresh end =
          let M = insert_place C.tell (ps t) (ps r) (us t) o i b within links inserted_places fresh in
          let here : slice_get (ps r o) i ≡ Some b = ap (λ (xs : List (UsePlace N)). slice_get xs i) inserted_places.here ∙ slice_get-insert_at (ps t o) i b within in
          attach C.tell (ps r) (us t) (us r) o i b M here end (put_uses r (insert (ps s o) i b) (insert (ps s o) i b) put refl)

      pub inserted_names : names_in (ps r o) ≡ insert (names_in (ps t o)) i (number_and_name b)
      inserted_names = ap names_in inserted_places.here ∙ map-insert number_and_name (ps t o) i b

      pub inserted_others : (p : ArenaIndex) → ¬ (p ≡ o) → names_in (ps r p) ≡ names_in (ps t p)
      inserted_others p ne = ap names_in (inserted_places.others p ne)

    -- a place was put where another one stood
    module _ (r : S) (i : ℕ) (a : UsePlace N) (links : Linked t) (at_s : slice_get (ps s o) i ≡ Some a) (put : r ≡ put_ps s o (set (ps s o) i b)) where
      at_t : slice_get (ps t o) i ≡ Some a
      at_t = ap (λ (os : ArenaIndex → List (UsePlace N)). slice_get (os o) i) (sym used_places) ∙ at_s

      swapped_places : OperandsChange o (set (ps t o) i b) (ps t) (ps r)
      swapped_places = put_places r (set (ps s o) i b) (set (ps t o) i b) put (ap (λ (os : ArenaIndex → List (UsePlace N)). set (os o) i b) used_places)

      swapped_uses : UsesChange b.names (us t b.names ++ mine ∷ []) (us t) (us r)
      swapped_uses = put_uses r (set (ps s o) i b) (set (ps s o) i b) put refl

      pub swapped_live : Live r o
      swapped_live = put_live r (set (ps s o) i b) (set (ps s o) i b) put refl

      pub swapped_links : IsFreshUse (ps t) b.number → b.place ≡ length (us t b.names) → Besides r a.names a.place
      swapped_links fresh end = swap_place C.tell (ps t) (ps r) (us t) (us r) o i a b links at_t fresh end swapped_uses swapped_places

      pub swapped_has : Has r a.names
      swapped_has =
          subst (λ (q : S). Has q a.names) (sym put)
          (C.has_stays s o (set (ps s o) i b) a.names
          (subst (λ (q : S). Has q a.names) (sym used) (C.use_lists.keeps t b.names (us t b.names ++ mine ∷ []) a.names (place_named C t o i a links at_t))))

      pub swapped_within : a.place < length (us r a.names)
      swapped_within =
          let u : UseIndex = record { user = o; number = a.number } in
          slice_get_within (us r a.names) a.place u (use_stays C.tell (us t) (us r) b.names mine swapped_uses a.names a.place u (place_use C t o i a links at_t))

      pub swapped_names : names_in (ps r o) ≡ insert (remove (names_in (ps t o)) i) i (number_and_name b)
      swapped_names = ap names_in swapped_places.here ∙ names-set (ps t o) i b (slice_get_within (ps t o) i a at_t)

      pub swapped_others : (p : ArenaIndex) → ¬ (p ≡ o) → names_in (ps r p) ≡ names_in (ps t p)
      swapped_others p ne = ap names_in (swapped_places.others p ne)
