-- What it does to a chain that one use goes to another definition.
use Rattle.std.proofs.Common.{◌≡◌, ℕ, ◌+◌, ◌-◌, ◌<◌, List, [], ◌∷◌, ◌++◌, length, map, Some, None, slice_get, Bool, true, false, cond, refl, sym, ap, subst, ◌∙◌, inl, inr, arith, true≢false}
use Rattle.std.specs.List.{swap_remove}
use Rattle.std.proofs.lemmas.Bool.{cases_eq, eq-eqb, eqb-true}
use Rattle.std.proofs.lemmas.Option.{slice_get_within, same_Some}
use Rattle.ir_model.specs.declared.ids.ArenaIndex.{ArenaIndex}
use Rattle.ir_model.specs.ContextIds.{context_ids, same_id}
use Rattle.ir_model.specs.Uses.{Use}
use Rattle.ir_model.proofs.IdCases.{id_cases, id_same, id_differs}
use Rattle.ir_core_records.specs.declared.record.UseIndex.{UseIndex}
use Rattle.ir_core_records.specs.declared.record.UsePlace.{UsePlace}
use Rattle.ir_core_records.specs.Chains.{number_and_name, names_in}
use Rattle.ir_core_records.specs.Links.{LinkedBut, NoHole, IsPlaced}
use Rattle.ir_core_records.specs.Distinct.{distinct_by_place}
use Rattle.ir_core_records.specs.Lists.{HaveDistinctUses}
use Rattle.ir_core_records.specs.Meaning.{use_of}
use Rattle.ir_core_chains.specs.Chain.{IsUseChain}
use Rattle.ir_core_chains.specs.LinkLemmas.{OperandsChange}
use Rattle.ir_core_chains.specs.ListReads.{slice_get-push_at, slice_get-push_before, slice_get-push_cases, swap_remove-at, swap_remove-other, swap_remove-within, length-swap_remove, moved_from_last, none_past}
use Rattle.ir_core_replacing.specs.Chosen.{same_use}
use Rattle.ir_core_replacing.specs.Renamed.{put_name, IsPlaceOf, Renamed, renamed}
use Rattle.ir_core_replacing.proofs.RenamedLemmas.{sent, sent-here, sent-away, renamed-none, renamed-goes, renamed-more, numbers-stay, still_has, UsesMove, renamed-linked, renamed-names}

-- where the uses of a list go when one is taken out by moving the last into its place
pub record Closes {N : Type 0} (from : N) (xs : List UseIndex) (k : ℕ) (past : UseIndex) (goes : ℕ → N × ℕ) : Type 0 where
  pub to_end : (j : ℕ) (u : UseIndex) → slice_get xs j ≡ Some u → ¬ (j ≡ k) → (slice_get (swap_remove xs k past) (goes j).1 ≡ Some u) × ((goes j).0 ≡ from)
  pub from_end : (j : ℕ) (u : UseIndex) → slice_get (swap_remove xs k past) j ≡ Some u → (i : ℕ) × (slice_get xs i ≡ Some u) × (¬ (i ≡ k)) × (goes i ≡ (from, j))

module _ {N : Type 0} (from : N) (xs : List UseIndex) (k : ℕ) (past : UseIndex) where
  -- as they stood
  abbrev pub where_they_are : ℕ → N × ℕ
  where_they_are p = (from, p)

  -- the last one goes to k
  abbrev pub last_to : ℕ → N × ℕ
  last_to = sent where_they_are (length xs - 1) (from, k)

  pub closes-last : k ≡ length xs - 1 → Closes from xs k past where_they_are
  closes-last e = record {
    to_end = λ j u at ne. (let w = slice_get_within xs j u at in swap_remove-other xs k j past (omega (arith, w, e, ne)) ne ∙ at, refl);
    from_end = λ j u at.
        let w = swap_remove-within xs k j past u at in
        let ne : ¬ (j ≡ k) = λ (q : j ≡ k). absurd (omega (arith, w, e, q)) in
        (j, sym (swap_remove-other xs k j past w ne) ∙ at, ne, refl);
  }

  pub closes-moved : k + 1 < length xs → Closes from xs k past last_to
  closes-moved more = record {
    to_end = λ j u at ne.
        elim (cases_eq j (length xs - 1)) [
          | inl e ↦
              let x = sent-here where_they_are (length xs - 1) (from, k) j e in
              (ap (λ (p : N × ℕ). slice_get (swap_remove xs k past) p.1) x ∙ swap_remove-at xs k past more ∙ ap (slice_get xs) (sym e) ∙ at, ap (λ (p : N × ℕ). p.0) x)
          | inr f ↦
              let x = sent-away where_they_are (length xs - 1) (from, k) j f in
              let w = slice_get_within xs j u at in
              (ap (λ (p : N × ℕ). slice_get (swap_remove xs k past) p.1) x ∙ swap_remove-other xs k j past (omega (arith, w, f)) ne ∙ at, ap (λ (p : N × ℕ). p.0) x)
        ];
    from_end = λ j u at.
        let w = swap_remove-within xs k j past u at in
        elim (cases_eq j k) [
          | inl e ↦ (
            length xs - 1,
            sym (swap_remove-at xs k past more) ∙ ap (slice_get (swap_remove xs k past)) (sym e) ∙ at,
            (λ (q : length xs - 1 ≡ k). absurd (omega (arith, more, q))),
            sent-here where_they_are (length xs - 1) (from, k) (length xs - 1) refl ∙ (λ q. (from, sym e q)),
          )
          | inr ne ↦ (
            j,
            sym (swap_remove-other xs k j past w ne) ∙ at,
            ne,
            sent-away where_they_are (length xs - 1) (from, k) j (λ (q : j ≡ length xs - 1). absurd (omega (arith, w, q))),
          )
        ];
  }

-- one use goes to the end of another list
module _ {N : Type 0} (from to : N) (us us' : N → List UseIndex) (k : ℕ) (u past : UseIndex) (goes : ℕ → N × ℕ) (at : slice_get (us from) k ≡ Some u) (K : Closes from (us from) k past goes)
    (at_from : us' from ≡ swap_remove (us from) k past) (at_to : us' to ≡ us to ++ u ∷ []) (others : (v : N) → ¬ (v ≡ from) → ¬ (v ≡ to) → us' v ≡ us v) where
  one_placed : (j : ℕ) (w : UseIndex) → slice_get (us from) j ≡ Some w → slice_get (us' (sent goes k (to, length (us to)) j).0) (sent goes k (to, length (us to)) j).1 ≡ Some w
  one_placed j w h =
      elim (cases_eq j k) [
        | inl e ↦
            (λ q. let p = sent-here goes k (to, length (us to)) j e q in slice_get (us' p.0) p.1)
            ∙ ap (λ (ws : List UseIndex). slice_get ws (length (us to))) at_to
            ∙ slice_get-push_at (us to) u
            ∙ sym at
            ∙ ap (slice_get (us from)) (sym e)
            ∙ h
        | inr ne ↦
            let stands = K.to_end j w h ne in
            (λ q. let p = sent-away goes k (to, length (us to)) j ne q in slice_get (us' p.0) p.1)
            ∙ (λ q. slice_get (us' (stands.1 q)) (goes j).1)
            ∙ ap (λ (ws : List UseIndex). slice_get ws (goes j).1) at_from
            ∙ stands.0
      ]

  pub one_moves : UsesMove from to (sent goes k (to, length (us to))) us us'
  one_moves = record {
    placed = one_placed;
    own = λ j w h. ap (λ (ws : List UseIndex). slice_get ws j) at_to ∙ slice_get-push_before (us to) u j (slice_get_within (us to) j w h) ∙ h;
    left = λ j w h.
        let x = K.from_end j w (ap (λ (ws : List UseIndex). slice_get ws j) (sym at_from) ∙ h) in
        (x.0, x.1, sent-away goes k (to, length (us to)) x.0 x.2 ∙ x.3);
    got = λ j w h.
        elim (slice_get-push_cases (us to) u j w (ap (λ (ws : List UseIndex). slice_get ws j) (sym at_to) ∙ h)) [
          | inl own ↦ inl own
          | inr e ↦ inr (k, at ∙ ap Some e.1, sent-here goes k (to, length (us to)) k refl ∙ (λ q. (to, sym e.0 q)))
        ];
    others = others;
  }

pub same_use-self : (u w : Use context_ids) → u ≡ w → same_use u w ≡ true
same_use-self u w e =
    ap (λ (v : Use context_ids). same_use u v) (sym e)
    ∙ rw (id_same u.user) (eq-eqb u.number u.number refl)

pub same_use-tells : (u w : Use context_ids) → same_use u w ≡ true → u ≡ w
same_use-tells u w h =
    elim (id_cases u.user w.user) [
      | inl e ↦ elim (cases_eq u.number w.number) [
        | inl f ↦ λ q. record { user = e q; number = f q }
        | inr f ↦ absurd (f (eqb-true u.number w.number (rw (ap (same_id u.user) (sym e) ∙ id_same u.user) at h)))
      ]
      | inr ne ↦ let no : same_id u.user w.user ≡ false = id_differs u.user w.user ne in absurd (cc)
    ]

module _ {S N : Type 0} {Live : S → ArenaIndex → Type 0} {ps : S → ArenaIndex → List (UsePlace N)} {put_ps : S → ArenaIndex → List (UsePlace N) → S} {Has : S → N → Type 0} {us : S → N → List UseIndex} {put_us : S → N → List UseIndex → S} (C : IsUseChain Live ps put_ps Has us put_us) where
  abbrev Linked : S → Type 0
  Linked t = LinkedBut NoHole (ps t) (us t)

  pub places_change : (t : S) (o : ArenaIndex) (xs : List (UsePlace N)) → Live t o → OperandsChange o xs (ps t) (ps (put_ps t o xs))
  places_change t o xs live = record { here = C.place_lists.here t o xs live; others = λ p ne. C.place_lists.others t o xs live p ne }

  pub place_live : (t : S) (u : UseIndex) → IsPlaced (ps t) u → Live t u.user
  place_live t u h = C.place_lists.has t u.user h.0 h.1 h.2

  -- a place is renamed in a state in which places were renamed
  module _ (t : S) (L : Linked t) (from : N) (goes : ℕ → N × ℕ) (s r : S) (R : Renamed from goes (ps t) (ps s)) (k : ℕ) (u : UseIndex) (at : slice_get (us t from) k ≡ Some u) where
    pub use_placed : IsPlaced (ps s) u
    use_placed = still_has from goes (ps t) (ps s) (us t) L R k u at

    pub use_live : Live s u.user
    use_live = place_live s u use_placed

    pub use_numbers : HaveDistinctUses (ps s u.user)
    use_numbers = numbers-stay from goes (ps t) (ps s) (us t) L R u.user

    pub use_renamed : (x : N × ℕ) → r ≡ put_ps s u.user (put_name (ps s u.user) u.number x.0 x.1) → Renamed from (sent goes k x) (ps t) (ps r)
    use_renamed x e =
        let xs = put_name (ps s u.user) u.number x.0 x.1 in
        subst (λ (q : S). Renamed from (sent goes k x) (ps t) (ps q)) (sym e)
        (renamed-more from goes (ps t) (ps s) (us t) L R k u at (ps (put_ps s u.user xs)) x (places_change s u.user xs use_live))

  -- the numbers of places in a linked state
  pub linked_numbers : (t : S) → Linked t → (p : ArenaIndex) → HaveDistinctUses (ps t p)
  linked_numbers t L p = distinct_by_place (λ (b : UsePlace N). b.number) (ps t p) (λ j k b c at_b at_c e. (L.distinct p p j k b c at_b at_c e).1)

  -- a use has one place
  pub one_place_of : (t : S) (u : UseIndex) (a b : UsePlace N) → Linked t → IsPlaceOf (ps t) u a → IsPlaceOf (ps t) u b → a ≡ b
  one_place_of t u a b L x y =
      let same = L.distinct u.user u.user x.0 y.0 a b x.1 y.1 (x.2 ∙ sym y.2) in
      same_Some a b (sym x.1 ∙ ap (slice_get (ps t u.user)) same.1 ∙ y.1)

  -- one use, and its place
  module _ (t : S) (u : UseIndex) (to : N) (i : ℕ) (a : UsePlace N) (L : Linked t) (at : slice_get (ps t u.user) i ≡ Some a) (number : a.number ≡ u.number) where
    pub use_kept : slice_get (us t a.names) a.place ≡ Some u
    use_kept = L.forward u.user i a at (λ (h : ⊥). h) ∙ (λ q. Some (record { user = u.user; number = number q }))

    -- a place with the number of the use is its place
    is-used : (o : ArenaIndex) (j : ℕ) (b : UsePlace N) → slice_get (ps t o) j ≡ Some b → same_use (use_of u) (record { user = o; number = b.number }) ≡ true → b ≡ a
    is-used o j b at_b h =
        let e : use_of u ≡ record { user = o; number = b.number } = same_use-tells (use_of u) (record { user = o; number = b.number }) h in
        let there = L.distinct o u.user j i b a at_b at (sym (ap (λ (w : Use context_ids). w.number) e) ∙ sym number) in
        same_Some b a (sym at_b ∙ (λ p. slice_get (ps t (there.0 p)) (there.1 p)) ∙ at)

    -- the names, where the places went so
    module _ (goes : ℕ → N × ℕ) (here : (goes a.place).0 ≡ to) (away : (p : ℕ) (w : UseIndex) → slice_get (us t a.names) p ≡ Some w → ¬ (p ≡ a.place) → (goes p).0 ≡ a.names) where
      went : (b : Bool) (o : ArenaIndex) (j : ℕ) (c : UsePlace N) → slice_get (ps t o) j ≡ Some c → c.names ≡ a.names → same_use (use_of u) (record { user = o; number = c.number }) ≡ b → cond b (c.number, to) (number_and_name c) ≡ (c.number, (goes c.place).0)
      went true o j c at_c is h =
          let e = is-used o j c at_c h in
          let there : (goes c.place).0 ≡ to = (λ p. (goes (e p).place).0) ∙ here in
          λ p. (c.number, sym there p)
      went false o j c at_c is h =
          let f : slice_get (us t a.names) c.place ≡ Some (record { user = o; number = c.number }) = (λ p. slice_get (us t (sym is p)) c.place) ∙ L.forward o j c at_c (λ (x : ⊥). x) in
          let other : ¬ (c.place ≡ a.place) = λ e.
          let one : ◌≡◌ {A = UseIndex} u (record { user = o; number = c.number }) = same_Some _ _ (sym use_kept ∙ ap (slice_get (us t a.names)) (sym e) ∙ f) in
          let hit : same_use (use_of u) (record { user = o; number = c.number }) ≡ true = same_use-self (use_of u) (record { user = o; number = c.number }) (ap use_of one) in
          true≢false (sym hit ∙ h) in
          let there : c.names ≡ (goes c.place).0 = is ∙ sym (away c.place (record { user = o; number = c.number }) f other) in
          λ p. (c.number, there p)

      stayed : (b : Bool) (o : ArenaIndex) (j : ℕ) (c : UsePlace N) → slice_get (ps t o) j ≡ Some c → ¬ (c.names ≡ a.names) → same_use (use_of u) (record { user = o; number = c.number }) ≡ b → cond b (c.number, to) (number_and_name c) ≡ number_and_name c
      stayed true o j c at_c other h = absurd (other (ap (λ (x : UsePlace N). x.names) (is-used o j c at_c h)))
      stayed false o j c at_c other h = refl

      pub use_named : (z : S) → Renamed a.names goes (ps t) (ps z) → (o : ArenaIndex) → names_in (ps z o) ≡ map (renamed (same_use (use_of u)) to o) (names_in (ps t o))
      use_named z R =
          renamed-names C.tell a.names to goes (ps t) (ps z) R (renamed (same_use (use_of u)) to)
          (λ o j c at_c is. went (same_use (use_of u) (record { user = o; number = c.number })) o j c at_c is refl)
          (λ o j c at_c no. stayed (same_use (use_of u) (record { user = o; number = c.number })) o j c at_c no refl)

    -- where it names what it named, nothing has to change
    pub use_same : a.names ≡ to → (o : ArenaIndex) → names_in (ps t o) ≡ map (renamed (same_use (use_of u)) to o) (names_in (ps t o))
    use_same e = use_named (λ p. (a.names, p)) e (λ p w at_p ne. refl) t (renamed-none a.names (ps t))

    -- it is pushed to the other list, its place is renamed, and it is taken out of its own list
    module _ (s : S) (pushed : s ≡ put_us t to (us t to ++ u ∷ [])) where
      pushed_renamed : Renamed a.names (λ q. (a.names, q)) (ps t) (ps s)
      pushed_renamed = subst (Renamed a.names (λ q. (a.names, q)) (ps t)) (sym (ap ps pushed ∙ C.places_stay t to (us t to ++ u ∷ []))) (renamed-none a.names (ps t))

      pub pushed_has : IsPlaced (ps s) u
      pushed_has = use_placed t L a.names (λ q. (a.names, q)) s s pushed_renamed a.place u use_kept

      pub pushed_live : Live s u.user
      pushed_live = place_live s u pushed_has

      pub pushed_numbers : HaveDistinctUses (ps s u.user)
      pushed_numbers = use_numbers t L a.names (λ q. (a.names, q)) s s pushed_renamed a.place u use_kept

    module _ (s p r : S) (past : UseIndex) (place : ℕ) (ne : ¬ (a.names ≡ to)) (has : Has t to) (end : place ≡ length (us t to))
        (pushed : s ≡ put_us t to (us t to ++ u ∷ [])) (placed : p ≡ put_ps s u.user (put_name (ps s u.user) u.number to place)) where
      abbrev stand : ℕ → N × ℕ
      stand = where_they_are a.names (us t a.names) a.place past

      abbrev one_went : ℕ → N × ℕ
      one_went = sent stand a.place (to, place)

      placed_renamed : Renamed a.names one_went (ps t) (ps p)
      placed_renamed = use_renamed t L a.names stand s p (pushed_renamed s pushed) a.place u use_kept (to, place) placed

      placed_uses : us p ≡ us s
      placed_uses = ap us placed ∙ C.uses_stay s u.user (put_name (ps s u.user) u.number to place)

      from_before : us p a.names ≡ us t a.names
      from_before = ap (λ (ws : N → List UseIndex). ws a.names) placed_uses ∙ ap (λ (q : S). us q a.names) pushed ∙ C.use_lists.others t to (us t to ++ u ∷ []) has a.names ne

      to_before : us p to ≡ us t to ++ u ∷ []
      to_before = ap (λ (ws : N → List UseIndex). ws to) placed_uses ∙ ap (λ (q : S). us q to) pushed ∙ C.use_lists.here t to (us t to ++ u ∷ []) has

      others_before : (v : N) → ¬ (v ≡ to) → us p v ≡ us t v
      others_before v away = ap (λ (ws : N → List UseIndex). ws v) placed_uses ∙ ap (λ (q : S). us q v) pushed ∙ C.use_lists.others t to (us t to ++ u ∷ []) has v away

      pub from_has : Has p a.names
      from_has = C.use_lists.has p a.names a.place u (ap (λ (ws : List UseIndex). slice_get ws a.place) from_before ∙ use_kept)

      pub from_within : a.place < length (us p a.names)
      from_within = slice_get_within (us p a.names) a.place u (ap (λ (ws : List UseIndex). slice_get ws a.place) from_before ∙ use_kept)

      module _ (taken : r ≡ put_us p a.names (swap_remove (us p a.names) a.place past)) where
        taken_renamed : Renamed a.names one_went (ps t) (ps r)
        taken_renamed = subst (Renamed a.names one_went (ps t)) (sym (ap ps taken ∙ C.places_stay p a.names (swap_remove (us p a.names) a.place past))) placed_renamed

        -- the uses, however places were renamed then
        went_uses : (goes : ℕ → N × ℕ) → Closes a.names (us t a.names) a.place past goes → (z : S) → us z ≡ us r → UsesMove a.names to (sent goes a.place (to, length (us t to))) (us t) (us z)
        went_uses goes K z same =
            let uses = λ (v : N). ap (λ (ws : N → List UseIndex). ws v) same in
            one_moves a.names to (us t) (us z) a.place u past goes use_kept K
            (uses a.names
            ∙ ap (λ (q : S). us q a.names) taken
            ∙ C.use_lists.here p a.names (swap_remove (us p a.names) a.place past) from_has
            ∙ ap (λ (ws : List UseIndex). swap_remove ws a.place past) from_before)
            (uses to
            ∙ ap (λ (q : S). us q to) taken
            ∙ C.use_lists.others p a.names (swap_remove (us p a.names) a.place past) from_has to (λ e. ne (sym e))
            ∙ to_before)
            (λ v differs away. uses v
            ∙ ap (λ (q : S). us q v) taken
            ∙ C.use_lists.others p a.names (swap_remove (us p a.names) a.place past) from_has v differs
            ∙ others_before v away)

        went_linked : (goes : ℕ → N × ℕ) → Closes a.names (us t a.names) a.place past goes → (z : S) → us z ≡ us r → Renamed a.names (sent goes a.place (to, length (us t to))) (ps t) (ps z) → Linked z
        went_linked goes K z same R = renamed-linked C.tell a.names to (sent goes a.place (to, length (us t to))) (ps t) (ps z) R (us t) (us z) L (went_uses goes K z same)

        went_names : (goes : ℕ → N × ℕ) → Closes a.names (us t a.names) a.place past goes → (z : S) → Renamed a.names (sent goes a.place (to, length (us t to))) (ps t) (ps z) → (o : ArenaIndex) → names_in (ps z o) ≡ map (renamed (same_use (use_of u)) to o) (names_in (ps t o))
        went_names goes K z R =
            let x : N × ℕ = (to, length (us t to)) in
            use_named (sent goes a.place x) (ap (λ (y : N × ℕ). y.0) (sent-here goes a.place x a.place refl))
            (λ q w at_q away. ap (λ (y : N × ℕ). y.0) (sent-away goes a.place x q away) ∙ (K.to_end q w at_q away).1) z R

        -- it was the last
        module _ (none : slice_get (swap_remove (us p a.names) a.place past) a.place ≡ None) where
          last_closes : Closes a.names (us t a.names) a.place past stand
          last_closes =
              let none' : slice_get (swap_remove (us t a.names) a.place past) a.place ≡ None = ap (λ (ws : List UseIndex). slice_get (swap_remove ws a.place past) a.place) (sym from_before) ∙ none in
              let size = length-swap_remove (us t a.names) a.place past in
              let ended = none_past (swap_remove (us t a.names) a.place past) a.place none' in
              let within = slice_get_within (us t a.names) a.place u use_kept in
              closes-last a.names (us t a.names) a.place past (omega (arith, size, ended, within))

          last_renamed : Renamed a.names (sent stand a.place (to, length (us t to))) (ps t) (ps r)
          last_renamed = subst (λ (k : ℕ). Renamed a.names (sent stand a.place (to, k)) (ps t) (ps r)) end taken_renamed

          pub last_linked : Linked r
          last_linked = went_linked stand last_closes r refl last_renamed

          pub last_names : (o : ArenaIndex) → names_in (ps r o) ≡ map (renamed (same_use (use_of u)) to o) (names_in (ps t o))
          last_names = went_names stand last_closes r last_renamed

        -- another came to its place, which was the last
        module _ (m : UseIndex) (some : slice_get (swap_remove (us p a.names) a.place past) a.place ≡ Some m) where
          abbrev last : ℕ
          last = length (us t a.names) - 1

          came : slice_get (swap_remove (us t a.names) a.place past) a.place ≡ Some m
          came = ap (λ (ws : List UseIndex). slice_get (swap_remove ws a.place past) a.place) (sym from_before) ∙ some

          more : a.place + 1 < length (us t a.names)
          more = swap_remove-within (us t a.names) a.place a.place past m came

          was_last : slice_get (us t a.names) last ≡ Some m
          was_last = moved_from_last (us t a.names) a.place past m came

          pub moved_has : IsPlaced (ps r) m
          moved_has = use_placed t L a.names one_went r r taken_renamed last m was_last

          pub moved_live : Live r m.user
          moved_live = place_live r m moved_has

          pub moved_numbers : HaveDistinctUses (ps r m.user)
          moved_numbers = use_numbers t L a.names one_went r r taken_renamed last m was_last

          module _ (z : S) (e : z ≡ put_ps r m.user (put_name (ps r m.user) m.number a.names a.place)) where
            in_order : (q : ℕ) → sent one_went last (a.names, a.place) q ≡ sent (last_to a.names (us t a.names) a.place past) a.place (to, place) q
            in_order q =
                let apart : ¬ (last ≡ a.place) = λ (h : last ≡ a.place). absurd (omega (arith, more, h)) in
                elim (cases_eq q last) [
                  | inl h ↦
                      let off : ¬ (q ≡ a.place) = λ (f : q ≡ a.place). apart (sym h ∙ f) in
                      sent-here one_went last (a.names, a.place) q h
                      ∙ sym (sent-here stand last (a.names, a.place) q h)
                      ∙ sym (sent-away (last_to a.names (us t a.names) a.place past) a.place (to, place) q off)
                  | inr h ↦ sent-away one_went last (a.names, a.place) q h ∙ elim (cases_eq q a.place) [
                    | inl f ↦ sent-here stand a.place (to, place) q f ∙ sym (sent-here (last_to a.names (us t a.names) a.place past) a.place (to, place) q f)
                    | inr f ↦
                        sent-away stand a.place (to, place) q f
                        ∙ sym (sent-away stand last (a.names, a.place) q h)
                        ∙ sym (sent-away (last_to a.names (us t a.names) a.place past) a.place (to, place) q f)
                  ]
                ]

            moved_renamed : Renamed a.names (sent (last_to a.names (us t a.names) a.place past) a.place (to, length (us t to))) (ps t) (ps z)
            moved_renamed =
                subst (λ (k : ℕ). Renamed a.names (sent (last_to a.names (us t a.names) a.place past) a.place (to, k)) (ps t) (ps z)) end
                (renamed-goes a.names (sent one_went last (a.names, a.place)) (sent (last_to a.names (us t a.names) a.place past) a.place (to, place)) (ps t) (ps z) (us t) L (λ q w at_q. in_order q)
                (use_renamed t L a.names one_went r z taken_renamed last m was_last (a.names, a.place) e))

            moved_closes : Closes a.names (us t a.names) a.place past (last_to a.names (us t a.names) a.place past)
            moved_closes = closes-moved a.names (us t a.names) a.place past more

            pub moved_linked : Linked z
            moved_linked = went_linked (last_to a.names (us t a.names) a.place past) moved_closes z (ap us e ∙ C.uses_stay r m.user (put_name (ps r m.user) m.number a.names a.place)) moved_renamed

            pub moved_names : (o : ArenaIndex) → names_in (ps z o) ≡ map (renamed (same_use (use_of u)) to o) (names_in (ps t o))
            moved_names = went_names (last_to a.names (us t a.names) a.place past) moved_closes z moved_renamed
