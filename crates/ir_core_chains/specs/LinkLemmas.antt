-- How the links change at each edit of one list, whatever is named.
use Rattle.std.proofs.Common.{◌≡◌, ◌⊎◌, ℕ, suc, ◌+◌, ◌-◌, ◌<◌, ◌≤◌, List, [], ◌∷◌, ◌++◌, length, set, Option, Some, slice_get, refl, sym, ap, ◌∙◌, inl, inr, arith}
use Rattle.std.specs.List.{swap_remove, remove}
use Rattle.std.proofs.lemmas.Bool.{cases_eq, cases_lt, cases_order}
use Rattle.std.proofs.lemmas.Option.{slice_get_within, same_Some}
use Rattle.ir_model.specs.declared.ids.ArenaIndex.{ArenaIndex}
use Rattle.ir_model.proofs.IdCases.{id_cases}
use Rattle.ir_core_records.specs.declared.record.UseIndex.{UseIndex}
use Rattle.ir_core_records.specs.declared.record.UsePlace.{UsePlace}
use Rattle.ir_core_records.specs.Links.{LinkedBut, NoHole, HoleAt}
use Rattle.ir_core_chains.specs.Besides.{LinkedBesides}
use Rattle.ir_core_chains.specs.ListReads.{swap_remove-at, swap_remove-other, swap_remove-within, slice_get-remove_below, slice_get-remove_from, slice_get-push_at, slice_get-push_before, slice_get-push_cases, slice_get-set_same, slice_get-set_other}

module _ {N : Type 0} where
  -- the operands are as before, but the one at place `last` of this value is at place `k` now
  pub record Relabelled (v : N) (last k : ℕ) (os os' : ArenaIndex → List (UsePlace N)) : Type 0 where
    pub came : (o : ArenaIndex) (i : ℕ) (b : UsePlace N) → slice_get (os' o) i ≡ Some b → (c : UsePlace N) × (slice_get (os o) i ≡ Some c) × (c.number ≡ b.number)
    pub moves : (o : ArenaIndex) (i : ℕ) (b : UsePlace N) → slice_get (os o) i ≡ Some b → b.names ≡ v → b.place ≡ last → slice_get (os' o) i ≡ Some (record b { place = k })
    pub stays : (o : ArenaIndex) (i : ℕ) (b : UsePlace N) → slice_get (os o) i ≡ Some b → ¬ ((b.names ≡ v) × (b.place ≡ last)) → slice_get (os' o) i ≡ Some b

  -- one use list is other than before
  pub record UsesChange (v : N) (xs : List UseIndex) (us us' : N → List UseIndex) : Type 0 where
    pub here : us' v ≡ xs
    pub others : (w : N) → ¬ (w ≡ v) → us' w ≡ us w

  -- one operand list is other than before
  pub record OperandsChange (o : ArenaIndex) (xs : List (UsePlace N)) (os os' : ArenaIndex → List (UsePlace N)) : Type 0 where
    pub here : os' o ≡ xs
    pub others : (p : ArenaIndex) → ¬ (p ≡ o) → os' p ≡ os p

module _ {N : Type 0} (tell : (v w : N) → (v ≡ w) ⊎ (¬ (v ≡ w))) where
  placed_cases : (v w : N) (k l : ℕ) → ((v ≡ w) × (k ≡ l)) ⊎ (¬ ((v ≡ w) × (k ≡ l)))
  placed_cases v w k l =
      elim (tell v w) [
        | inl e ↦ elim (cases_eq k l) [ inl f ↦ inl (e, f) | inr f ↦ inr (λ t. f t.1) ]
        | inr e ↦ inr (λ t. e t.0)
      ]

  pub operand_cases : (o p : ArenaIndex) (i j : ℕ) → ((o ≡ p) × (i ≡ j)) ⊎ (¬ ((o ≡ p) × (i ≡ j)))
  operand_cases o p i j =
      elim (id_cases o p) [
        | inl e ↦ elim (cases_eq i j) [ inl f ↦ inl (e, f) | inr f ↦ inr (λ t. f t.1) ]
        | inr e ↦ inr (λ t. e t.0)
      ]

  renamed : (xs : List (UsePlace N)) (j number : ℕ) (v v' : N) (k k' : ℕ) → v ≡ v' → k ≡ k' → slice_get xs j ≡ Some (record { number = number; names = v'; place = k' }) → slice_get xs j ≡ Some (record { number = number; names = v; place = k })
  renamed xs j number v v' k k' e g h = h ∙ (λ i. Some (record { number = number; names = sym e i; place = sym g i }))

  pub at_same : (os : ArenaIndex → List (UsePlace N)) (o p : ArenaIndex) (i j : ℕ) → (p ≡ o) × (j ≡ i) → slice_get (os p) j ≡ slice_get (os o) i
  at_same os o p i j t = λ x. slice_get (os (t.0 x)) (t.1 x)

  pub same_operand : (os : ArenaIndex → List (UsePlace N)) (o : ArenaIndex) (i : ℕ) (p : ArenaIndex) (j : ℕ) (a b : UsePlace N) → slice_get (os o) i ≡ Some a → slice_get (os p) j ≡ Some b → (p ≡ o) × (j ≡ i) → b ≡ a
  same_operand os o i p j a b at at' t = same_Some _ _ (sym at' ∙ at_same os o p i j t ∙ at)

  -- two places whose uses stand at one place are one
  placed_once : (os : ArenaIndex → List (UsePlace N)) (us : N → List UseIndex) → ((o p : ArenaIndex) (i j : ℕ) (a b : UsePlace N) → slice_get (os o) i ≡ Some a → slice_get (os p) j ≡ Some b → a.number ≡ b.number → (o ≡ p) × (i ≡ j))
      → (o : ArenaIndex) (i : ℕ) (p : ArenaIndex) (j : ℕ) (a b : UsePlace N) → slice_get (os o) i ≡ Some a → slice_get (os p) j ≡ Some b
      → slice_get (us a.names) a.place ≡ Some (record { user = o; number = a.number }) → slice_get (us b.names) b.place ≡ Some (record { user = p; number = b.number }) → b.names ≡ a.names → b.place ≡ a.place → (p ≡ o) × (j ≡ i)
  placed_once os us distinct o i p j a b at at' x y e g =
      let one : slice_get (us b.names) b.place ≡ slice_get (us a.names) a.place = λ q. slice_get (us (e q)) (g q) in
      let z : ◌≡◌ {A = Option UseIndex} (Some (record { user = p; number = b.number })) (Some (record { user = o; number = a.number })) = sym y ∙ one ∙ x in
      let w : ◌≡◌ {A = UseIndex} (record { user = p; number = b.number }) (record { user = o; number = a.number }) = same_Some _ _ z in
      distinct p o j i b a at' at (ap (λ (u : UseIndex). u.number) w)

  pub one_place : {os : ArenaIndex → List (UsePlace N)} {us : N → List UseIndex} → LinkedBut NoHole os us → (o : ArenaIndex) (i : ℕ) (p : ArenaIndex) (j : ℕ) (a b : UsePlace N)
      → slice_get (os o) i ≡ Some a → slice_get (os p) j ≡ Some b → b.names ≡ a.names → b.place ≡ a.place → (p ≡ o) × (j ≡ i)
  one_place {os} {us} L o i p j a b at at' e g =
      placed_once os us L.distinct o i p j a b at at' (L.forward o i a at (λ (h : ⊥). h)) (L.forward p j b at' (λ (h : ⊥). h)) e g

  module _ (v : N) (k : ℕ) (os os' : ArenaIndex → List (UsePlace N)) (us us' : N → List UseIndex) (x : UseIndex) where
    release-forward : LinkedBesides v k os us → k < length (us v) → UsesChange v (swap_remove (us v) k x) us us' → Relabelled v (length (us v) - 1) k os os'
        → (p : ArenaIndex) (j : ℕ) (b : UsePlace N) → slice_get (os' p) j ≡ Some b → slice_get (us' b.names) b.place ≡ Some (record { user = p; number = b.number })
    release-forward L within U R p j b at' =
        let xs = us v in
        let old = R.came p j b at' in
        let c = old.0 in
        let f : slice_get (us c.names) c.place ≡ Some (record { user = p; number = c.number }) = L.forward p j c old.1 in
        let apart : ¬ ((c.names ≡ v) × (c.place ≡ k)) = L.apart p j c old.1 in
        elim (placed_cases c.names v c.place (length xs - 1)) [
          | inl e ↦
              let b_is : b ≡ record c { place = k } = same_Some _ _ (sym at' ∙ R.moves p j c old.1 e.0 e.1) in
              let more : k + 1 < length xs = omega (arith, λ (q : c.place ≡ k). apart (e.0, q)) in
              let f' : slice_get xs (length xs - 1) ≡ Some (record { user = p; number = c.number }) = (λ q. slice_get (us (sym e.0 q)) (sym e.1 q)) ∙ f in
              (λ q. slice_get (us' (b_is q).names) (b_is q).place)
              ∙ (λ q. slice_get (us' (e.0 q)) k)
              ∙ (λ q. slice_get (U.here q) k)
              ∙ swap_remove-at xs k x more
              ∙ f'
              ∙ (λ q. Some (record { user = p; number = (sym b_is q).number }))
          | inr ne ↦
              let b_is : b ≡ c = same_Some _ _ (sym at' ∙ R.stays p j c old.1 ne) in
              let now : slice_get (us' c.names) c.place ≡ Some (record { user = p; number = c.number }) =
              elim (tell c.names v) [
                | inl e ↦
                    let f' : slice_get xs c.place ≡ Some (record { user = p; number = c.number }) = (λ q. slice_get (us (sym e q)) c.place) ∙ f in
                    let w : c.place < length xs = slice_get_within xs c.place _ f' in
                    let other : c.place ≡ length xs - 1 → ⊥ = λ q. ne (e, q) in
                    (λ q. slice_get (us' (e q)) c.place)
                    ∙ (λ q. slice_get (U.here q) c.place)
                    ∙ swap_remove-other xs k c.place x (omega arith) (λ q. apart (e, q))
                    ∙ f'
                | inr e ↦ (λ q. slice_get (U.others c.names e q) c.place) ∙ f
              ] in
              (λ q. slice_get (us' (b_is q).names) (b_is q).place) ∙ now ∙ (λ q. Some (record { user = p; number = (sym b_is q).number }))
        ]

    release-backward : LinkedBesides v k os us → UsesChange v (swap_remove (us v) k x) us us' → Relabelled v (length (us v) - 1) k os os'
        → (w : N) (l : ℕ) (u : UseIndex) → slice_get (us' w) l ≡ Some u → (j : ℕ) × (slice_get (os' u.user) j ≡ Some (record { number = u.number; names = w; place = l })) × (¬ ⊥)
    release-backward L U R w l u h =
        let xs = us v in
        elim (tell w v) [
          | inl e ↦
              let h' : slice_get (swap_remove xs k x) l ≡ Some u = (λ q. slice_get (sym U.here q) l) ∙ (λ q. slice_get (us' (sym e q)) l) ∙ h in
              let more = swap_remove-within xs k l x u h' in
              elim (cases_eq l k) [
                | inl q ↦
                    let more' : k + 1 < length xs = omega arith in
                    let f : slice_get xs (length xs - 1) ≡ Some u = sym (swap_remove-at xs k x more') ∙ (λ y. slice_get (swap_remove xs k x) (sym q y)) ∙ h' in
                    let was = L.backward v (length xs - 1) u f (λ t. absurd (omega (arith, t.1))) in
                    (was.0, renamed (os' u.user) was.0 u.number w v l k e q (R.moves u.user was.0 _ was.1 refl refl), λ (t : ⊥). t)
                | inr q ↦
                    let f : slice_get xs l ≡ Some u = sym (swap_remove-other xs k l x more q) ∙ h' in
                    let was = L.backward v l u f (λ t. q t.1) in
                    (was.0, renamed (os' u.user) was.0 u.number w v l l e refl (R.stays u.user was.0 _ was.1 (λ t. absurd (omega (arith, t.1)))), λ (t : ⊥). t)
              ]
          | inr e ↦
              let was = L.backward w l u ((λ q. slice_get (sym (U.others w e) q) l) ∙ h) (λ t. e t.0) in
              (was.0, R.stays u.user was.0 _ was.1 (λ t. e t.0), λ (t : ⊥). t)
        ]

    -- the one use is taken out, and the last one moves into its place
    pub release : LinkedBesides v k os us → k < length (us v) → UsesChange v (swap_remove (us v) k x) us us' → Relabelled v (length (us v) - 1) k os os' → LinkedBut NoHole os' us'
    release L within U R = record {
      forward = λ p j b at nh. release-forward L within U R p j b at;
      backward = release-backward L U R;
      distinct = λ p q j l b c atb atc same.
          let old = R.came p j b atb in
          let old' = R.came q l c atc in
          L.distinct p q j l old.0 old'.0 old.1 old'.1 (old.2 ∙ same ∙ sym old'.2);
    }

  module _ (os os' : ArenaIndex → List (UsePlace N)) (us : N → List UseIndex) (o : ArenaIndex) (i : ℕ) where
    -- where an operand stood before the removal
    was_at : OperandsChange o (remove (os o) i) os os' → (p : ArenaIndex) (j : ℕ) (b : UsePlace N) → slice_get (os' p) j ≡ Some b
        → (k : ℕ) × (slice_get (os p) k ≡ Some b) × (¬ (HoleAt o i p k)) × ((p ≡ o) × (j < i) × (k ≡ j) ⊎ ((p ≡ o) × (i ≤ j) × (k ≡ suc j) ⊎ (¬ (p ≡ o)) × (k ≡ j)))
    was_at C p j b at =
        elim (id_cases p o) [
          | inl e ↦
              let at' : slice_get (remove (os o) i) j ≡ Some b = (λ q. slice_get (sym C.here q) j) ∙ (λ q. slice_get (os' (sym e q)) j) ∙ at in
              elim (cases_lt j i) [
                | inl l ↦ (j, (λ q. slice_get (os (e q)) j) ∙ sym (slice_get-remove_below (os o) i j l) ∙ at', (λ t. absurd (omega (arith, t.1))), inl (e, l, refl))
                | inr l ↦ (suc j, (λ q. slice_get (os (e q)) (suc j)) ∙ sym (slice_get-remove_from (os o) i j l) ∙ at', (λ t. absurd (omega (arith, t.1))), inr (inl (e, l, refl)))
              ]
          | inr ne ↦ (j, (λ q. slice_get (sym (C.others p ne) q) j) ∙ at, (λ t. ne t.0), inr (inr (ne, refl)))
        ]

    goes_to : OperandsChange o (remove (os o) i) os os' → (p : ArenaIndex) (k : ℕ) (b : UsePlace N) → slice_get (os p) k ≡ Some b → ¬ (HoleAt o i p k) → (j : ℕ) × (slice_get (os' p) j ≡ Some b)
    goes_to C p k b at nh =
        elim (id_cases p o) [
          | inl e ↦
              let at' : slice_get (os o) k ≡ Some b = (λ q. slice_get (os (sym e q)) k) ∙ at in
              let now : (j : ℕ) → slice_get (os' p) j ≡ slice_get (remove (os o) i) j = λ j. (λ q. slice_get (os' (e q)) j) ∙ (λ q. slice_get (C.here q) j) in
              elim (cases_order k i) [
                | inl q ↦ absurd (nh (e, q))
                | inr r ↦ elim r [
                  | inl l ↦ (k, now k ∙ slice_get-remove_below (os o) i k l ∙ at')
                  | inr l ↦
                      let back : suc (k - 1) ≡ k = omega arith in
                      (k - 1, now (k - 1) ∙ slice_get-remove_from (os o) i (k - 1) (omega arith) ∙ ap (slice_get (os o)) back ∙ at')
                ]
              ]
          | inr ne ↦ (k, (λ q. slice_get (C.others p ne q) k) ∙ at)
        ]

    -- a place is taken out, and its use stands there still
    pub drop_place : (a : UsePlace N) → LinkedBut NoHole os us → slice_get (os o) i ≡ Some a → OperandsChange o (remove (os o) i) os os' → LinkedBesides a.names a.place os' us
    drop_place a L at C = record {
      forward = λ p j b atb. let was = was_at C p j b atb in L.forward p was.0 b was.1 (λ (h : ⊥). h);
      apart = λ p j b atb t. let was = was_at C p j b atb in was.2 (one_place L o i p was.0 a b at was.1 t.0 t.1);
      backward = λ v k u h ne.
          let was = L.backward v k u h in
          let kept : ¬ (HoleAt o i u.user was.0) = λ t. (let same = same_operand os o i u.user was.0 a _ at was.1 t in ne (ap (λ (b : UsePlace N). b.names) same, ap (λ (b : UsePlace N). b.place) same)) in
          let now = goes_to C u.user was.0 _ was.1 kept in
          (now.0, now.1);
      distinct = λ p q j k b c atb atc same.
          let x = was_at C p j b atb in
          let y = was_at C q k c atc in
          let one = L.distinct p q x.0 y.0 b c x.1 y.1 same in
          (one.0, grind (arith, one, x.3, y.3));
    }

  module _ (os : ArenaIndex → List (UsePlace N)) (us us' : N → List UseIndex) (o : ArenaIndex) (i : ℕ) (a : UsePlace N) where
    -- the use of the operand is put at the end of its list
    pub attach : LinkedBut (HoleAt o i) os us → slice_get (os o) i ≡ Some a → a.place ≡ length (us a.names) → UsesChange a.names (us a.names ++ record { user = o; number = a.number } ∷ []) us us' → LinkedBut NoHole os us'
    attach L at end U =
        let mine : UseIndex = record { user = o; number = a.number } in
        record {
          forward = λ p j b atb nh.
              elim (operand_cases p o j i) [
                | inl e ↦
                    let same = same_operand os o i p j a b at atb e in
                    (λ q. slice_get (us' (same q).names) (same q).place)
                    ∙ (λ q. slice_get (U.here q) (end q))
                    ∙ slice_get-push_at (us a.names) mine
                    ∙ (λ q. Some (record { user = sym e.0 q; number = (sym same q).number }))
                | inr ne ↦
                    let f = L.forward p j b atb ne in
                    elim (tell b.names a.names) [
                      | inl e ↦
                          let f' : slice_get (us a.names) b.place ≡ Some (record { user = p; number = b.number }) = (λ q. slice_get (us (sym e q)) b.place) ∙ f in
                          (λ q. slice_get (us' (e q)) b.place)
                          ∙ (λ q. slice_get (U.here q) b.place)
                          ∙ slice_get-push_before (us a.names) mine b.place (slice_get_within (us a.names) b.place _ f')
                          ∙ f'
                      | inr e ↦ (λ q. slice_get (U.others b.names e q) b.place) ∙ f
                    ]
              ];
          backward = λ v k u h.
              elim (tell v a.names) [
                | inl e ↦
                    let h' : slice_get (us a.names ++ mine ∷ []) k ≡ Some u = (λ q. slice_get (sym U.here q) k) ∙ (λ q. slice_get (us' (sym e q)) k) ∙ h in
                    elim (slice_get-push_cases (us a.names) mine k u h') [
                      | inl f ↦ let was = L.backward a.names k u f in (was.0, renamed (os u.user) was.0 u.number v a.names k k e refl was.1, λ (t : ⊥). t)
                      | inr f ↦
                          (i, (λ q. slice_get (os (sym f.1 q).user) i) ∙ at ∙ (λ q. Some (record { number = (f.1 q).number; names = sym e q; place = (end ∙ sym f.0) q })), λ (t : ⊥). t)
                    ]
                | inr e ↦ let was = L.backward v k u ((λ q. slice_get (sym (U.others v e) q) k) ∙ h) in (was.0, was.1, λ (t : ⊥). t)
              ];
          distinct = L.distinct;
        }

  module _ (os os' : ArenaIndex → List (UsePlace N)) (us : N → List UseIndex) (o : ArenaIndex) (a : UsePlace N) where
    grown_at : OperandsChange o (os o ++ a ∷ []) os os' → (p : ArenaIndex) (j : ℕ) (b : UsePlace N) → slice_get (os' p) j ≡ Some b → (slice_get (os p) j ≡ Some b) ⊎ ((p ≡ o) × (j ≡ length (os o)) × (a ≡ b))
    grown_at C p j b at =
        elim (id_cases p o) [
          | inl e ↦
              let at' : slice_get (os o ++ a ∷ []) j ≡ Some b = (λ q. slice_get (sym C.here q) j) ∙ (λ q. slice_get (os' (sym e q)) j) ∙ at in
              elim (slice_get-push_cases (os o) a j b at') [ inl f ↦ inl ((λ q. slice_get (os (e q)) j) ∙ f) | inr f ↦ inr (e, f.0, f.1) ]
          | inr ne ↦ inl ((λ q. slice_get (sym (C.others p ne) q) j) ∙ at)
        ]

    grows : OperandsChange o (os o ++ a ∷ []) os os' → (p : ArenaIndex) (j : ℕ) (b : UsePlace N) → slice_get (os p) j ≡ Some b → (slice_get (os' p) j ≡ Some b) × (¬ (HoleAt o (length (os o)) p j))
    grows C p j b at =
        elim (id_cases p o) [
          | inl e ↦
              let at' : slice_get (os o) j ≡ Some b = (λ q. slice_get (os (sym e q)) j) ∙ at in
              let within = slice_get_within (os o) j b at' in
              ((λ q. slice_get (os' (e q)) j) ∙ (λ q. slice_get (C.here q) j) ∙ slice_get-push_before (os o) a j within ∙ at', λ t. absurd (omega (arith, t.1)))
          | inr ne ↦ ((λ q. slice_get (C.others p ne q) j) ∙ at, λ t. ne t.0)
        ]

    -- an operand with a new number is put at the end, with no use yet
    pub grow : LinkedBut NoHole os us → OperandsChange o (os o ++ a ∷ []) os os' → ((p : ArenaIndex) (j : ℕ) (b : UsePlace N) → slice_get (os p) j ≡ Some b → ¬ (b.number ≡ a.number)) → LinkedBut (HoleAt o (length (os o))) os' us
    grow L C fresh = record {
      forward = λ p j b at nh.
          elim (grown_at C p j b at) [
            | inl f ↦ L.forward p j b f (λ (t : ⊥). t)
            | inr f ↦ absurd (nh (f.0, f.1))
          ];
      backward = λ v k u h.
          let was = L.backward v k u h in
          let now = grows C u.user was.0 _ was.1 in
          (was.0, now.0, now.1);
      distinct = λ p q j k b c atb atc same.
          elim (grown_at C p j b atb) [
            | inl f ↦ elim (grown_at C q k c atc) [
              | inl g ↦ L.distinct p q j k b c f g same
              | inr g ↦ absurd (fresh p j b f (same ∙ ap (λ (x : UsePlace N). x.number) (sym g.2)))
            ]
            | inr f ↦ elim (grown_at C q k c atc) [
              | inl g ↦ absurd (fresh q k c g (sym same ∙ ap (λ (x : UsePlace N). x.number) (sym f.2)))
              | inr g ↦ (f.0 ∙ sym g.0, f.1 ∙ sym g.1)
            ]
          ];
    }

  -- the place of one operand is written
  pub relabel : {os os' : ArenaIndex → List (UsePlace N)} {us : N → List UseIndex} (v : N) (last k : ℕ) (p : ArenaIndex) (j : ℕ) (m : UsePlace N) → LinkedBesides v k os us → slice_get (os p) j ≡ Some m → m.names ≡ v → m.place ≡ last
      → OperandsChange p (set (os p) j (record m { place = k })) os os' → Relabelled v last k os os'
  relabel {os} {os'} {us} v last k p j m L at ev el C =
      let within = slice_get_within (os p) j m at in
      let here : slice_get (os' p) j ≡ Some (record m { place = k }) = (λ q. slice_get (C.here q) j) ∙ slice_get-set_same (os p) j (record m { place = k }) within in
      let away : (q : ArenaIndex) (i : ℕ) → ¬ ((q ≡ p) × (i ≡ j)) → slice_get (os' q) i ≡ slice_get (os q) i = λ q i ne.
      elim (id_cases q p) [
        | inl e ↦ (λ x. slice_get (os' (e x)) i) ∙ (λ x. slice_get (C.here x) i) ∙ slice_get-set_other (os p) j i (record m { place = k }) (λ f. ne (e, f)) ∙ (λ x. slice_get (os (sym e x)) i)
        | inr f ↦ λ x. slice_get (C.others q f x) i
      ] in
      record {
        came = λ q i b atb.
            elim (operand_cases q p i j) [
              | inl e ↦
                  let same : record m { place = k } ≡ b = same_Some _ _ (sym here ∙ sym (at_same os' p q j i e) ∙ atb) in
                  (m, at_same os p q j i e ∙ at, ap (λ (x : UsePlace N). x.number) same)
              | inr ne ↦ (b, sym (away q i ne) ∙ atb, refl)
            ];
        moves = λ q i b atb eb el'.
            let one = placed_once os us L.distinct p j q i m b at atb (L.forward p j m at) (L.forward q i b atb) (eb ∙ sym ev) (el' ∙ sym el) in
            let same : b ≡ m = same_operand os p j q i m b at atb one in
            at_same os' p q j i one ∙ here ∙ (λ x. Some (record (sym same x) { place = k }));
        stays = λ q i b atb no.
            away q i (λ t. let same : b ≡ m = same_operand os p j q i m b at atb t in no (ap (λ (x : UsePlace N). x.names) same ∙ ev, ap (λ (x : UsePlace N). x.place) same ∙ el)) ∙ atb;
      }

  pub relabel-none : {os : ArenaIndex → List (UsePlace N)} (v : N) (last k : ℕ) → k ≡ last → Relabelled v last k os os
  relabel-none v last k e = record {
    came = λ q i b atb. (b, atb, refl);
    moves = λ q i b atb eb el. atb ∙ (λ x. Some (record b { place = (el ∙ sym e) x }));
    stays = λ q i b atb no. atb;
  }
