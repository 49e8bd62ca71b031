-- How the links change where a place is put in at an index, or put where another one stands, whatever is named.
use Rattle.std.proofs.Common.{◌≡◌, ◌⊎◌, ℕ, zero, suc, ◌-◌, ◌<◌, ◌≤◌, List, [], ◌∷◌, ◌++◌, length, set, Some, slice_get, refl, sym, ap, ◌∙◌, inl, inr, arith}
use Rattle.std.specs.List.{insert, remove}
use Rattle.std.proofs.lemmas.Bool.{cases_lt, cases_order}
use Rattle.std.proofs.lemmas.Option.{slice_get_within, same_Some}
use Rattle.ir_model.specs.declared.ids.ArenaIndex.{ArenaIndex}
use Rattle.ir_model.proofs.IdCases.{id_cases}
use Rattle.ir_core_records.specs.declared.record.UseIndex.{UseIndex}
use Rattle.ir_core_records.specs.declared.record.UsePlace.{UsePlace}
use Rattle.ir_core_records.specs.Links.{LinkedBut, NoHole, HoleAt}
use Rattle.ir_core_records.specs.Mapped.{slice_get-insert_at}
use Rattle.ir_core_chains.specs.Besides.{LinkedBesides}
use Rattle.ir_core_chains.specs.ListReads.{slice_get-push_at, slice_get-push_before, slice_get-push_cases, slice_get-set_same, slice_get-set_other}
use Rattle.ir_core_chains.specs.LinkLemmas.{OperandsChange, UsesChange, operand_cases, same_operand, one_place}

module _ {X : Type 0} where
  slice_get-insert_below : (xs : List X) (i j : ℕ) (y : X) → i ≤ length xs → j < i → slice_get (insert xs i y) j ≡ slice_get xs j
  slice_get-insert_below xs zero j y within h = absurd (omega arith)
  slice_get-insert_below [] (suc i) j y within h = absurd (omega arith)
  slice_get-insert_below (x ∷ xs) (suc i) zero y within h = refl
  slice_get-insert_below (x ∷ xs) (suc i) (suc j) y within h = slice_get-insert_below xs i j y (omega arith) (omega arith)

  slice_get-insert_behind : (xs : List X) (i j : ℕ) (y : X) → i ≤ length xs → i ≤ j → slice_get (insert xs i y) (suc j) ≡ slice_get xs j
  slice_get-insert_behind xs zero j y within h = refl
  slice_get-insert_behind [] (suc i) j y within h = absurd (omega arith)
  slice_get-insert_behind (x ∷ xs) (suc i) zero y within h = absurd (omega arith)
  slice_get-insert_behind (x ∷ xs) (suc i) (suc j) y within h = slice_get-insert_behind xs i j y (omega arith) (omega arith)

  -- what is put where another one stands is put in once that one is out
  pub set-insert : (xs : List X) (i : ℕ) (y : X) → i < length xs → set xs i y ≡ insert (remove xs i) i y
  set-insert [] i y within = absurd (omega arith)
  set-insert (x ∷ xs) zero y within = refl
  set-insert (x ∷ xs) (suc i) y within = ap (λ ys. x ∷ ys) (set-insert xs i y (omega arith))

module _ {N : Type 0} (tell : (v w : N) → (v ≡ w) ⊎ (¬ (v ≡ w))) where
  module _ (us us' : N → List UseIndex) (v : N) (mine : UseIndex) (U : UsesChange v (us v ++ mine ∷ []) us us') where
    -- a use that stood there stands there still
    pub use_stays : (w : N) (k : ℕ) (u : UseIndex) → slice_get (us w) k ≡ Some u → slice_get (us' w) k ≡ Some u
    use_stays w k u h =
        elim (tell w v) [
          | inl e ↦
              let h' : slice_get (us v) k ≡ Some u = (λ q. slice_get (us (sym e q)) k) ∙ h in
              (λ q. slice_get (us' (e q)) k)
              ∙ (λ q. slice_get (U.here q) k)
              ∙ slice_get-push_before (us v) mine k (slice_get_within (us v) k u h')
              ∙ h'
          | inr e ↦ (λ q. slice_get (U.others w e q) k) ∙ h
        ]

    -- a use is one that stood there, or the new one
    use_came : (w : N) (k : ℕ) (u : UseIndex) → slice_get (us' w) k ≡ Some u → (slice_get (us w) k ≡ Some u) ⊎ ((w ≡ v) × (k ≡ length (us v)) × (mine ≡ u))
    use_came w k u h =
        elim (tell w v) [
          | inl e ↦
              let h' : slice_get (us v ++ mine ∷ []) k ≡ Some u = (λ q. slice_get (sym U.here q) k) ∙ (λ q. slice_get (us' (sym e q)) k) ∙ h in
              elim (slice_get-push_cases (us v) mine k u h') [
                | inl f ↦ inl ((λ q. slice_get (us (e q)) k) ∙ f)
                | inr f ↦ inr (e, f.0, f.1)
              ]
          | inr e ↦ inl ((λ q. slice_get (sym (U.others w e) q) k) ∙ h)
        ]

  module _ (os os' : ArenaIndex → List (UsePlace N)) (us : N → List UseIndex) (o : ArenaIndex) (i : ℕ) (a : UsePlace N) (within : i ≤ length (os o)) where
    -- a place is one that stood in the list, or the new one
    inserted_from : OperandsChange o (insert (os o) i a) os os' → (p : ArenaIndex) (j : ℕ) (b : UsePlace N) → slice_get (os' p) j ≡ Some b
        → ((k : ℕ) × (slice_get (os p) k ≡ Some b) × ((p ≡ o) × (j < i) × (k ≡ j) ⊎ ((p ≡ o) × (i ≤ k) × (j ≡ suc k) ⊎ (¬ (p ≡ o)) × (k ≡ j)))) ⊎ ((p ≡ o) × (j ≡ i) × (a ≡ b))
    inserted_from C p j b at =
        elim (id_cases p o) [
          | inl e ↦
              let at' : slice_get (insert (os o) i a) j ≡ Some b = (λ q. slice_get (sym C.here q) j) ∙ (λ q. slice_get (os' (sym e q)) j) ∙ at in
              elim (cases_order j i) [
                | inl same ↦ inr (e, same, same_Some a b (sym (slice_get-insert_at (os o) i a within) ∙ ap (slice_get (insert (os o) i a)) (sym same) ∙ at'))
                | inr r ↦ elim r [
                  | inl l ↦ inl (j, (λ q. slice_get (os (e q)) j) ∙ sym (slice_get-insert_below (os o) i j a within l) ∙ at', inl (e, l, refl))
                  | inr l ↦
                      let back : j ≡ suc (j - 1) = omega arith in
                      let from : i ≤ j - 1 = omega arith in
                      inl (j - 1, (λ q. slice_get (os (e q)) (j - 1)) ∙ sym (slice_get-insert_behind (os o) i (j - 1) a within from) ∙ ap (slice_get (insert (os o) i a)) (sym back) ∙ at', inr (inl (e, from, back)))
                ]
              ]
          | inr ne ↦ inl (j, (λ q. slice_get (sym (C.others p ne) q) j) ∙ at, inr (inr (ne, refl)))
        ]

    -- where a place stands now that stood in the list
    inserted_to : OperandsChange o (insert (os o) i a) os os' → (p : ArenaIndex) (k : ℕ) (b : UsePlace N) → slice_get (os p) k ≡ Some b → (j : ℕ) × (slice_get (os' p) j ≡ Some b) × (¬ (HoleAt o i p j))
    inserted_to C p k b at =
        elim (id_cases p o) [
          | inl e ↦
              let at' : slice_get (os o) k ≡ Some b = (λ q. slice_get (os (sym e q)) k) ∙ at in
              let now : (j : ℕ) → slice_get (os' p) j ≡ slice_get (insert (os o) i a) j = λ j. (λ q. slice_get (os' (e q)) j) ∙ (λ q. slice_get (C.here q) j) in
              elim (cases_lt k i) [
                | inl l ↦ (k, now k ∙ slice_get-insert_below (os o) i k a within l ∙ at', λ t. absurd (omega (arith, t.1)))
                | inr l ↦ (suc k, now (suc k) ∙ slice_get-insert_behind (os o) i k a within l ∙ at', λ t. absurd (omega (arith, t.1)))
              ]
          | inr ne ↦ (k, (λ q. slice_get (C.others p ne q) k) ∙ at, λ t. ne t.0)
        ]

    -- a place with a new number is put in, with no use yet
    pub insert_place : LinkedBut NoHole os us → OperandsChange o (insert (os o) i a) os os' → ((p : ArenaIndex) (j : ℕ) (b : UsePlace N) → slice_get (os p) j ≡ Some b → ¬ (b.number ≡ a.number)) → LinkedBut (HoleAt o i) os' us
    insert_place L C fresh = record {
      forward = λ p j b at nh.
          elim (inserted_from C p j b at) [
            | inl f ↦ L.forward p f.0 b f.1 (λ (t : ⊥). t)
            | inr f ↦ absurd (nh (f.0, f.1))
          ];
      backward = λ v k u h.
          let was = L.backward v k u h in
          inserted_to C u.user was.0 _ was.1;
      distinct = λ p q j k b c atb atc same.
          elim (inserted_from C p j b atb) [
            | inl f ↦ elim (inserted_from C q k c atc) [
              | inl g ↦
                  let one = L.distinct p q f.0 g.0 b c f.1 g.1 same in
                  (one.0, grind (arith, one, f.2, g.2))
              | inr g ↦ absurd (fresh p f.0 b f.1 (same ∙ ap (λ (x : UsePlace N). x.number) (sym g.2)))
            ]
            | inr f ↦ elim (inserted_from C q k c atc) [
              | inl g ↦ absurd (fresh q g.0 c g.1 (sym same ∙ ap (λ (x : UsePlace N). x.number) (sym f.2)))
              | inr g ↦ (f.0 ∙ sym g.0, f.1 ∙ sym g.1)
            ]
          ];
    }

  module _ (os os' : ArenaIndex → List (UsePlace N)) (us us' : N → List UseIndex) (o : ArenaIndex) (i : ℕ) (a b : UsePlace N) where
    abbrev mine : UseIndex
    mine = record { user = o; number = b.number }

    -- b stands where a stood, and all else as it stood
    put_here : slice_get (os o) i ≡ Some a → OperandsChange o (set (os o) i b) os os' → slice_get (os' o) i ≡ Some b
    put_here at C = ap (λ (xs : List (UsePlace N)). slice_get xs i) C.here ∙ slice_get-set_same (os o) i b (slice_get_within (os o) i a at)

    put_away : OperandsChange o (set (os o) i b) os os' → (p : ArenaIndex) (j : ℕ) → ¬ ((p ≡ o) × (j ≡ i)) → slice_get (os' p) j ≡ slice_get (os p) j
    put_away C p j ne =
        elim (id_cases p o) [
          | inl e ↦ (λ x. slice_get (os' (e x)) j) ∙ (λ x. slice_get (C.here x) j) ∙ slice_get-set_other (os o) i j b (λ f. ne (e, f)) ∙ (λ x. slice_get (os (sym e x)) j)
          | inr f ↦ λ x. slice_get (C.others p f x) j
        ]

    put_from : slice_get (os o) i ≡ Some a → OperandsChange o (set (os o) i b) os os' → (p : ArenaIndex) (j : ℕ) (c : UsePlace N) → slice_get (os' p) j ≡ Some c → ((p ≡ o) × (j ≡ i) × (c ≡ b)) ⊎ ((slice_get (os p) j ≡ Some c) × (¬ ((p ≡ o) × (j ≡ i))))
    put_from at C p j c atc =
        elim (operand_cases tell p o j i) [
          | inl e ↦ inl (e.0, e.1, same_operand tell os' o i p j b c (put_here at C) atc e)
          | inr ne ↦ inr (sym (put_away C p j ne) ∙ atc, ne)
        ]

    -- a place with a new number is put where another one stands, its use goes last, and the use of the other one stands there still
    pub swap_place : LinkedBut NoHole os us → slice_get (os o) i ≡ Some a → ((p : ArenaIndex) (j : ℕ) (c : UsePlace N) → slice_get (os p) j ≡ Some c → ¬ (c.number ≡ b.number)) → b.place ≡ length (us b.names)
        → UsesChange b.names (us b.names ++ mine ∷ []) us us' → OperandsChange o (set (os o) i b) os os' → LinkedBesides a.names a.place os' us'
    swap_place L at fresh end U C = record {
      forward = λ p j c atc.
          elim (put_from at C p j c atc) [
            | inl e ↦
                (λ q. slice_get (us' (e.2 q).names) (e.2 q).place)
                ∙ (λ q. slice_get (U.here q) (end q))
                ∙ slice_get-push_at (us b.names) mine
                ∙ (λ q. Some (record { user = sym e.0 q; number = (sym e.2 q).number }))
            | inr f ↦ use_stays us us' b.names mine U c.names c.place _ (L.forward p j c f.0 (λ (t : ⊥). t))
          ];
      apart = λ p j c atc t.
          elim (put_from at C p j c atc) [
            | inl e ↦
                let kept = slice_get_within (us a.names) a.place _ (L.forward o i a at (λ (h : ⊥). h)) in
                let same : b.place ≡ a.place = ap (λ (x : UsePlace N). x.place) (sym e.2) ∙ t.1 in
                let size : length (us b.names) ≡ length (us a.names) = ap (λ (n : N). length (us n)) (ap (λ (x : UsePlace N). x.names) (sym e.2) ∙ t.0) in
                absurd (omega (arith, kept, same, size, end))
            | inr f ↦ f.1 (one_place tell L o i p j a c at f.0 t.0 t.1)
          ];
      backward = λ w k u h ne.
          elim (use_came us us' b.names mine U w k u h) [
            | inl f ↦
                let was = L.backward w k u f in
                let kept : ¬ ((u.user ≡ o) × (was.0 ≡ i)) = λ t. (let same = same_operand tell os o i u.user was.0 a _ at was.1 t in ne (ap (λ (x : UsePlace N). x.names) same, ap (λ (x : UsePlace N). x.place) same)) in
                (was.0, put_away C u.user was.0 kept ∙ was.1)
            | inr f ↦
                (i, (λ q. slice_get (os' (sym f.2 q).user) i) ∙ put_here at C ∙ (λ q. Some (record { number = (f.2 q).number; names = sym f.0 q; place = (end ∙ sym f.1) q })))
          ];
      distinct = λ p q j k c d atc atd same.
          elim (put_from at C p j c atc) [
            | inl e ↦ elim (put_from at C q k d atd) [
              | inl g ↦ (e.0 ∙ sym g.0, e.1 ∙ sym g.1)
              | inr g ↦ absurd (fresh q k d g.0 (sym same ∙ ap (λ (x : UsePlace N). x.number) e.2))
            ]
            | inr f ↦ elim (put_from at C q k d atd) [
              | inl g ↦ absurd (fresh p j c f.0 (same ∙ ap (λ (x : UsePlace N). x.number) g.2))
              | inr g ↦ L.distinct p q j k c d f.0 g.0 same
            ]
          ];
    }
