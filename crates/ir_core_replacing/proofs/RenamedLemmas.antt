-- How places that come to name another definition stay linked with its uses, whatever is named.
use Rattle.std.proofs.Common.{◌≡◌, ◌⊎◌, ℕ, suc, ◌==◌, List, [], ◌∷◌, set, map, Option, Some, None, slice_get, Bool, cond, if◌then◌else◌, refl, sym, ap, ◌∙◌, inl, inr}
use Rattle.std.specs.Option.{option_map}
use Rattle.std.proofs.lemmas.Bool.{cases_eq, eq-eqb, ne_eqb}
use Rattle.std.proofs.lemmas.Option.{slice_get_within, slice_get-map, same_Some}
use Rattle.ir_model.specs.declared.ids.ArenaIndex.{ArenaIndex}
use Rattle.ir_model.proofs.IdCases.{id_cases}
use Rattle.ir_core_records.specs.declared.record.UseIndex.{UseIndex}
use Rattle.ir_core_records.specs.declared.record.UsePlace.{UsePlace}
use Rattle.ir_core_records.specs.Chains.{number_and_name, names_in}
use Rattle.ir_core_records.specs.Distinct.{distinct_by_place, first_with}
use Rattle.ir_core_records.specs.Links.{LinkedBut, NoHole, IsPlaced}
use Rattle.ir_core_records.specs.Lists.{HaveDistinctUses}
use Rattle.ir_core_chains.specs.LinkLemmas.{OperandsChange}
use Rattle.ir_core_chains.specs.ListReads.{slice_get-set_same, slice_get-set_other}
use Rattle.ir_core_replacing.specs.Renamed.{put_name, Renamed}

-- lists with the same items at the same places are one
pub same_items : {X : Type 0} (xs ys : List X) → ((i : ℕ) → slice_get xs i ≡ slice_get ys i) → xs ≡ ys
same_items [] [] e = refl
same_items [] (y ∷ ys) e = let h : None ≡ Some y = e 0 in absurd (cc)
same_items (x ∷ xs) [] e = let h : Some x ≡ None = e 0 in absurd (cc)
same_items (x ∷ xs) (y ∷ ys) e = let first = same_Some x y (e 0) in let rest = same_items xs ys (λ i. e (suc i)) in λ i. first i ∷ rest i

module _ {N : Type 0} where
  -- where uses go, once the one at k goes there
  abbrev pub sent : (ℕ → N × ℕ) → ℕ → N × ℕ → ℕ → N × ℕ
  sent goes k x p = if p == k then x else goes p

  pub sent-here : (goes : ℕ → N × ℕ) (k : ℕ) (x : N × ℕ) (p : ℕ) → p ≡ k → sent goes k x p ≡ x
  sent-here goes k x p e = ap (λ (b : Bool). cond b x (goes p)) (eq-eqb p k e)

  pub sent-away : (goes : ℕ → N × ℕ) (k : ℕ) (x : N × ℕ) (p : ℕ) → ¬ (p ≡ k) → sent goes k x p ≡ goes p
  sent-away goes k x p ne = ap (λ (b : Bool). cond b x (goes p)) (ne_eqb p k ne)

  -- a place with this number that stands where it goes
  abbrev pub at_goal : ℕ → N × ℕ → UsePlace N
  at_goal n x = record { number = n; names = x.0; place = x.1 }

  -- before anything was renamed
  pub renamed-none : (from : N) (os : ArenaIndex → List (UsePlace N)) → Renamed from (λ p. (from, p)) os os
  renamed-none from os = record {
    moved = λ o i a at is. at ∙ (λ q. Some (record { number = a.number; names = is q; place = a.place }));
    stays = λ o i a at no. at;
    came = λ o i b at. (b, at, refl);
  }

  -- where uses go, said otherwise
  pub renamed-goes : (from : N) (goes goes' : ℕ → N × ℕ) (os os' : ArenaIndex → List (UsePlace N)) (us : N → List UseIndex) → LinkedBut NoHole os us → ((p : ℕ) (u : UseIndex) → slice_get (us from) p ≡ Some u → goes p ≡ goes' p) → Renamed from goes os os' → Renamed from goes' os os'
  renamed-goes from goes goes' os os' us L e R = record {
    moved = λ o i a at is.
        let u : UseIndex = record { user = o; number = a.number } in
        let same = e a.place u ((λ q. slice_get (us (sym is q)) a.place) ∙ L.forward o i a at (λ (h : ⊥). h)) in
        R.moved o i a at is ∙ (λ q. Some (at_goal a.number (same q)));
    stays = R.stays;
    came = R.came;
  }

  -- one more place is renamed
  module _ (from : N) (goes : ℕ → N × ℕ) (os os' : ArenaIndex → List (UsePlace N)) (us : N → List UseIndex) (L : LinkedBut NoHole os us) (R : Renamed from goes os os') where
    pub numbers-stay : (p : ArenaIndex) → HaveDistinctUses (os' p)
    numbers-stay p = distinct_by_place (λ (b : UsePlace N). b.number) (os' p) (λ i j b c at_b at_c e. (
        let x = R.came p i b at_b in
        let y = R.came p j c at_c in
        (L.distinct p p i j x.0 y.0 x.1 y.1 (x.2 ∙ e ∙ sym y.2)).1
        ))

    module _ (k : ℕ) (u : UseIndex) (at : slice_get (us from) k ≡ Some u) where
      abbrev was : UsePlace N
      was = record { number = u.number; names = from; place = k }

      index : ℕ
      index = (L.backward from k u at).0

      stood : slice_get (os u.user) index ≡ Some was
      unfolding index
      stood = (L.backward from k u at).1

      stands : slice_get (os' u.user) index ≡ Some (at_goal u.number (goes k))
      stands = R.moved u.user index was stood refl

      pub still_has : IsPlaced os' u
      still_has = (index, at_goal u.number (goes k), stands, refl)

      module _ (os'' : ArenaIndex → List (UsePlace N)) (x : N × ℕ) (C : OperandsChange u.user (put_name (os' u.user) u.number x.0 x.1) os' os'') where
        written : put_name (os' u.user) u.number x.0 x.1 ≡ set (os' u.user) index (at_goal u.number x)
        written = ap (λ (m : Option ℕ). elim m as (λ _. List (UsePlace N)) [ None ↦ os' u.user | Some i ↦ set (os' u.user) i (at_goal u.number x) ]) (first_with (λ (b : UsePlace N). b.number) (os' u.user) u.number index (at_goal u.number (goes k)) (numbers-stay u.user) stands refl)

        here : slice_get (os'' u.user) index ≡ Some (at_goal u.number x)
        here = (λ q. slice_get (C.here q) index) ∙ (λ q. slice_get (written q) index) ∙ slice_get-set_same (os' u.user) index (at_goal u.number x) (slice_get_within (os' u.user) index (at_goal u.number (goes k)) stands)

        away : (o : ArenaIndex) (i : ℕ) → ¬ ((o ≡ u.user) × (i ≡ index)) → slice_get (os'' o) i ≡ slice_get (os' o) i
        away o i ne =
            elim (id_cases o u.user) [
              | inl e ↦ (λ q. slice_get (os'' (e q)) i) ∙ (λ q. slice_get (C.here q) i) ∙ (λ q. slice_get (written q) i) ∙ slice_get-set_other (os' u.user) index i (at_goal u.number x) (λ f. ne (e, f)) ∙ (λ q. slice_get (os' (sym e q)) i)
              | inr f ↦ λ q. slice_get (C.others o f q) i
            ]

        -- what stood at the place of the use
        stood-there : (o : ArenaIndex) (i : ℕ) (a : UsePlace N) → slice_get (os o) i ≡ Some a → (o ≡ u.user) × (i ≡ index) → a ≡ was
        stood-there o i a at_a t = same_Some _ _ (sym at_a ∙ (λ q. slice_get (os (t.0 q)) (t.1 q)) ∙ stood)

        -- the place of the use at k is that of u
        is-there : (o : ArenaIndex) (i : ℕ) (a : UsePlace N) → slice_get (os o) i ≡ Some a → a.names ≡ from → a.place ≡ k → (o ≡ u.user) × (i ≡ index)
        is-there o i a at_a is e =
            let f : slice_get (us a.names) a.place ≡ Some (record { user = o; number = a.number }) = L.forward o i a at_a (λ (h : ⊥). h) in
            let g : ◌≡◌ {A = UseIndex} (record { user = o; number = a.number }) u = same_Some _ _ (sym f ∙ (λ q. slice_get (us (is q)) (e q)) ∙ at) in
            L.distinct o u.user i index a was at_a stood (ap (λ (w : UseIndex). w.number) g)

        moved-on : (o : ArenaIndex) (i : ℕ) (a : UsePlace N) → slice_get (os o) i ≡ Some a → a.names ≡ from → slice_get (os'' o) i ≡ Some (at_goal a.number (sent goes k x a.place))
        moved-on o i a at_a is =
            elim (cases_eq a.place k) [
              | inl e ↦
                  let t = is-there o i a at_a is e in
                  let same = stood-there o i a at_a t in
                  (λ q. slice_get (os'' (t.0 q)) (t.1 q)) ∙ here ∙ (λ q. Some (at_goal (sym same q).number (sym (sent-here goes k x a.place e) q)))
              | inr ne ↦
                  away o i (λ t. ne (ap (λ (b : UsePlace N). b.place) (stood-there o i a at_a t)))
                  ∙ R.moved o i a at_a is
                  ∙ (λ q. Some (at_goal a.number (sym (sent-away goes k x a.place ne) q)))
            ]

        came-from : (o : ArenaIndex) (i : ℕ) (b : UsePlace N) → slice_get (os'' o) i ≡ Some b → (a : UsePlace N) × (slice_get (os o) i ≡ Some a) × (a.number ≡ b.number)
        came-from o i b at_b =
            elim (id_cases o u.user) [
              | inl e ↦ elim (cases_eq i index) [
                | inl f ↦ (was, (λ q. slice_get (os (e q)) (f q)) ∙ stood, ap (λ (c : UsePlace N). c.number) (same_Some _ _ (sym here ∙ (λ q. slice_get (os'' (sym e q)) (sym f q)) ∙ at_b)))
                | inr f ↦ R.came o i b (sym (away o i (λ t. f t.1)) ∙ at_b)
              ]
              | inr e ↦ R.came o i b (sym (away o i (λ t. e t.0)) ∙ at_b)
            ]

        pub renamed-more : Renamed from (sent goes k x) os os''
        renamed-more = record {
          moved = moved-on;
          stays = λ o i a at_a no. away o i (λ t. no (ap (λ (b : UsePlace N). b.names) (stood-there o i a at_a t))) ∙ R.stays o i a at_a no;
          came = came-from;
        }

  -- the uses of two definitions, once those of the first have gone where they go
  pub record UsesMove (from to : N) (goes : ℕ → N × ℕ) (us us' : N → List UseIndex) : Type 0 where
    pub placed : (k : ℕ) (u : UseIndex) → slice_get (us from) k ≡ Some u → slice_get (us' (goes k).0) (goes k).1 ≡ Some u
    pub own : (j : ℕ) (u : UseIndex) → slice_get (us to) j ≡ Some u → slice_get (us' to) j ≡ Some u
    pub left : (j : ℕ) (u : UseIndex) → slice_get (us' from) j ≡ Some u → (k : ℕ) × (slice_get (us from) k ≡ Some u) × (goes k ≡ (from, j))
    pub got : (j : ℕ) (u : UseIndex) → slice_get (us' to) j ≡ Some u → (slice_get (us to) j ≡ Some u) ⊎ ((k : ℕ) × (slice_get (us from) k ≡ Some u) × (goes k ≡ (to, j)))
    pub others : (v : N) → ¬ (v ≡ from) → ¬ (v ≡ to) → us' v ≡ us v

module _ {N : Type 0} (tell : (v w : N) → (v ≡ w) ⊎ (¬ (v ≡ w))) (from to : N) (goes : ℕ → N × ℕ) (os os' : ArenaIndex → List (UsePlace N)) (R : Renamed from goes os os') where
  module _ (us us' : N → List UseIndex) (L : LinkedBut NoHole os us) (M : UsesMove from to goes us us') where
    forward : (o : ArenaIndex) (i : ℕ) (b : UsePlace N) → slice_get (os' o) i ≡ Some b → slice_get (us' b.names) b.place ≡ Some (record { user = o; number = b.number })
    forward o i b at_b =
        let was = R.came o i b at_b in
        let a = was.0 in
        let f : slice_get (us a.names) a.place ≡ Some (record { user = o; number = a.number }) = L.forward o i a was.1 (λ (h : ⊥). h) in
        elim (tell a.names from) [
          | inl e ↦
              let is : b ≡ at_goal a.number (goes a.place) = same_Some _ _ (sym at_b ∙ R.moved o i a was.1 e) in
              (λ q. slice_get (us' (is q).names) (is q).place)
              ∙ M.placed a.place (record { user = o; number = a.number }) ((λ q. slice_get (us (sym e q)) a.place) ∙ f)
              ∙ (λ q. Some (record { user = o; number = (sym is q).number }))
          | inr ne ↦
              let is : b ≡ a = same_Some _ _ (sym at_b ∙ R.stays o i a was.1 ne) in
              let now : slice_get (us' a.names) a.place ≡ Some (record { user = o; number = a.number }) =
              elim (tell a.names to) [
                | inl e ↦ (λ q. slice_get (us' (e q)) a.place) ∙ M.own a.place (record { user = o; number = a.number }) ((λ q. slice_get (us (sym e q)) a.place) ∙ f)
                | inr e ↦ (λ q. slice_get (M.others a.names ne e q) a.place) ∙ f
              ] in
              (λ q. slice_get (us' (is q).names) (is q).place) ∙ now ∙ (λ q. Some (record { user = o; number = (sym is q).number }))
        ]

    -- the place of a use that has gone
    gone : (k : ℕ) (u : UseIndex) (v : N) (j : ℕ) → slice_get (us from) k ≡ Some u → goes k ≡ (v, j) → (i : ℕ) × (slice_get (os' u.user) i ≡ Some (record { number = u.number; names = v; place = j })) × (¬ (NoHole u.user i))
    gone k u v j at e =
        let was = L.backward from k u at in
        (was.0, R.moved u.user was.0 _ was.1 refl ∙ (λ q. Some (at_goal u.number (e q))), λ (h : ⊥). h)

    -- the place of a use that was not to go
    kept : (v : N) (j : ℕ) (u : UseIndex) → ¬ (v ≡ from) → slice_get (us v) j ≡ Some u → (i : ℕ) × (slice_get (os' u.user) i ≡ Some (record { number = u.number; names = v; place = j })) × (¬ (NoHole u.user i))
    kept v j u ne at =
        let was = L.backward v j u at in
        (was.0, R.stays u.user was.0 _ was.1 ne, λ (h : ⊥). h)

    backward : (v : N) (j : ℕ) (u : UseIndex) → slice_get (us' v) j ≡ Some u → (i : ℕ) × (slice_get (os' u.user) i ≡ Some (record { number = u.number; names = v; place = j })) × (¬ (NoHole u.user i))
    backward v j u h =
        elim (tell v from) [
          | inl e ↦
              let l = M.left j u ((λ q. slice_get (us' (sym e q)) j) ∙ h) in
              gone l.0 u v j l.1 (l.2 ∙ (λ q. (sym e q, j)))
          | inr ne ↦ elim (tell v to) [
            | inl e ↦ elim (M.got j u ((λ q. slice_get (us' (sym e q)) j) ∙ h)) [
              | inl own ↦ kept v j u ne ((λ q. slice_get (us (e q)) j) ∙ own)
              | inr l ↦ gone l.0 u v j l.1 (l.2 ∙ (λ q. (sym e q, j)))
            ]
            | inr e ↦ kept v j u ne ((λ q. slice_get (sym (M.others v ne e) q) j) ∙ h)
          ]
        ]

    -- places and uses that moved alike name each other
    pub renamed-linked : LinkedBut NoHole os' us'
    renamed-linked = record {
      forward = λ o i b at nh. forward o i b at;
      backward = backward;
      distinct = λ o p i j b c at_b at_c e.
          let x = R.came o i b at_b in
          let y = R.came p j c at_c in
          L.distinct o p i j x.0 y.0 x.1 y.1 (x.2 ∙ e ∙ sym y.2);
    }

  -- what the places name now, by what they named
  module _ (f : ArenaIndex → ℕ × N → ℕ × N)
      (goes-so : (o : ArenaIndex) (i : ℕ) (a : UsePlace N) → slice_get (os o) i ≡ Some a → a.names ≡ from → f o (number_and_name a) ≡ (a.number, (goes a.place).0))
      (stays-so : (o : ArenaIndex) (i : ℕ) (a : UsePlace N) → slice_get (os o) i ≡ Some a → ¬ (a.names ≡ from) → f o (number_and_name a) ≡ number_and_name a) where
    name-now : (o : ArenaIndex) (i : ℕ) (x y : Option (UsePlace N)) → slice_get (os o) i ≡ x → slice_get (os' o) i ≡ y → option_map number_and_name y ≡ option_map (f o) (option_map number_and_name x)
    name-now o i None None at at' = refl
    name-now o i None (Some b) at at' = let was = R.came o i b at' in let h : None ≡ Some was.0 = sym at ∙ was.1 in absurd (cc)
    name-now o i (Some a) y at at' =
        elim (tell a.names from) [
          | inl e ↦ ap (option_map number_and_name) (sym at' ∙ R.moved o i a at e) ∙ ap Some (sym (goes-so o i a at e))
          | inr ne ↦ ap (option_map number_and_name) (sym at' ∙ R.stays o i a at ne) ∙ ap Some (sym (stays-so o i a at ne))
        ]

    pub renamed-names : (o : ArenaIndex) → names_in (os' o) ≡ map (f o) (names_in (os o))
    renamed-names o = same_items (names_in (os' o)) (map (f o) (names_in (os o))) (λ i.
        slice_get-map number_and_name (os' o) i
        ∙ name-now o i (slice_get (os o) i) (slice_get (os' o) i) refl refl
        ∙ ap (option_map (f o)) (sym (slice_get-map number_and_name (os o) i))
        ∙ sym (slice_get-map (f o) (names_in (os o)) i))
