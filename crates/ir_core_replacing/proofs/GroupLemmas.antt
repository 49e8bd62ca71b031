-- What it does to a chain that several uses go to another definition at once: lists are taken out, places are renamed, and lists are put back.
use Rattle.std.proofs.Common.{◌≡◌, ◌⊎◌, ℕ, zero, suc, ◌+◌, ◌<◌, ◌≤◌, List, [], ◌∷◌, ◌++◌, length, map, Option, Some, None, slice_get, Bool, true, false, cond, refl, sym, ap, subst, ◌∙◌, inl, inr, arith}
use Rattle.std.specs.Prelude.{◌↔◌}
use Rattle.std.proofs.lemmas.Bool.{cases_eq, cases_lt}
use Rattle.std.proofs.lemmas.Option.{slice_get_within, same_Some}
use Rattle.ir_model.specs.declared.ids.ArenaIndex.{ArenaIndex}
use Rattle.ir_model.specs.ContextIds.{context_ids}
use Rattle.ir_model.specs.Uses.{Use}
use Rattle.ir_core_records.specs.declared.record.UseIndex.{UseIndex}
use Rattle.ir_core_records.specs.declared.record.UsePlace.{UsePlace}
use Rattle.ir_core_records.specs.Chains.{number_and_name, names_in}
use Rattle.ir_core_records.specs.Links.{LinkedBut, NoHole, IsPlaced}
use Rattle.ir_core_records.specs.Lists.{HaveDistinctUses}
use Rattle.ir_core_chains.specs.Chain.{IsUseChain, Rewrites, unchanged, by_places, by_uses}
use Rattle.ir_core_chains.specs.ChainEdits.{rewrites-has}
use Rattle.ir_core_chains.specs.ListReads.{none_past}
use Rattle.ir_core_replacing.specs.Chosen.{is_chosen, chosen, left_out, count_yes, count_no}
use Rattle.ir_core_replacing.specs.Renamed.{put_name, Renamed, renamed, named_by}
use Rattle.ir_core_replacing.proofs.RenamedLemmas.{sent, sent-here, sent-away, renamed-none, renamed-goes, UsesMove, renamed-linked, renamed-names}
use Rattle.ir_core_replacing.proofs.UseLemmas.{use_placed, use_live, use_numbers, use_renamed}
use Rattle.ir_core_replacing.proofs.ChosenLemmas.{chosen-at, left_out-at, chosen-from, left_out-from, is_chosen-at, is_chosen-from}

-- a list behind another
pub get-front : {X : Type 0} (xs ys : List X) (k : ℕ) (x : X) → slice_get xs k ≡ Some x → slice_get (xs ++ ys) k ≡ Some x
get-front [] ys k x at = absurd (cc)
get-front (y ∷ xs) ys zero x at = at
get-front (y ∷ xs) ys (suc k) x at = get-front xs ys k x at

pub get-behind : {X : Type 0} (xs ys : List X) (k : ℕ) → slice_get (xs ++ ys) (length xs + k) ≡ slice_get ys k
get-behind [] ys k = let e : 0 + k ≡ k = omega arith in ap (slice_get ys) e
get-behind (x ∷ xs) ys k = let e : length (x ∷ xs) + k ≡ suc (length xs + k) = omega arith in ap (slice_get (x ∷ xs ++ ys)) e ∙ get-behind xs ys k

pub get-either : {X : Type 0} (xs ys : List X) (j : ℕ) (x : X) → slice_get (xs ++ ys) j ≡ Some x → (slice_get xs j ≡ Some x) ⊎ ((k : ℕ) × (j ≡ length xs + k) × (slice_get ys k ≡ Some x))
get-either [] ys j x at = let e : j ≡ 0 + j = omega arith in inr (j, e, at)
get-either (y ∷ xs) ys zero x at = inl at
get-either (y ∷ xs) ys (suc j) x at =
    elim (get-either xs ys j x at) [
      | inl h ↦ inl h
      | inr h ↦ let same = h.1 in let e : suc j ≡ length (y ∷ xs) + h.0 = omega (arith, same) in inr (h.0, e, h.2)
    ]

-- where a definition comes to name itself, nothing has to change
pub map-same : {X : Type 0} (f : X → X) → ((x : X) → f x ≡ x) → (xs : List X) → xs ≡ map f xs
map-same f e [] = refl
map-same f e (x ∷ xs) = λ i. sym (e x) i ∷ map-same f e xs i

pub same_named : {N : Type 0} (from to : N) → from ≡ to → (passes : N → Bool) → ((v : N) → (passes v ≡ true) ↔ (v ≡ from)) → (ns : List (ℕ × N)) → ns ≡ map (named_by passes to) ns
same_named {N} from to e passes is = map-same (named_by passes to) (λ n. by n (passes n.1) refl)
  where
    by : (n : ℕ × N) (b : Bool) → passes n.1 ≡ b → cond b (n.0, to) n ≡ n
    by n true h = λ i. (n.0, (sym e ∙ sym ((is n.1).0 h)) i)
    by n false h = refl

-- one of two, by the order of two numbers
abbrev pub by_half : {P : Type 0} {p k : ℕ} → (p < k) ⊎ (k ≤ p) → P → P → P
by_half (inl l) x y = x
by_half (inr l) x y = y

half-below : {P : Type 0} {p k : ℕ} (c : (p < k) ⊎ (k ≤ p)) (x y : P) → p < k → by_half c x y ≡ x
half-below (inl l) x y h = refl
half-below (inr l) x y h = absurd (omega (arith, l, h))

half-above : {P : Type 0} {p k : ℕ} (c : (p < k) ⊎ (k ≤ p)) (x y : P) → k ≤ p → by_half c x y ≡ y
half-above (inl l) x y h = absurd (omega (arith, l, h))
half-above (inr l) x y h = refl

module _ {N : Type 0} where
  -- where uses go once those below k have gone
  abbrev pub gone_to : N → (ℕ → N × ℕ) → ℕ → ℕ → N × ℕ
  gone_to from goes k p = by_half (cases_lt p k) (goes p) (from, p)

  pub gone-none : (from : N) (goes : ℕ → N × ℕ) (p : ℕ) → (from, p) ≡ gone_to from goes 0 p
  gone-none from goes p = let l : 0 ≤ p = omega arith in sym (half-above (cases_lt p 0) (goes p) (from, p) l)

  pub gone-more : (from : N) (goes : ℕ → N × ℕ) (k p : ℕ) → sent (gone_to from goes k) k (goes k) p ≡ gone_to from goes (k + 1) p
  gone-more from goes k p =
      elim (cases_eq p k) [
        | inl e ↦
            let l : p < k + 1 = omega (arith, e) in
            sent-here (gone_to from goes k) k (goes k) p e ∙ ap goes (sym e) ∙ sym (half-below (cases_lt p (k + 1)) (goes p) (from, p) l)
        | inr ne ↦ sent-away (gone_to from goes k) k (goes k) p ne ∙ elim (cases_lt p k) [
          | inl l ↦ let m : p < k + 1 = omega (arith, l) in half-below (cases_lt p k) (goes p) (from, p) l ∙ sym (half-below (cases_lt p (k + 1)) (goes p) (from, p) m)
          | inr l ↦ let m : k + 1 ≤ p = omega (arith, l, ne) in half-above (cases_lt p k) (goes p) (from, p) l ∙ sym (half-above (cases_lt p (k + 1)) (goes p) (from, p) m)
        ]
      ]

  pub gone-all : (from : N) (goes : ℕ → N × ℕ) (k p : ℕ) → p < k → gone_to from goes k p ≡ goes p
  gone-all from goes k p l = half-below (cases_lt p k) (goes p) (from, p) l

  -- all go behind the others
  abbrev pub go_behind : N → ℕ → ℕ → N × ℕ
  go_behind to start p = (to, start + p)

  -- those chosen go behind the others, and the rest closes up
  abbrev pub by_answer : N → N → ℕ → List Bool → ℕ → Option Bool → N × ℕ
  by_answer from to start bs p None = (from, p)
  by_answer from to start bs p (Some true) = (to, start + count_yes bs p)
  by_answer from to start bs p (Some false) = (from, count_no bs p)

  abbrev pub go_chosen : N → N → ℕ → List Bool → ℕ → N × ℕ
  go_chosen from to start bs p = by_answer from to start bs p (slice_get bs p)

  pub goes-chosen : (from to : N) (start : ℕ) (bs : List Bool) (p : ℕ) (b : Option Bool) → slice_get bs p ≡ b → go_chosen from to start bs p ≡ by_answer from to start bs p b
  goes-chosen from to start bs p b e = ap (by_answer from to start bs p) e

  -- all uses have gone behind the others
  pub all_move : (from to : N) (us us' : N → List UseIndex) → us' from ≡ [] → us' to ≡ us to ++ us from → ((v : N) → ¬ (v ≡ from) → ¬ (v ≡ to) → us' v ≡ us v) → UsesMove from to (go_behind to (length (us to))) us us'
  all_move from to us us' at_from at_to others = record {
    placed = λ k u at. ap (λ (ws : List UseIndex). slice_get ws (length (us to) + k)) at_to ∙ get-behind (us to) (us from) k ∙ at;
    own = λ j u at. ap (λ (ws : List UseIndex). slice_get ws j) at_to ∙ get-front (us to) (us from) j u at;
    left = λ j u at. let h : None ≡ Some u = ap (λ (ws : List UseIndex). slice_get ws j) (sym at_from) ∙ at in absurd (cc);
    got = λ j u at.
        elim (get-either (us to) (us from) j u (ap (λ (ws : List UseIndex). slice_get ws j) (sym at_to) ∙ at)) [
          | inl h ↦ inl h
          | inr h ↦ inr (h.0, h.2, λ q. (to, sym h.1 q))
        ];
    others = others;
  }

  -- those chosen have gone
  module _ (from to : N) (us us' : N → List UseIndex) (bs : List Bool) (size : length bs ≡ length (us from)) (at_from : us' from ≡ left_out (us from) bs) (at_to : us' to ≡ us to ++ chosen (us from) bs) where
    abbrev goes : ℕ → N × ℕ
    goes = go_chosen from to (length (us to)) bs

    chosen_placed : (k : ℕ) (u : UseIndex) → slice_get (us from) k ≡ Some u → (b : Option Bool) → slice_get bs k ≡ b → slice_get (us' (goes k).0) (goes k).1 ≡ Some u
    chosen_placed k u at None e = absurd (omega (arith, size, slice_get_within (us from) k u at, none_past bs k e))
    chosen_placed k u at (Some true) e =
        (λ q. let p = goes-chosen from to (length (us to)) bs k (Some true) e q in slice_get (us' p.0) p.1)
        ∙ ap (λ (ws : List UseIndex). slice_get ws (length (us to) + count_yes bs k)) at_to
        ∙ get-behind (us to) (chosen (us from) bs) (count_yes bs k)
        ∙ chosen-at (us from) bs k u at e
    chosen_placed k u at (Some false) e =
        (λ q. let p = goes-chosen from to (length (us to)) bs k (Some false) e q in slice_get (us' p.0) p.1)
        ∙ ap (λ (ws : List UseIndex). slice_get ws (count_no bs k)) at_from
        ∙ left_out-at (us from) bs k u at e

    pub some_move : ((v : N) → ¬ (v ≡ from) → ¬ (v ≡ to) → us' v ≡ us v) → UsesMove from to goes us us'
    some_move others = record {
      placed = λ k u at. chosen_placed k u at (slice_get bs k) refl;
      own = λ j u at. ap (λ (ws : List UseIndex). slice_get ws j) at_to ∙ get-front (us to) (chosen (us from) bs) j u at;
      left = λ j u at.
          let r = left_out-from (us from) bs j u size (ap (λ (ws : List UseIndex). slice_get ws j) (sym at_from) ∙ at) in
          (r.0, r.1, goes-chosen from to (length (us to)) bs r.0 (Some false) r.2 ∙ (λ q. (from, r.3 q)));
      got = λ j u at.
          elim (get-either (us to) (chosen (us from) bs) j u (ap (λ (ws : List UseIndex). slice_get ws j) (sym at_to) ∙ at)) [
            | inl h ↦ inl h
            | inr h ↦
                let r = chosen-from (us from) bs h.0 u h.2 in
                let there : length (us to) + count_yes bs r.0 ≡ j = ap (λ (n : ℕ). length (us to) + n) r.3 ∙ sym h.1 in
                inr (r.0, r.1, goes-chosen from to (length (us to)) bs r.0 (Some true) r.2 ∙ (λ q. (to, there q)))
          ];
      others = others;
    }

-- what the places name, once those of one definition went
module _ {N : Type 0} (tell : (v w : N) → (v ≡ w) ⊎ (¬ (v ≡ w))) (from to : N) (os os' : ArenaIndex → List (UsePlace N)) where
  -- all of them
  pub all_named : (start : ℕ) → Renamed from (go_behind to start) os os' → (passes : N → Bool) → ((v : N) → (passes v ≡ true) ↔ (v ≡ from)) → (o : ArenaIndex) → names_in (os' o) ≡ map (named_by passes to) (names_in (os o))
  all_named start R passes is =
      renamed-names tell from to (go_behind to start) os os' R (λ o. named_by passes to)
      (λ o i a at e. ap (λ (b : Bool). cond b (a.number, to) (number_and_name a)) ((is a.names).1 e))
      (λ o i a at ne. by a (passes a.names) refl ne)
    where
      by : (a : UsePlace N) (b : Bool) → passes a.names ≡ b → ¬ (a.names ≡ from) → named_by passes to (number_and_name a) ≡ number_and_name a
      by a true e ne = absurd (ne ((is a.names).0 e))
      by a false e ne = ap (λ (b : Bool). cond b (a.number, to) (number_and_name a)) e

  -- those whose answer is yes
  module _ (us : N → List UseIndex) (L : LinkedBut NoHole os us) (bs : List Bool) where
    -- a use that is chosen stands for the place that has its number
    stands-for : (o : ArenaIndex) (i : ℕ) (a : UsePlace N) → slice_get (os o) i ≡ Some a → is_chosen (us from) bs (record { user = o; number = a.number }) ≡ true → (a.names ≡ from) × (slice_get bs a.place ≡ Some true)
    stands-for o i a at h =
        let r = is_chosen-from (us from) bs (record { user = o; number = a.number }) h in
        let w = L.backward from r.0 r.1 r.2 in
        let place : UsePlace N = record { number = r.1.number; names = from; place = r.0 } in
        let same = L.distinct r.1.user o w.0 i place a w.1 at (ap (λ (x : Use context_ids). x.number) r.4) in
        let one : a ≡ place = same_Some a place (sym at ∙ (λ q. slice_get (os (sym same.0 q)) (sym same.1 q)) ∙ w.1) in
        (ap (λ (x : UsePlace N). x.names) one, ap (slice_get bs) (ap (λ (x : UsePlace N). x.place) one) ∙ r.3)

    chosen-so : (start : ℕ) (o : ArenaIndex) (i : ℕ) (a : UsePlace N) → slice_get (os o) i ≡ Some a → a.names ≡ from → (b : Bool) → is_chosen (us from) bs (record { user = o; number = a.number }) ≡ b → (c : Option Bool) → slice_get bs a.place ≡ c
        → cond b (a.number, to) (number_and_name a) ≡ (a.number, (by_answer from to start bs a.place c).0)
    chosen-so start o i a at e true h None f = let s = (stands-for o i a at h).1 in absurd (cc)
    chosen-so start o i a at e true h (Some true) f = refl
    chosen-so start o i a at e true h (Some false) f = let s = (stands-for o i a at h).1 in absurd (cc)
    chosen-so start o i a at e false h None f = λ q. (a.number, e q)
    chosen-so start o i a at e false h (Some false) f = λ q. (a.number, e q)
    chosen-so start o i a at e false h (Some true) f =
        let g : slice_get (us from) a.place ≡ Some (record { user = o; number = a.number }) = (λ q. slice_get (us (sym e q)) a.place) ∙ L.forward o i a at (λ (x : ⊥). x) in
        let k : is_chosen (us from) bs (record { user = o; number = a.number }) ≡ true = is_chosen-at (us from) bs a.place (record { user = o; number = a.number }) g f in
        absurd (cc)

    chosen-else : (o : ArenaIndex) (i : ℕ) (a : UsePlace N) → slice_get (os o) i ≡ Some a → ¬ (a.names ≡ from) → (b : Bool) → is_chosen (us from) bs (record { user = o; number = a.number }) ≡ b → cond b (a.number, to) (number_and_name a) ≡ number_and_name a
    chosen-else o i a at ne true h = absurd (ne (stands-for o i a at h).0)
    chosen-else o i a at ne false h = refl

    itself : from ≡ to → (a : UsePlace N) → a.names ≡ from → (b : Bool) → cond b (a.number, to) (number_and_name a) ≡ (a.number, from)
    itself e a is true = λ q. (a.number, sym e q)
    itself e a is false = λ q. (a.number, is q)

    -- where a definition comes to name itself, nothing has to change
    pub some_same : from ≡ to → (o : ArenaIndex) → names_in (os o) ≡ map (renamed (is_chosen (us from) bs) to o) (names_in (os o))
    some_same e =
        renamed-names tell from to (λ p. (from, p)) os os (renamed-none from os) (renamed (is_chosen (us from) bs) to)
        (λ o i a at is. itself e a is (is_chosen (us from) bs (record { user = o; number = a.number })))
        (λ o i a at ne. chosen-else o i a at ne (is_chosen (us from) bs (record { user = o; number = a.number })) refl)

    pub some_named : (start : ℕ) → Renamed from (go_chosen from to start bs) os os' → (o : ArenaIndex) → names_in (os' o) ≡ map (renamed (is_chosen (us from) bs) to o) (names_in (os o))
    some_named start R =
        renamed-names tell from to (go_chosen from to start bs) os os' R (renamed (is_chosen (us from) bs) to)
        (λ o i a at e. chosen-so start o i a at e (is_chosen (us from) bs (record { user = o; number = a.number })) refl (slice_get bs a.place) refl)
        (λ o i a at ne. chosen-else o i a at ne (is_chosen (us from) bs (record { user = o; number = a.number })) refl)

module _ {S N : Type 0} (Live : S → ArenaIndex → Type 0) (ps : S → ArenaIndex → List (UsePlace N)) (put_ps : S → ArenaIndex → List (UsePlace N) → S) (us : S → N → List UseIndex) (put_us : S → N → List UseIndex → S) where
  -- the places of the uses of a definition were renamed so, since lists were taken out of the old state
  pub record Renaming (from : N) (goes : ℕ → N × ℕ) (old opened now : S) : Type 0 where
    pub places : Renamed from goes (ps old) (ps now)
    pub uses : us now ≡ us opened
    pub rest : Rewrites put_ps put_us old now

module _ {S N : Type 0} {Live : S → ArenaIndex → Type 0} {ps : S → ArenaIndex → List (UsePlace N)} {put_ps : S → ArenaIndex → List (UsePlace N) → S} {Has : S → N → Type 0} {us : S → N → List UseIndex} {put_us : S → N → List UseIndex → S} (C : IsUseChain Live ps put_ps Has us put_us) where
  abbrev Linked : S → Type 0
  Linked t = LinkedBut NoHole (ps t) (us t)

  abbrev IsRenaming : N → (ℕ → N × ℕ) → S → S → S → Type 0
  IsRenaming from goes old opened now = Renaming Live ps put_ps us put_us from goes old opened now

  -- one more
  module _ (t r s : S) (from : N) (goes : ℕ → N × ℕ) (k : ℕ) (L : Linked t) (G : IsRenaming from (gone_to from goes k) t r s) (u : UseIndex) (at : slice_get (us t from) k ≡ Some u) where
    pub next_has : IsPlaced (ps s) u
    next_has = use_placed C t L from (gone_to from goes k) s s G.places k u at

    pub next_live : Live s u.user
    next_live = use_live C t L from (gone_to from goes k) s s G.places k u at

    pub next_numbers : HaveDistinctUses (ps s u.user)
    next_numbers = use_numbers C t L from (gone_to from goes k) s s G.places k u at

    pub next_renamed : (z : S) (x : N × ℕ) → x ≡ goes k → z ≡ put_ps s u.user (put_name (ps s u.user) u.number x.0 x.1) → IsRenaming from (gone_to from goes (k + 1)) t r z
    next_renamed z x is e =
        let f : z ≡ put_ps s u.user (put_name (ps s u.user) u.number (goes k).0 (goes k).1) = e ∙ (λ q. put_ps s u.user (put_name (ps s u.user) u.number (is q).0 (is q).1)) in
        record {
          places = renamed-goes from (sent (gone_to from goes k) k (goes k)) (gone_to from goes (k + 1)) (ps t) (ps z) (us t) L (λ p w at_p. gone-more from goes k p) (use_renamed C t L from (gone_to from goes k) s z G.places k u at (goes k) f);
          uses = ap us f ∙ C.uses_stay s u.user (put_name (ps s u.user) u.number (goes k).0 (goes k).1) ∙ G.uses;
          rest = by_places s z u.user (put_name (ps s u.user) u.number x.0 x.1) G.rest e;
        }

  -- all of them
  pub renamed_all : (t r s : S) (from : N) (goes : ℕ → N × ℕ) (k : ℕ) → Linked t → IsRenaming from (gone_to from goes k) t r s → length (us t from) ≤ k → Renamed from goes (ps t) (ps s)
  renamed_all t r s from goes k L G past = renamed-goes from (gone_to from goes k) goes (ps t) (ps s) (us t) L (λ p w at_p. let l = slice_get_within (us t from) p w at_p in gone-all from goes k p (omega (arith, l, past))) G.places

  -- the uses of a definition are taken out, and stand behind those of another: at once where that one has some, and once their places are renamed where it has none
  module _ (t r : S) (from to : N) (L : Linked t) (has_from : Has t from) (has_to : Has t to) (ne : ¬ (from ≡ to)) (taken : r ≡ put_us t from []) where
    taken_rest : Rewrites put_ps put_us t r
    taken_rest = by_uses t r from [] unchanged taken

    pub taken_from : Has r from
    taken_from = rewrites-has C t r from taken_rest has_from

    pub taken_to : Has r to
    taken_to = rewrites-has C t r to taken_rest has_to

    none_left : us r from ≡ []
    none_left = ap (λ (x : S). us x from) taken ∙ C.use_lists.here t from [] has_from

    taken_others : (v : N) → ¬ (v ≡ from) → us r v ≡ us t v
    taken_others v away = ap (λ (x : S). us x v) taken ∙ C.use_lists.others t from [] has_from v away

    pub to_stays : us r to ≡ us t to
    to_stays = taken_others to (λ e. ne (sym e))

    -- what was put back makes the state that it was
    pub given_back : (s z : S) (vs : List UseIndex) → s ≡ r → vs ≡ us t from → z ≡ put_us s from vs → z ≡ t
    given_back s z vs same is e =
        e
        ∙ ap (put_us s from) is
        ∙ ap (λ (x : S). put_us x from (us t from)) (same ∙ taken)
        ∙ C.use_lists.twice t from [] (us t from) has_from
        ∙ C.use_lists.self t from

    -- it is ready
    abbrev with_all : S
    with_all = put_us r to (us r to ++ us t from)

    ready_places : (none : Bool) (s : S) → s ≡ cond none r with_all → ps s ≡ ps t
    ready_places true s ready = ap ps ready ∙ ap ps taken ∙ C.places_stay t from []
    ready_places false s ready = ap ps ready ∙ C.places_stay r to (us r to ++ us t from) ∙ ap ps taken ∙ C.places_stay t from []

    pub ready_rest : (none : Bool) (s : S) → s ≡ cond none r with_all → Rewrites put_ps put_us t s
    ready_rest true s ready = by_uses t s from [] unchanged (ready ∙ taken)
    ready_rest false s ready = by_uses r s to (us r to ++ us t from) taken_rest ready

    -- nothing is renamed yet
    pub ready_renaming : (none : Bool) (s : S) (goes : ℕ → N × ℕ) (k : ℕ) → s ≡ cond none r with_all → k ≡ 0 → IsRenaming from (gone_to from goes k) t s s
    ready_renaming none s goes k ready e = record {
      places = renamed-goes from (λ p. (from, p)) (gone_to from goes k) (ps t) (ps s) (us t) L (λ p w at_p. gone-none from goes p ∙ ap (λ (j : ℕ). gone_to from goes j p) (sym e)) (subst (Renamed from (λ p. (from, p)) (ps t)) (sym (ready_places none s ready)) (renamed-none from (ps t)));
      uses = refl;
      rest = ready_rest none s ready;
    }

    -- the places are renamed
    module _ (s q z : S) (start k : ℕ) (at_start : start ≡ length (us t to)) (G : IsRenaming from (gone_to from (go_behind to start) k) t s q) (past : length (us t from) ≤ k) where
      late_uses : (v : N) → us q v ≡ us s v
      late_uses v = ap (λ (xs : N → List UseIndex). xs v) G.uses

      pub ready_to : Has q to
      ready_to = rewrites-has C t q to G.rest has_to

      all_renamed : ps z ≡ ps q → Renamed from (go_behind to start) (ps t) (ps z)
      all_renamed same = subst (Renamed from (go_behind to start) (ps t)) (sym same) (renamed_all t s q from (go_behind to start) k L G past)

      linked_so : ps z ≡ ps q → us z from ≡ [] → us z to ≡ us t to ++ us t from → ((v : N) → ¬ (v ≡ from) → ¬ (v ≡ to) → us z v ≡ us t v) → Linked z
      linked_so same at_from at_to others =
          renamed-linked C.tell from to (go_behind to start) (ps t) (ps z) (all_renamed same) (us t) (us z) L
          (subst (λ (j : ℕ). UsesMove from to (go_behind to j) (us t) (us z)) (sym at_start) (all_move from to (us t) (us z) at_from at_to others))

      pub all_names : ps z ≡ ps q → (passes : N → Bool) → ((v : N) → (passes v ≡ true) ↔ (v ≡ from)) → (o : ArenaIndex) → names_in (ps z o) ≡ map (named_by passes to) (names_in (ps t o))
      all_names same passes is = all_named C.tell from to (ps t) (ps z) start (all_renamed same) passes is

      -- the other had uses
      pub behind_linked : z ≡ q → s ≡ with_all → Linked z
      behind_linked e ready =
          let now = λ (v : N). ap (λ (x : S). us x v) e ∙ late_uses v ∙ ap (λ (x : S). us x v) ready in
          linked_so (ap ps e)
          (now from ∙ C.use_lists.others r to (us r to ++ us t from) taken_to from ne ∙ none_left)
          (now to ∙ C.use_lists.here r to (us r to ++ us t from) taken_to ∙ ap (λ (xs : List UseIndex). xs ++ us t from) to_stays)
          (λ v away differs. now v ∙ C.use_lists.others r to (us r to ++ us t from) taken_to v differs ∙ taken_others v away)

      -- the other had none
      pub handed_places : z ≡ put_us q to (us t from) → ps z ≡ ps q
      handed_places e = ap ps e ∙ C.places_stay q to (us t from)

      pub handed_linked : z ≡ put_us q to (us t from) → s ≡ r → us t to ≡ [] → Linked z
      handed_linked e ready none =
          let now = λ (v : N) (differs : ¬ (v ≡ to)). ap (λ (x : S). us x v) e ∙ C.use_lists.others q to (us t from) ready_to v differs ∙ late_uses v ∙ ap (λ (x : S). us x v) ready in
          linked_so (handed_places e)
          (now from ne ∙ none_left)
          (ap (λ (x : S). us x to) e ∙ C.use_lists.here q to (us t from) ready_to ∙ ap (λ (xs : List UseIndex). xs ++ us t from) (sym none))
          (λ v away differs. now v differs ∙ taken_others v away)

  -- both lists are taken out
  module _ (t r : S) (from to : N) (L : Linked t) (has_from : Has t from) (has_to : Has t to) (ne : ¬ (from ≡ to)) (opened : r ≡ put_us (put_us t from []) to []) where
    abbrev half : S
    half = put_us t from []

    half_to : Has half to
    half_to = C.use_lists.keeps t from [] to has_to

    -- what was put back makes the state that it was
    pub put_back : (z : S) (ws vs : List UseIndex) → ws ≡ us t to → vs ≡ us t from → z ≡ put_us (put_us r to ws) from vs → z ≡ t
    put_back z ws vs is_to is_from e =
        let same : us half to ≡ us t to = C.use_lists.others t from [] has_from to (λ d. ne (sym d)) in
        let closed : put_us r to ws ≡ half = ap (put_us r to) (is_to ∙ sym same) ∙ ap (λ (x : S). put_us x to (us half to)) opened ∙ C.use_lists.twice half to [] (us half to) half_to ∙ C.use_lists.self half to in
        e
        ∙ ap (put_us (put_us r to ws) from) is_from
        ∙ ap (λ (x : S). put_us x from (us t from)) closed
        ∙ C.use_lists.twice t from [] (us t from) has_from
        ∙ C.use_lists.self t from

    open_rest : Rewrites put_ps put_us t r
    open_rest = by_uses half r to [] (by_uses t half from [] unchanged refl) opened

    pub open_from : Has r from
    open_from = rewrites-has C t r from open_rest has_from

    pub open_to : Has r to
    open_to = rewrites-has C t r to open_rest has_to

    open_places : ps r ≡ ps t
    open_places = ap ps opened ∙ C.places_stay half to [] ∙ C.places_stay t from []

    -- nothing is renamed yet
    pub open_renaming : (goes : ℕ → N × ℕ) (k : ℕ) → k ≡ 0 → IsRenaming from (gone_to from goes k) t r r
    open_renaming goes k e = record {
      places = renamed-goes from (λ p. (from, p)) (gone_to from goes k) (ps t) (ps r) (us t) L (λ p w at_p. gone-none from goes p ∙ ap (λ (j : ℕ). gone_to from goes j p) (sym e)) (subst (Renamed from (λ p. (from, p)) (ps t)) (sym open_places) (renamed-none from (ps t)));
      uses = refl;
      rest = open_rest;
    }

    -- the lists are put back once all places are renamed
    module _ (q z : S) (goes : ℕ → N × ℕ) (k : ℕ) (G : IsRenaming from (gone_to from goes k) t r q) (past : length (us t from) ≤ k) (ws vs : List UseIndex) (e : z ≡ put_us (put_us q to ws) from vs) where
      pub late_from : Has q from
      late_from = rewrites-has C t q from G.rest has_from

      pub late_to : Has q to
      late_to = rewrites-has C t q to G.rest has_to

      middle_from : Has (put_us q to ws) from
      middle_from = C.use_lists.keeps q to ws from late_from

      late_others : (v : N) → ¬ (v ≡ from) → ¬ (v ≡ to) → us q v ≡ us t v
      late_others v away differs =
          ap (λ (xs : N → List UseIndex). xs v) G.uses
          ∙ ap (λ (x : S). us x v) opened
          ∙ C.use_lists.others half to [] half_to v differs
          ∙ C.use_lists.others t from [] has_from v away

      closed_places : ps z ≡ ps q
      closed_places = ap ps e ∙ C.places_stay (put_us q to ws) from vs ∙ C.places_stay q to ws

      closed_from : us z from ≡ vs
      closed_from = ap (λ (x : S). us x from) e ∙ C.use_lists.here (put_us q to ws) from vs middle_from

      closed_to : us z to ≡ ws
      closed_to = ap (λ (x : S). us x to) e ∙ C.use_lists.others (put_us q to ws) from vs middle_from to (λ d. ne (sym d)) ∙ C.use_lists.here q to ws late_to

      closed_others : (v : N) → ¬ (v ≡ from) → ¬ (v ≡ to) → us z v ≡ us t v
      closed_others v away differs = ap (λ (x : S). us x v) e ∙ C.use_lists.others (put_us q to ws) from vs middle_from v away ∙ C.use_lists.others q to ws late_to v differs ∙ late_others v away differs

      closed_renamed : Renamed from goes (ps t) (ps z)
      closed_renamed = subst (Renamed from goes (ps t)) (sym closed_places) (renamed_all t r q from goes k L G past)

      pub closed_rest : Rewrites put_ps put_us t z
      closed_rest = by_uses (put_us q to ws) z from vs (by_uses q (put_us q to ws) to ws G.rest refl) e

      pub closed_linked : UsesMove from to goes (us t) (us z) → Linked z
      closed_linked M = renamed-linked C.tell from to goes (ps t) (ps z) closed_renamed (us t) (us z) L M

    -- those that are chosen do
    module _ (q z : S) (start k : ℕ) (bs : List Bool) (at_start : start ≡ length (us t to)) (G : IsRenaming from (gone_to from (go_chosen from to start bs) k) t r q) (past : length (us t from) ≤ k) (ws vs : List UseIndex) (e : z ≡ put_us (put_us q to ws) from vs) where
      pub some_linked : length bs ≡ length (us t from) → ws ≡ us t to ++ chosen (us t from) bs → vs ≡ left_out (us t from) bs → Linked z
      some_linked size grown rest =
          closed_linked q z (go_chosen from to start bs) k G past ws vs e
          (subst (λ (j : ℕ). UsesMove from to (go_chosen from to j bs) (us t) (us z)) (sym at_start)
          (some_move from to (us t) (us z) bs size (closed_from q z (go_chosen from to start bs) k G past ws vs e ∙ rest) (closed_to q z (go_chosen from to start bs) k G past ws vs e ∙ grown) (closed_others q z (go_chosen from to start bs) k G past ws vs e)))

      pub some_names : (o : ArenaIndex) → names_in (ps z o) ≡ map (renamed (is_chosen (us t from) bs) to o) (names_in (ps t o))
      some_names = some_named C.tell from to (ps t) (ps z) (us t) L bs start (closed_renamed q z (go_chosen from to start bs) k G past ws vs e)
