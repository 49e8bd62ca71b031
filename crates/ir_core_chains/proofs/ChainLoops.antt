-- What holds while places are put in and taken out one by one, whatever is named.
use Rattle.std.proofs.Common.{◌≡◌, ℕ, zero, suc, ◌+◌, ◌-◌, ◌<◌, ◌≤◌, List, [], ◌∷◌, ◌++◌, length, map, take, get_or, All, true, is_ok, Result, Ok, Err, OnOk, OnErr, Some, slice_get, refl, sym, ap, subst, ◌∙◌, inl, inr, arith}
use Rattle.std.specs.List.{remove}
use Rattle.std.specs.Option.{option_map}
use Rattle.std.proofs.Math.Seq.{take-suc}
use Rattle.std.proofs.lemmas.List.{length-map, map-append, length_push, length-take-le, take_all}
use Rattle.std.proofs.lemmas.List.Elements.{All-get_or}
use Rattle.std.proofs.lemmas.Option.{slice_get-map, same_Some}
use Rattle.ir_model.specs.declared.ids.ArenaIndex.{ArenaIndex}
use Rattle.ir_model.proofs.IdCases.{id_cases}
use Rattle.ir_core_records.specs.declared.record.UseIndex.{UseIndex}
use Rattle.ir_core_records.specs.declared.record.UsePlace.{UsePlace}
use Rattle.ir_core_records.specs.Links.{LinkedBut, NoHole, IsFreshUse}
use Rattle.ir_core_chains.specs.Chain.{IsUseChain, Rewrites, unchanged}
use Rattle.ir_core_records.specs.Chains.{number_and_name, names_in, names_from}
use Rattle.ir_core_chains.specs.ListReads.{slice_get-push_cases}
use Rattle.ir_core_chains.specs.ChainEdits.{rewrites-trans, rewrites-live, rewrites-has}

length-remove_last : {T : Type 0} (xs : List T) (k : ℕ) → k < length xs → length (remove xs k) + 1 ≡ length xs
length-remove_last [] k within = absurd (omega arith)
length-remove_last (x ∷ xs) zero within = omega arith
length-remove_last (x ∷ xs) (suc k) within = let e = length-remove_last xs k (omega arith) in omega (arith, e)

pub at_ok : {T E : Type 0} (r : Result T E) (P : Type 0) → is_ok r ≡ true → OnOk r P → P
at_ok (Ok x) P h p = p
at_ok (Err e) P h p = absurd (cc)

-- what follows from a clause of one outcome
pub ok_by : {T E : Type 0} {P Q : Type 0} (r : Result T E) → (P → Q) → OnOk r P → OnOk r Q
ok_by (Ok x) f p = f p
ok_by (Err e) f p = tt

pub err_by : {T E : Type 0} {P Q : Type 0} (r : Result T E) → (P → Q) → OnErr r P → OnErr r Q
err_by (Ok x) f p = tt
err_by (Err e) f p = f p

-- the first k items and one more
map-take_more : {T U : Type 0} (f : T → U) (xs : List T) (k : ℕ) (d : T) → k < length xs → map f (take (k + 1) xs) ≡ map f (take k xs) ++ f (get_or xs k d) ∷ []
map-take_more f xs k d within =
    let next : k + 1 ≡ suc k = omega arith in
    ap (λ n. map f (take n xs)) next ∙ ap (map f) (take-suc xs k d within) ∙ map-append f (take k xs) (get_or xs k d ∷ [])

module _ {N : Type 0} where
  -- the place that a name is of
  named_at : (xs : List (UsePlace N)) (i : ℕ) (y : ℕ × N) → slice_get (names_in xs) i ≡ Some y → (b : UsePlace N) × (slice_get xs i ≡ Some b) × (number_and_name b ≡ y)
  named_at [] i y h = absurd (cc)
  named_at (x ∷ xs) zero y h = (x, refl, same_Some (number_and_name x) y h)
  named_at (x ∷ xs) (suc i) y h = named_at xs i y h

  name_at : (xs : List (UsePlace N)) (i : ℕ) (a : UsePlace N) → slice_get xs i ≡ Some a → slice_get (names_in xs) i ≡ Some (number_and_name a)
  name_at xs i a at = slice_get-map number_and_name xs i ∙ ap (option_map number_and_name) at

  count_by_names : (xs : List (UsePlace N)) (ys : List (ℕ × N)) → names_in xs ≡ ys → length xs ≡ length ys
  count_by_names xs ys e = sym (length-map xs number_and_name) ∙ ap length e

  pub names_from-push : (n : ℕ) (vs : List N) (v : N) → names_from n (vs ++ v ∷ []) ≡ names_from n vs ++ (n + length vs, v) ∷ []
  names_from-push n [] v = let e : n ≡ n + 0 = omega arith in ap (λ (k : ℕ). (k, v) ∷ []) e
  names_from-push n (w ∷ vs) v =
      let e : n + 1 + length vs ≡ n + length (w ∷ vs) = omega arith in
      ap (λ (rest : List (ℕ × N)). (n, w) ∷ rest) (names_from-push (n + 1) vs v ∙ ap (λ (k : ℕ). names_from (n + 1) vs ++ (k, v) ∷ []) e)

  -- fewer places after the last was taken out
  pub popped_count : (xs ys : List (UsePlace N)) → names_in ys ≡ remove (names_in xs) (length xs - 1) → 0 < length xs → length ys < length xs
  popped_count xs ys e some =
      let size : length (names_in xs) ≡ length xs = length-map xs number_and_name in
      let after = count_by_names ys (remove (names_in xs) (length xs - 1)) e in
      let less = length-remove_last (names_in xs) (length xs - 1) (omega (arith, size, some)) in
      omega (arith, size, after, less)

  -- a number is still new once another one was taken
  fresh_after : (ps qs : ArenaIndex → List (UsePlace N)) (o : ArenaIndex) (n : ℕ) (v : N) → names_in (qs o) ≡ names_in (ps o) ++ (n, v) ∷ [] → ((p : ArenaIndex) → ¬ (p ≡ o) → names_in (qs p) ≡ names_in (ps p))
      → (m : ℕ) → ¬ (n ≡ m) → IsFreshUse ps m → IsFreshUse qs m
  fresh_after ps qs o n v here others m differs fresh p i a at same =
      elim (id_cases p o) [
        | inl q ↦
            let now : slice_get (names_in (ps o) ++ (n, v) ∷ []) i ≡ Some (number_and_name a) =
            ap (λ (ys : List (ℕ × N)). slice_get ys i) (sym here) ∙ ap (λ (j : ArenaIndex). slice_get (names_in (qs j)) i) (sym q) ∙ name_at (qs p) i a at in
            elim (slice_get-push_cases (names_in (ps o)) (n, v) i (number_and_name a) now) [
              | inl h ↦ was o h
              | inr h ↦ differs (ap (λ (y : ℕ × N). y.0) h.1 ∙ same)
            ]
        | inr ne ↦ was p (ap (λ (ys : List (ℕ × N)). slice_get ys i) (sym (others p ne)) ∙ name_at (qs p) i a at)
      ]
    where
      was : (j : ArenaIndex) → slice_get (names_in (ps j)) i ≡ Some (number_and_name a) → ⊥
      was j h = let b = named_at (ps j) i (number_and_name a) h in fresh j i b.0 b.1 (ap (λ (y : ℕ × N). y.0) b.2 ∙ same)

module _ {S N : Type 0} (Live : S → ArenaIndex → Type 0) (ps : S → ArenaIndex → List (UsePlace N)) (put_ps : S → ArenaIndex → List (UsePlace N) → S) (us : S → N → List UseIndex) (put_us : S → N → List UseIndex → S) where
  -- places of one operation were put in or taken out, with their uses, and nothing else has changed
  pub record Relinks (old now : S) (o : ArenaIndex) : Type 0 where
    pub linked : LinkedBut NoHole (ps now) (us now)
    pub live : Live now o
    pub others : (p : ArenaIndex) → ¬ (p ≡ o) → names_in (ps now p) ≡ names_in (ps old p)
    pub rest : Rewrites put_ps put_us old now

  -- these were put in, numbered from `first` on
  pub record LinksSome (old now : S) (o : ArenaIndex) (first : ℕ) (vs : List N) : Type 0 where
    pub so_far : Relinks old now o
    pub names : names_in (ps now o) ≡ names_from first vs
    pub fresh : (n : ℕ) → first + length vs ≤ n → IsFreshUse (ps now) n

  -- the first k of these were put in, and `next` is the number of the next one
  pub record LinksFirst {W : Type 0} (name : W → N) (old now : S) (o : ArenaIndex) (first next k : ℕ) (ws : List W) : Type 0 where
    pub number : next ≡ first + k
    pub within : k ≤ length ws
    pub some : LinksSome old now o first (map name (take k ws))

module _ {S N : Type 0} {Live : S → ArenaIndex → Type 0} {ps : S → ArenaIndex → List (UsePlace N)} {put_ps : S → ArenaIndex → List (UsePlace N) → S} {Has : S → N → Type 0} {us : S → N → List UseIndex} {put_us : S → N → List UseIndex → S} (C : IsUseChain Live ps put_ps Has us put_us) where
  abbrev Linked : S → Type 0
  Linked t = LinkedBut NoHole (ps t) (us t)

  abbrev IsRelinked : S → S → ArenaIndex → Type 0
  IsRelinked old now o = Relinks Live ps put_ps us put_us old now o

  abbrev HasSome : S → S → ArenaIndex → ℕ → List N → Type 0
  HasSome old now o first vs = LinksSome Live ps put_ps us put_us old now o first vs

  pub relinks-start : (t s : S) (o : ArenaIndex) → s ≡ t → Linked t → Live t o → IsRelinked t s o
  relinks-start t s o same linked live = subst (λ (r : S). IsRelinked t r o) (sym same) (record { linked = linked; live = live; others = λ p ne. refl; rest = unchanged })

  pub relinks-step : (old t s : S) (o : ArenaIndex) → IsRelinked old t o → Linked s → ((p : ArenaIndex) → ¬ (p ≡ o) → names_in (ps s p) ≡ names_in (ps t p)) → Rewrites put_ps put_us t s → IsRelinked old s o
  relinks-step old t s o so_far linked others rest = record {
    linked = linked;
    live = rewrites-live C t s o rest so_far.live;
    others = λ p ne. others p ne ∙ so_far.others p ne;
    rest = rewrites-trans C old t s so_far.rest rest;
  }

  links-start : (t s : S) (o : ArenaIndex) (first : ℕ) → s ≡ t → Linked t → Live t o → ps t o ≡ [] → ((n : ℕ) → first ≤ n → IsFreshUse (ps t) n) → HasSome t s o first []
  links-start t s o first same linked live bare fresh = record {
    so_far = relinks-start t s o same linked live;
    names = ap (λ (r : S). names_in (ps r o)) same ∙ ap names_in bare;
    fresh = λ n from. subst (λ (r : S). IsFreshUse (ps r) n) (sym same) (fresh n (omega (arith, from)));
  }

  links-step : (old t s : S) (o : ArenaIndex) (first n : ℕ) (vs : List N) (v : N) → HasSome old t o first vs → n ≡ first + length vs → Linked s
      → names_in (ps s o) ≡ names_in (ps t o) ++ (n, v) ∷ [] → ((p : ArenaIndex) → ¬ (p ≡ o) → names_in (ps s p) ≡ names_in (ps t p)) → Rewrites put_ps put_us t s → HasSome old s o first (vs ++ v ∷ [])
  links-step old t s o first n vs v some number linked here others rest = record {
    so_far = relinks-step old t s o some.so_far linked others rest;
    names = here
        ∙ ap (λ (ys : List (ℕ × N)). ys ++ (n, v) ∷ []) some.names
        ∙ ap (λ (k : ℕ). names_from first vs ++ (k, v) ∷ []) number
        ∙ sym (names_from-push first vs v);
    fresh = λ m from. fresh_after (ps t) (ps s) o n v here others m (λ same. absurd (omega (arith, same, number, from, length_push vs v))) (some.fresh m (omega (arith, from, length_push vs v)));
  }

  module _ {W : Type 0} (name : W → N) where
    abbrev HasFirst : S → S → ArenaIndex → ℕ → ℕ → ℕ → List W → Type 0
    HasFirst old now o first next k ws = LinksFirst Live ps put_ps us put_us name old now o first next k ws

    length-first : (ws : List W) (k : ℕ) → k ≤ length ws → length (map name (take k ws)) ≡ k
    length-first ws k within = length-map (take k ws) name ∙ length-take-le k ws within

    pub first-start : (t s : S) (o : ArenaIndex) (first : ℕ) (ws : List W) → s ≡ t → Linked t → Live t o → ps t o ≡ [] → ((n : ℕ) → first ≤ n → IsFreshUse (ps t) n) → HasFirst t s o first first 0 ws
    first-start t s o first ws same linked live bare fresh = record {
      number = omega arith;
      within = omega arith;
      some = links-start t s o first same linked live bare fresh;
    }

    pub first-step : (old t s : S) (o : ArenaIndex) (first n k : ℕ) (ws : List W) (w : W) (v : N) → HasFirst old t o first n k ws → k < length ws → v ≡ name (get_or ws k w) → Linked s
        → names_in (ps s o) ≡ names_in (ps t o) ++ (n, v) ∷ [] → ((p : ArenaIndex) → ¬ (p ≡ o) → names_in (ps s p) ≡ names_in (ps t p)) → Rewrites put_ps put_us t s → HasFirst old s o first (n + 1) (k + 1) ws
    first-step old t s o first n k ws w v it within is linked here others rest =
        let size = length-first ws k it.within in
        let next = links-step old t s o first n (map name (take k ws)) v it.some (omega (arith, size, it.number)) linked here others rest in
        let more : map name (take k ws) ++ v ∷ [] ≡ map name (take (k + 1) ws) = ap (λ (x : N). map name (take k ws) ++ x ∷ []) is ∙ sym (map-take_more name ws k w within) in
        record {
          number = omega (arith, it.number);
          within = omega (arith, within);
          some = subst (HasSome old s o first) more next;
        }

    pub first-named : (old t : S) (o : ArenaIndex) (first n k : ℕ) (ws : List W) (w : W) (v : N) → HasFirst old t o first n k ws → k < length ws → v ≡ name (get_or ws k w) → All (λ x. Has old (name x)) ws → Has t v
    first-named old t o first n k ws w v it within is all = subst (Has t) (sym is) (rewrites-has C old t (name (get_or ws k w)) it.some.so_far.rest (All-get_or (λ x. Has old (name x)) ws k w within all))

    pub first-fresh : (old t : S) (o : ArenaIndex) (first n k : ℕ) (ws : List W) → HasFirst old t o first n k ws → IsFreshUse (ps t) n
    first-fresh old t o first n k ws it = it.some.fresh n (omega (arith, length-first ws k it.within, it.number))

    pub first-end : (old t : S) (o : ArenaIndex) (first n k : ℕ) (ws : List W) → HasFirst old t o first n k ws → length ws ≤ k → names_in (ps t o) ≡ names_from first (map name ws)
    first-end old t o first n k ws it done = it.some.names ∙ ap (λ (vs : List W). names_from first (map name vs)) (take_all k ws done)
