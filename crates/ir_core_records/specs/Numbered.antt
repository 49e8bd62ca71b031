-- Items of a list found and written by number.
use Rattle.std.proofs.Common.{◌≡◌, ℕ, zero, suc, ◌<◌, ◌≤◌, ◌==◌, List, [], ◌∷◌, length, get_or, set, Some, None, slice_get, Bool, true, false, cond, eqb, ltb, refl, sym, ap, ◌∙◌, inl, inr, arith, position, not}
use Rattle.std.specs.List.{position_or_len}
use Rattle.std.proofs.lemmas.Bool.{cases_eq, eq-eqb, ne_eqb, ltb-false, not-true, false≢true}
use Rattle.std.proofs.lemmas.Option.{slice_get_within, get_or_from_slice_get, slice_get-get_or, same_Some}
use Rattle.std.proofs.lemmas.List.Sums.{prefix_len_passes}
use Rattle.std.proofs.lemmas.List.Quantifiers.{position-Some}
use Rattle.ir_core_records.specs.declared.record.UseIndex.{UseIndex}
use Rattle.ir_core_records.specs.declared.record.UsePlace.{UsePlace}
use Rattle.ir_core_records.specs.declared.record.Definition.{Definition}
use Rattle.ir_core_records.specs.Lists.{uses_with, put_uses, put_place, HasNumber}

pub position-None : {X : Type 0} (p : X → Bool) (xs : List X) (k : ℕ) (x : X) → position p xs ≡ None → slice_get xs k ≡ Some x → p x ≡ false
position-None p xs k x none at =
    let within = slice_get_within xs k x at in
    let past : length xs ≤ position_or_len p xs = ltb-false _ _ (cond_none (ltb (position_or_len p xs) (length xs)) _ none) in
    let passes = prefix_len_passes (λ y. not (p y)) xs k x (omega arith) in
    let e = get_or_from_slice_get xs k x x at in
    sym (ap p e) ∙ not-true _ passes
  where
    cond_none : (b : Bool) (i : ℕ) → cond b (Some i) None ≡ None → b ≡ false
    cond_none true i h = cc
    cond_none false i h = refl

-- the write of a use list, by place and by number
put_uses-first : (rs : List Definition) (n i : ℕ) (r : Definition) (us : List UseIndex) → slice_get rs i ≡ Some r → r.number == n ≡ true → ((k : ℕ) → k < i → (get_or rs k r).number == n ≡ false) → set rs i (record r { uses = us }) ≡ put_uses rs n us
put_uses-first [] n i r us h e f = cc
put_uses-first (x ∷ rs) n zero r us h e f = let s = same_Some x r h in rw (s, e) refl
put_uses-first (x ∷ rs) n (suc i) r us h e f = rw (f 0 (omega arith)) (ap (λ y. x ∷ y) (put_uses-first rs n i r us h e (λ k l. f (suc k) (omega arith))))

uses_with-first : (rs : List Definition) (n i : ℕ) (r : Definition) → slice_get rs i ≡ Some r → r.number == n ≡ true → ((k : ℕ) → k < i → (get_or rs k r).number == n ≡ false) → r.uses ≡ uses_with rs n
uses_with-first [] n i r h e f = cc
uses_with-first (x ∷ rs) n zero r h e f = let s = same_Some x r h in rw (s, e) refl
uses_with-first (x ∷ rs) n (suc i) r h e f = rw (f 0 (omega arith)) (uses_with-first rs n i r h e (λ k l. f (suc k) (omega arith)))

pub put_uses-at : (rs : List Definition) (n i : ℕ) (r : Definition) (us : List UseIndex) → slice_get rs i ≡ Some r → position (λ (x : Definition). x.number == n) rs ≡ Some i → set rs i (record r { uses = us }) ≡ put_uses rs n us
put_uses-at rs n i r us h at =
    let p = position-Some (λ (x : Definition). x.number == n) rs i r at in
    let e = get_or_from_slice_get rs i r r h in
    put_uses-first rs n i r us h (rw e at p.1) p.2

pub uses_with-at : (rs : List Definition) (n i : ℕ) (r : Definition) → slice_get rs i ≡ Some r → position (λ (x : Definition). x.number == n) rs ≡ Some i → r.uses ≡ uses_with rs n
uses_with-at rs n i r h at =
    let p = position-Some (λ (x : Definition). x.number == n) rs i r at in
    let e = get_or_from_slice_get rs i r r h in
    uses_with-first rs n i r h (rw e at p.1) p.2

pub has_number-found : (rs : List Definition) (n : ℕ) → HasNumber rs n → position (λ (x : Definition). x.number == n) rs ≡ None → ⊥
has_number-found rs n h none = false≢true (sym (position-None (λ (x : Definition). x.number == n) rs h.0 h.1 none h.2) ∙ eq-eqb h.1.number n h.3)

-- the write of a place, by place in the list and by number
put_place-first : {N : Type 0} (xs : List (UsePlace N)) (n k i : ℕ) (a : UsePlace N) → slice_get xs i ≡ Some a → a.number == n ≡ true → ((j : ℕ) → j < i → (get_or xs j a).number == n ≡ false) → set xs i (record a { place = k }) ≡ put_place xs n k
put_place-first {N} [] n k i a h e f = cc
put_place-first {N} (x ∷ xs) n k zero a h e f = let s = same_Some x a h in rw (s, e) refl
put_place-first {N} (x ∷ xs) n k (suc i) a h e f = rw (f 0 (omega arith)) (ap (λ y. x ∷ y) (put_place-first xs n k i a h e (λ j l. f (suc j) (omega arith))))

pub put_place-at : {N : Type 0} (xs : List (UsePlace N)) (n k i : ℕ) (a : UsePlace N) → slice_get xs i ≡ Some a → position (λ (x : UsePlace N). x.number == n) xs ≡ Some i → set xs i (record a { place = k }) ≡ put_place xs n k
put_place-at {N} xs n k i a h at =
    let p = position-Some (λ (x : UsePlace N). x.number == n) xs i a at in
    let e = get_or_from_slice_get xs i a a h in
    put_place-first xs n k i a h (rw e at p.1) p.2

pub put_place-set : {N : Type 0} (xs : List (UsePlace N)) (n k i : ℕ) (a : UsePlace N) → slice_get xs i ≡ Some a → a.number ≡ n → ((j : ℕ) (b : UsePlace N) → slice_get xs j ≡ Some b → b.number ≡ n → j ≡ i) → put_place xs n k ≡ set xs i (record a { place = k })
put_place-set {N} xs n k i a h e only =
    sym (put_place-first xs n k i a h (eq-eqb a.number n e) (λ j l. ne_eqb (get_or xs j a).number n (λ q. absurd (let w = slice_get_within xs i a h in omega (arith, only j (get_or xs j a) (slice_get-get_or xs j a (omega arith)) q)))))

pub has_place-found : {N : Type 0} (xs : List (UsePlace N)) (n i : ℕ) (a : UsePlace N) → slice_get xs i ≡ Some a → a.number ≡ n → position (λ (x : UsePlace N). x.number == n) xs ≡ None → ⊥
has_place-found {N} xs n i a h e none = false≢true (sym (position-None (λ (x : UsePlace N). x.number == n) xs i a none h) ∙ eq-eqb a.number n e)

-- the uses kept with a number, after a write
pub uses_with-put_same : (rs : List Definition) (n i : ℕ) (r : Definition) (us : List UseIndex) → slice_get rs i ≡ Some r → r.number ≡ n → uses_with (put_uses rs n us) n ≡ us
uses_with-put_same [] n i r us h e = absurd (cc)
uses_with-put_same (x ∷ rs) n zero r us h e =
    let hit : x.number == n ≡ true = eq-eqb x.number n (ap (λ (y : Definition). y.number) (same_Some x r h) ∙ e) in
    rw (hit, hit) refl
uses_with-put_same (x ∷ rs) n (suc i) r us h e =
    elim (cases_eq x.number n) [
      | inl q ↦ let hit : x.number == n ≡ true = eq-eqb x.number n q in rw (hit, hit) refl
      | inr q ↦ let miss : x.number == n ≡ false = ne_eqb x.number n q in rw (miss, miss) (uses_with-put_same rs n i r us h e)
    ]

pub uses_with-put_other : (rs : List Definition) (n m : ℕ) (us : List UseIndex) → ¬ (m ≡ n) → uses_with (put_uses rs n us) m ≡ uses_with rs m
uses_with-put_other [] n m us ne = refl
uses_with-put_other (x ∷ rs) n m us ne =
    elim (cases_eq x.number n) [
      | inl q ↦
          let hit : x.number == n ≡ true = eq-eqb x.number n q in
          let miss : x.number == m ≡ false = ne_eqb x.number m (λ e. ne (sym e ∙ q)) in
          rw (hit, miss) refl
      | inr q ↦
          let miss : x.number == n ≡ false = ne_eqb x.number n q in
          rw miss (ap (λ (us : List UseIndex). cond (eqb x.number m) x.uses us) (uses_with-put_other rs n m us ne))
    ]

pub put_uses-self : (rs : List Definition) (n : ℕ) → put_uses rs n (uses_with rs n) ≡ rs
put_uses-self [] n = refl
put_uses-self (x ∷ rs) n =
    elim (cases_eq x.number n) [
      | inl q ↦ let hit : x.number == n ≡ true = eq-eqb x.number n q in rw hit refl
      | inr q ↦ let miss : x.number == n ≡ false = ne_eqb x.number n q in rw miss (ap (λ ys. x ∷ ys) (put_uses-self rs n))
    ]

put_uses-keeps : (rs : List Definition) (m : ℕ) (us : List UseIndex) (i : ℕ) (r : Definition) → slice_get rs i ≡ Some r → (s : Definition) × (slice_get (put_uses rs m us) i ≡ Some s) × (s.number ≡ r.number)
put_uses-keeps [] m us i r h = absurd (cc)
put_uses-keeps (x ∷ rs) m us zero r h =
    let same = same_Some x r h in
    elim (cases_eq x.number m) [
      | inl q ↦ (record x { uses = us }, rw (eq-eqb x.number m q) refl, ap (λ (y : Definition). y.number) same)
      | inr q ↦ (x, rw (ne_eqb x.number m q) refl, ap (λ (y : Definition). y.number) same)
    ]
put_uses-keeps (x ∷ rs) m us (suc i) r h =
    elim (cases_eq x.number m) [
      | inl q ↦ (r, rw (eq-eqb x.number m q) h, refl)
      | inr q ↦ let s = put_uses-keeps rs m us i r h in (s.0, rw (ne_eqb x.number m q) s.1, s.2)
    ]

pub put_uses-number : (rs : List Definition) (m : ℕ) (us : List UseIndex) (n : ℕ) → HasNumber rs n → HasNumber (put_uses rs m us) n
put_uses-number rs m us n h = let s = put_uses-keeps rs m us h.0 h.1 h.2 in (h.0, s.0, s.1, s.2 ∙ h.3)

-- a use stands in the list of a result
pub used_with : (rs : List Definition) (n k : ℕ) (u : UseIndex) → slice_get (uses_with rs n) k ≡ Some u → HasNumber rs n
used_with [] n k u h = absurd (cc)
used_with (x ∷ rs) n k u h =
    elim (cases_eq x.number n) [
      | inl q ↦ (0, x, refl, q)
      | inr q ↦
          let miss : x.number == n ≡ false = ne_eqb x.number n q in
          let later = used_with rs n k u (rw miss at h) in
          (suc later.0, later.1, later.2, later.3)
    ]

pub put_uses-twice : (rs : List Definition) (n : ℕ) (us vs : List UseIndex) → put_uses (put_uses rs n us) n vs ≡ put_uses rs n vs
put_uses-twice [] n us vs = refl
put_uses-twice (x ∷ rs) n us vs =
    elim (cases_eq x.number n) [
      | inl q ↦ let hit : x.number == n ≡ true = eq-eqb x.number n q in rw (hit, hit) refl
      | inr q ↦ let miss : x.number == n ≡ false = ne_eqb x.number n q in rw (miss, miss) (ap (λ ys. x ∷ ys) (put_uses-twice rs n us vs))
    ]
