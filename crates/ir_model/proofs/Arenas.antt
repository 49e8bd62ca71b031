-- What a caller of `Arena` may cite: what each change does to what stands under an id, and which ids were handed out.
use Rattle.std.proofs.Common.{◌≡◌, ◌≢◌, ◌⊎◌, ◌↔◌, ℕ, zero, suc, ◌+◌, ◌*◌, ◌-◌, ◌<◌, ◌≤◌, ◌||◌, nat_eq, Bool, true, false, List, [], map, length, Some, None, is_some, IsTrue, refl, sym, ap, subst, ◌∙◌, inl, inr, arith, true≢false}
use Rattle.std.proofs.Math.ListN.{get_or-map}
use Rattle.std.proofs.lemmas.Bool.Decides.{eqb_tells}
use Rattle.std.proofs.lemmas.Bool.{cases_eq, eq-eqb}
use Rattle.ir_model.specs.declared.ids.ArenaIndex.{ArenaIndex}
use Rattle.ir_model.specs.declared.ids.Limits.{Limits}
use Rattle.ir_model.specs.Sessions.{IsNewId}
use Rattle.ir_model.specs.Slots.{Slot, had_version, never, slot_in, slot_at, put_slot}
use Rattle.ir_model.specs.Arenas.{Arena, IsInRange, empty, get, IsLiveIn, IsNextVersion, IsNew, IsWhole, is_passed, fill, cleared, cut, emptied, miss}
use Rattle.ir_model.proofs.Slots.{taken_at, slot_at-place, slot_at-next, length-put, at-put_same, at-put_other, at_zero, at_past, find_vacant, find-put_same, find-put_other}

-- the versions that a slot had
pub had-within : (n v : ℕ) → had_version n v ≡ true → (1 ≤ v) × (v ≤ n)
unfolding had_version
had-within zero v had = absurd (true≢false (sym had))
had-within (suc zero) v had =
    elim (eqb_tells v 1) [
      | inl eq ↦ (omega (arith, eq.1), omega (arith, eq.1))
      | inr ne ↦ absurd (true≢false (sym had ∙ ne.0))
    ]
had-within (suc (suc n)) v had =
    elim (eqb_tells v (suc (suc n))) [
      | inl eq ↦ (omega (arith, eq.1), omega (arith, eq.1))
      | inr ne ↦
          let later = had-within n v (sym (ap (λ b. b || had_version n v) ne.0) ∙ had) in
          (later.0, omega (arith, later.1))
    ]

-- a slot had the version that it has
pub had-itself : (n : ℕ) → 1 ≤ n → had_version n n ≡ true
unfolding had_version
had-itself zero some = absurd (omega arith)
had-itself (suc zero) some = refl
had-itself (suc (suc n)) some = ap (λ b. b || had_version n (suc (suc n))) (eq-eqb (suc (suc n)) (suc (suc n)) refl)

-- any other version that a slot had is two below at least
pub had-below : (n v : ℕ) → had_version n v ≡ true → (v ≡ n) ⊎ (v + 2 ≤ n)
unfolding had_version
had-below zero v had = absurd (true≢false (sym had))
had-below (suc zero) v had =
    elim (eqb_tells v 1) [ inl eq ↦ inl eq.1 | inr ne ↦ absurd (true≢false (sym had ∙ ne.0)) ]
had-below (suc (suc n)) v had =
    elim (eqb_tells v (suc (suc n))) [
      | inl eq ↦ inl eq.1
      | inr ne ↦ inr (omega (arith, (had-within n v (sym (ap (λ b. b || had_version n v) ne.0) ∙ had)).1))
    ]

by_definition : (m v : ℕ) → had_version (suc (suc m)) v ≡ (nat_eq v (suc (suc m)) || had_version m v)
unfolding had_version
by_definition m v = refl

-- the next version joins those that the slot had
had-next : (n v : ℕ) → had_version (n + 2) v ≡ (nat_eq v (n + 2) || had_version n v)
had-next n v = subst (λ m. had_version m v ≡ (nat_eq v m || had_version n v)) (omega arith) (by_definition n v)

had-first : (v : ℕ) → had_version 1 v ≡ nat_eq v 1
unfolding had_version
had-first v = refl

had-none : (v : ℕ) → had_version 0 v ≡ false
unfolding had_version
had-none v = refl

-- the versions that a slot had are those from 1 to its own that differ from it by an even number
had-even : (n v : ℕ) → had_version n v ≡ true → (k : ℕ) × (n ≡ v + 2 * k)
unfolding had_version
had-even zero v had = absurd (true≢false (sym had))
had-even (suc zero) v had =
    elim (eqb_tells v 1) [ inl eq ↦ (0, omega (arith, eq.1)) | inr ne ↦ absurd (true≢false (sym had ∙ ne.0)) ]
had-even (suc (suc n)) v had =
    elim (eqb_tells v (suc (suc n))) [
      | inl eq ↦ (0, omega (arith, eq.1))
      | inr ne ↦
          let later = had-even n v (sym (ap (λ b. b || had_version n v) ne.0) ∙ had) in
          (later.0 + 1, omega (arith, later.1))
    ]

or_true : (b : Bool) → (b || true) ≡ true
or_true true = refl
or_true false = refl

even-had : (v k : ℕ) → 1 ≤ v → had_version (v + 2 * k) v ≡ true
even-had v zero some = rw (plus_none v) (had-itself v some)
  where
    plus_none : (m : ℕ) → m + 2 * 0 ≡ m
    plus_none m = omega arith
even-had v (suc k) some =
    let more : v + 2 * suc k ≡ (v + 2 * k) + 2 = omega arith in
    ap (λ m. had_version m v) more ∙ had-next (v + 2 * k) v ∙ ap (λ b. nat_eq v (v + 2 * k + 2) || b) (even-had v k some) ∙ or_true (nat_eq v (v + 2 * k + 2))

pub had-exact : (n v : ℕ) → IsTrue (had_version n v) ↔ ((1 ≤ v) × ((k : ℕ) × (n ≡ v + 2 * k)))
had-exact n v = (λ had. ((had-within n v had).0, had-even n v had), λ even. ap (λ m. had_version m v) even.1.1 ∙ even-had v even.1.0 even.0)

pub same_id : (p q : ArenaIndex) → p.slot ≡ q.slot → p.version ≡ q.version → p ≡ q
same_id p q slot version = λ i. record { slot = slot i; version = version i }

empty_at : (T : Type 0) (n : ℕ) → slot_at {T = T} [] n ≡ never
empty_at T zero = at_zero []
empty_at T (suc k) = at_past [] (suc k) (omega arith)

-- an empty arena has nothing under any id, and has handed out none
pub get-empty : (T : Type 0) (limit last : ℕ) (q : ArenaIndex) → get {T = T} (empty limit last) q ≡ None
get-empty T limit last q = find_vacant [] q (ap (λ s. s.item) (empty_at T q.slot))

pub passed-empty : (T : Type 0) (limit last : ℕ) (q : ArenaIndex) → is_passed {T = T} (empty limit last) q ≡ false
passed-empty T limit last q = ap (λ s. had_version s.version q.version) (empty_at T q.slot) ∙ had-none q.version

pub whole-empty : (T : Type 0) (limit last : ℕ) → IsWhole {T = T} (empty limit last)
whole-empty T limit last = record { within = omega arith; versions = λ k below. absurd (omega (arith, below)) }

module _ {T : Type 0} where
  -- the id of a write is that of a live record, or new: then each other record stays
  pub record IsOpen (a : Arena T) (id : ArenaIndex) : Type 0 where
    pub numbered : 1 ≤ id.slot
    pub within : id.slot ≤ length a.slots + 1
    pub was : ((slot_at a.slots id.slot).version ≡ id.version) ⊎ ((slot_at a.slots id.slot).item ≡ None)

  pub open_live : (a : Arena T) (id : ArenaIndex) → IsLiveIn a id → IsOpen a id
  open_live a id live =
      let taken = taken_at a.slots id live in
      record {
        numbered = taken.numbered;
        within = omega (arith, taken.within);
        was = inl (ap (λ s. s.version) (slot_at-place a.slots id.slot taken.numbered) ∙ taken.version);
      }

  pub open_new : (a : Arena T) (id : ArenaIndex) → IsNew a id → IsOpen a id
  open_new a id new = record { numbered = new.numbered; within = within_of new.version; was = inr new.vacant }
    where
      within_of : IsNextVersion a id → id.slot ≤ length a.slots + 1
      within_of (inl end) = omega (arith, end.0)
      within_of (inr reused) = omega (arith, reused.0)

  -- a live id has a slot, which counts from 1
  pub live-numbered : (a : Arena T) (id : ArenaIndex) → IsLiveIn a id → 1 ≤ id.slot
  live-numbered a id live = (open_live a id live).numbered

  -- nothing stands under a new id
  pub get-new : (a : Arena T) (id : ArenaIndex) → IsNew a id → get a id ≡ None
  get-new a id new = find_vacant a.slots id new.vacant

  -- what was stored under an id stands there
  pub get-fill_live : (a : Arena T) (id : ArenaIndex) (v : T) → IsLiveIn a id → get (fill a id v) id ≡ Some v
  get-fill_live a id v live =
      let at = open_live a id live in
      find-put_same a.slots id (record { version = id.version; item = Some v }) refl at.numbered at.within

  pub get-fill_new : (a : Arena T) (id : ArenaIndex) (v : T) → IsNew a id → get (fill a id v) id ≡ Some v
  get-fill_new a id v new =
      let at = open_new a id new in
      find-put_same a.slots id (record { version = id.version; item = Some v }) refl at.numbered at.within

  -- and each other id keeps what it had
  pub get-fill_live_other : (a : Arena T) (id q : ArenaIndex) (v : T) → IsLiveIn a id → q ≢ id → get (fill a id v) q ≡ get a q
  get-fill_live_other a id q v live differs =
      let at = open_live a id live in
      find-put_other a.slots id q (record { version = id.version; item = Some v }) refl at.numbered at.within at.was differs

  pub get-fill_new_other : (a : Arena T) (id q : ArenaIndex) (v : T) → IsNew a id → q ≢ id → get (fill a id v) q ≡ get a q
  get-fill_new_other a id q v new differs =
      let at = open_new a id new in
      find-put_other a.slots id q (record { version = id.version; item = Some v }) refl at.numbered at.within at.was differs

  -- nothing stands under an id whose record was taken out, and each other id keeps what it had
  pub get-cut : (a : Arena T) (id : ArenaIndex) → IsLiveIn a id → get (cut a id) id ≡ None
  get-cut a id live =
      let at = open_live a id live in
      find-put_same a.slots id (record { version = id.version; item = None }) refl at.numbered at.within

  pub get-cut_other : (a : Arena T) (id q : ArenaIndex) → IsLiveIn a id → q ≢ id → get (cut a id) q ≡ get a q
  get-cut_other a id q live differs =
      let at = open_live a id live in
      find-put_other a.slots id q (record { version = id.version; item = None }) refl at.numbered at.within at.was differs

  -- a removal that finds nothing leaves each id as it was
  pub get-miss : (a : Arena T) (q : ArenaIndex) → get (miss a) q ≡ get a q
  get-miss a q = refl

  emptied-at : (slots : List (Slot T)) (n : ℕ) → slot_at (map emptied slots) n ≡ emptied (slot_at slots n)
  unfolding slot_at
  emptied-at slots zero = refl
  emptied-at slots (suc k) = get_or-map emptied slots k never

  -- nothing stands in a cleared arena, and what was handed out stays so
  pub get-cleared : (a : Arena T) (q : ArenaIndex) → get (cleared a) q ≡ None
  get-cleared a q = find_vacant (map emptied a.slots) q (ap (λ s. s.item) (emptied-at a.slots q.slot))

  pub passed-cleared : (a : Arena T) (q : ArenaIndex) → is_passed (cleared a) q ≡ is_passed a q
  passed-cleared a q = ap (λ s. had_version s.version q.version) (emptied-at a.slots q.slot)

  -- one slot has one live id at most
  pub live-unique : (a : Arena T) (p q : ArenaIndex) → IsLiveIn a p → IsLiveIn a q → p.slot ≡ q.slot → p ≡ q
  live-unique a p q live_p live_q same =
      let at_p = (taken_at a.slots p live_p).version in
      let at_q = (taken_at a.slots q live_q).version in
      same_id p q same (sym at_p ∙ ap (λ n. (slot_in a.slots (n - 1)).version) same ∙ at_q)

  passed-same : (a : Arena T) (id q : ArenaIndex) (s : Slot T) → IsLiveIn a id → s.version ≡ id.version → had_version (slot_at (put_slot a.slots id.slot s) q.slot).version q.version ≡ is_passed a q
  passed-same a id q s live same =
      let at = open_live a id live in
      let taken = taken_at a.slots id live in
      elim (cases_eq q.slot id.slot) [
        | inl here ↦
            let after : (slot_at (put_slot a.slots id.slot s) q.slot).version ≡ id.version = ap (λ n. (slot_at (put_slot a.slots id.slot s) n).version) here ∙ ap (λ x. x.version) (at-put_same a.slots id.slot s at.numbered at.within) ∙ same in
            let before : (slot_at a.slots q.slot).version ≡ id.version = ap (λ n. (slot_at a.slots n).version) here ∙ ap (λ x. x.version) (slot_at-place a.slots id.slot taken.numbered) ∙ taken.version in
            ap (λ n. had_version n q.version) (after ∙ sym before)
        | inr there ↦ ap (λ x. had_version x.version q.version) (at-put_other a.slots id.slot q.slot s at.numbered at.within there)
      ]

  -- a write under a live id and a removal hand out no id
  pub passed-fill_live : (a : Arena T) (id q : ArenaIndex) (v : T) → IsLiveIn a id → is_passed (fill a id v) q ≡ is_passed a q
  passed-fill_live a id q v live = passed-same a id q (record { version = id.version; item = Some v }) live refl

  pub passed-cut : (a : Arena T) (id q : ArenaIndex) → IsLiveIn a id → is_passed (cut a id) q ≡ is_passed a q
  passed-cut a id q live = passed-same a id q (record { version = id.version; item = None }) live refl

  pub passed-miss : (a : Arena T) (q : ArenaIndex) → is_passed (miss a) q ≡ is_passed a q
  passed-miss a q = refl

  -- a new id was not handed out, and after an insertion it alone has joined those that were
  pub passed-new : (a : Arena T) (id : ArenaIndex) → IsNew a id → is_passed a id ≡ false
  passed-new a id new = by_version new.version
    where
      by_version : IsNextVersion a id → is_passed a id ≡ false
      by_version (inl end) = ap (λ s. had_version s.version id.version) (at_past a.slots id.slot (omega (arith, end.0))) ∙ had-none id.version
      by_version (inr reused) = past (is_passed a id) refl
        where
          past : (b : Bool) → is_passed a id ≡ b → is_passed a id ≡ false
          past true had = absurd (omega (arith, (had-within (slot_at a.slots id.slot).version id.version had).1, reused.2))
          past false had = had

  passed-fill_at : (a : Arena T) (id : ArenaIndex) (w : ℕ) → IsNew a id → had_version id.version w ≡ (nat_eq w id.version || had_version (slot_at a.slots id.slot).version w)
  passed-fill_at a id w new = by_version new.version
    where
      or_false : (b : Bool) → b ≡ (b || false)
      or_false true = refl
      or_false false = refl

      by_version : IsNextVersion a id → had_version id.version w ≡ (nat_eq w id.version || had_version (slot_at a.slots id.slot).version w)
      by_version (inl end) = rw (end.1, at_past a.slots id.slot (omega (arith, end.0)), had-first, had-none) (or_false (nat_eq w 1))
      by_version (inr reused) = rw reused.2 (had-next (slot_at a.slots id.slot).version w)

  pub passed-fill_new : (a : Arena T) (id q : ArenaIndex) (v : T) → IsNew a id → IsTrue (is_passed (fill a id v) q) ↔ (IsTrue (is_passed a q) ⊎ (q ≡ id))
  passed-fill_new a id q v new =
      let at = open_new a id new in
      elim (cases_eq q.slot id.slot) [
        | inl here ↦
            let after : is_passed (fill a id v) q ≡ had_version id.version q.version = ap (λ n. had_version (slot_at (fill a id v).slots n).version q.version) here ∙ ap (λ s. had_version s.version q.version) (at-put_same a.slots id.slot (record { version = id.version; item = Some v }) at.numbered at.within) in
            let before : is_passed a q ≡ had_version (slot_at a.slots id.slot).version q.version = ap (λ n. had_version (slot_at a.slots n).version q.version) here in
            rw (after, before, passed-fill_at a id q.version new) (joined here (had_version (slot_at a.slots id.slot).version q.version))
        | inr there ↦
            let same : is_passed (fill a id v) q ≡ is_passed a q = ap (λ x. had_version x.version q.version) (at-put_other a.slots id.slot q.slot (record { version = id.version; item = Some v }) at.numbered at.within there) in
            rw same ((λ h. inl h, λ h. elim h [ inl had ↦ had | inr is ↦ absurd (there (ap (λ i. i.slot) is)) ]))
      ]
    where
      joined : q.slot ≡ id.slot → (b : Bool) → IsTrue (nat_eq q.version id.version || b) ↔ (IsTrue b ⊎ (q ≡ id))
      joined here b =
          elim (eqb_tells q.version id.version) [
            | inl eq ↦ rw eq.0 ((λ h. inr (same_id q id here eq.1), λ h. refl))
            | inr ne ↦ rw ne.0 ((λ h. inl h, λ h. elim h [ inl had ↦ had | inr is ↦ absurd (ne.1 (ap (λ i. i.version) is)) ]))
          ]

  -- the id of a live record was handed out
  pub live-passed : (a : Arena T) (id : ArenaIndex) → IsWhole a → IsLiveIn a id → IsTrue (is_passed a id)
  live-passed a id whole live =
      let taken = taken_at a.slots id live in
      let at = whole.versions (id.slot - 1) taken.within in
      let version : (slot_at a.slots id.slot).version ≡ id.version = ap (λ s. s.version) (slot_at-place a.slots id.slot taken.numbered) ∙ taken.version in
      rw version (had-itself id.version (omega (arith, at.first, taken.version)))

  -- a new id is one that may be handed out
  pub new-is_new : (limits : Limits) (a : Arena T) (id : ArenaIndex) → limits.slots ≡ a.limit → limits.last_version ≡ a.last_version → IsNew a id → IsNewId limits (is_passed a) (IsLiveIn a) id
  new-is_new limits a id slots last new =
      (new.numbered, omega (arith, new.within), omega (arith, new.fits), by_version new.version)
    where
      by_version : IsNextVersion a id
          → ((id.version ≡ 1) × ((j : ArenaIndex) → IsTrue (is_passed a j) → j.slot ≢ id.slot))
          ⊎ ((l : ArenaIndex) × (l.slot ≡ id.slot) × (id.version ≡ l.version + 2) × IsTrue (is_passed a l) × (IsLiveIn a l → ⊥)
          × ((j : ArenaIndex) → IsTrue (is_passed a j) → j.slot ≡ id.slot → j.version ≤ l.version))
      by_version (inl end) =
          inl (end.1, λ j had here. true≢false (sym had ∙ ap (λ s. had_version s.version j.version) (at_past a.slots j.slot (omega (arith, end.0, here))) ∙ had-none j.version))
      by_version (inr reused) =
          inr (
            record { slot = id.slot; version = (slot_at a.slots id.slot).version },
            refl,
            reused.2,
            had-itself (slot_at a.slots id.slot).version reused.1,
            λ live. true≢false (sym live ∙ ap is_some (find_vacant a.slots (record { slot = id.slot; version = (slot_at a.slots id.slot).version }) new.vacant)),
            λ j had here. (had-within (slot_at a.slots id.slot).version j.version (ap (λ n. had_version (slot_at a.slots n).version j.version) (sym here) ∙ had)).1,
          )

  -- the versions of a whole arena, by the numbers of the slots
  put-whole : (a : Arena T) (id : ArenaIndex) (s : Slot T) (n : ℕ) → IsWhole a → 1 ≤ id.slot → id.slot ≤ length a.slots + 1 → id.slot ≤ a.limit → IsInRange a.last_version s.version
      → IsWhole (record { slots = put_slot a.slots id.slot s; limit = a.limit; last_version = a.last_version; removals = n })
  put-whole a id s n whole numbered within fits range =
      record {
        within = omega (arith, length-put a.slots id.slot s numbered within, whole.within);
        versions = λ k below. at_place k below;
      }
    where
      at_place : (k : ℕ) → k < length (put_slot a.slots id.slot s) → IsInRange a.last_version (slot_in (put_slot a.slots id.slot s) k).version
      at_place k below =
          elim (cases_eq (k + 1) id.slot) [
            | inl here ↦
                let at : slot_in (put_slot a.slots id.slot s) k ≡ s = sym (slot_at-next (put_slot a.slots id.slot s) k) ∙ ap (slot_at (put_slot a.slots id.slot s)) here ∙ at-put_same a.slots id.slot s numbered within in
                rw at range
            | inr there ↦
                let at : slot_in (put_slot a.slots id.slot s) k ≡ slot_in a.slots k = sym (slot_at-next (put_slot a.slots id.slot s) k) ∙ at-put_other a.slots id.slot (k + 1) s numbered within there ∙ slot_at-next a.slots k in
                rw at (whole.versions k (omega (arith, below, there, numbered, within, length-put a.slots id.slot s numbered within)))
          ]

  -- each change of an arena leaves it whole
  pub whole-fill_live : (a : Arena T) (id : ArenaIndex) (v : T) → IsWhole a → IsLiveIn a id → IsWhole (fill a id v)
  whole-fill_live a id v whole live =
      let taken = taken_at a.slots id live in
      put-whole a id (record { version = id.version; item = Some v }) a.removals whole taken.numbered (omega (arith, taken.within)) (omega (arith, taken.within, taken.numbered, whole.within))
      (rw (sym taken.version) (whole.versions (id.slot - 1) taken.within))

  pub whole-fill_new : (a : Arena T) (id : ArenaIndex) (v : T) → IsWhole a → IsNew a id → IsWhole (fill a id v)
  whole-fill_new a id v whole new =
      let at = open_new a id new in
      put-whole a id (record { version = id.version; item = Some v }) a.removals whole at.numbered at.within new.within
      (record { first = first new.version; within = new.fits })
    where
      first : IsNextVersion a id → 1 ≤ id.version
      first (inl end) = omega (arith, end.1)
      first (inr reused) = omega (arith, reused.2)

  pub whole-cut : (a : Arena T) (id : ArenaIndex) → IsWhole a → IsLiveIn a id → IsWhole (cut a id)
  whole-cut a id whole live =
      let taken = taken_at a.slots id live in
      put-whole a id (record { version = id.version; item = None }) (a.removals + 1) whole taken.numbered (omega (arith, taken.within)) (omega (arith, taken.within, taken.numbered, whole.within))
      (rw (sym taken.version) (whole.versions (id.slot - 1) taken.within))

  pub whole-miss : (a : Arena T) → IsWhole a → IsWhole (miss a)
  whole-miss a whole = record { within = whole.within; versions = whole.versions }

module _ {T : Type 0} where
  -- an id that is new after an insertion is another one
  pub new-apart : (a : Arena T) (id i : ArenaIndex) (v : T) → IsNew a id → IsNew (fill a id v) i → i ≢ id
  new-apart a id i v new next same =
      true≢false (sym (ap is_some (get-fill_new a id v new)) ∙ ap (λ j. is_some (get (fill a id v) j)) (sym same) ∙ ap is_some (get-new (fill a id v) i next))

  -- and it might have been handed out before that insertion
  pub new-before : (limits : Limits) (a : Arena T) (id i : ArenaIndex) (v : T) → IsNew a id → IsNewId limits (is_passed (fill a id v)) (IsLiveIn (fill a id v)) i → IsNewId limits (is_passed a) (IsLiveIn a) i
  new-before limits a id i v new next = (next.0, next.1, next.2, by_version next.3)
    where
      earlier : (j : ArenaIndex) → IsTrue (is_passed a j) → IsTrue (is_passed (fill a id v) j)
      earlier j had = (passed-fill_new a id j v new).1 (inl had)

      by_version : ((i.version ≡ 1) × ((j : ArenaIndex) → IsTrue (is_passed (fill a id v) j) → j.slot ≢ i.slot))
          ⊎ ((l : ArenaIndex) × (l.slot ≡ i.slot) × (i.version ≡ l.version + 2) × IsTrue (is_passed (fill a id v) l) × (IsLiveIn (fill a id v) l → ⊥)
          × ((j : ArenaIndex) → IsTrue (is_passed (fill a id v) j) → j.slot ≡ i.slot → j.version ≤ l.version))
          → ((i.version ≡ 1) × ((j : ArenaIndex) → IsTrue (is_passed a j) → j.slot ≢ i.slot))
          ⊎ ((l : ArenaIndex) × (l.slot ≡ i.slot) × (i.version ≡ l.version + 2) × IsTrue (is_passed a l) × (IsLiveIn a l → ⊥)
          × ((j : ArenaIndex) → IsTrue (is_passed a j) → j.slot ≡ i.slot → j.version ≤ l.version))
      by_version (inl first) = inl (first.0, λ j had. first.1 j (earlier j had))
      by_version (inr (l, slot, version, passed, dead, greatest)) =
          elim ((passed-fill_new a id l v new).0 passed) [
            | inl had ↦ inr (l, slot, version, had, λ live. dead (rw (get-fill_new_other a id l v new (λ same. true≢false (sym live ∙ ap (λ j. is_some (get a j)) same ∙ ap is_some (get-new a id new)))) live), λ j was here. greatest j (earlier j was) here)
            | inr same ↦ absurd (dead (ap (λ j. is_some (get (fill a id v) j)) same ∙ ap is_some (get-fill_new a id v new)))
          ]

  -- what was handed out and is gone stays gone
  pub gone-fill_new : (a : Arena T) (id q : ArenaIndex) (v : T) → IsNew a id → IsTrue (is_passed a q) → get a q ≡ None → get (fill a id v) q ≡ None
  gone-fill_new a id q v new passed gone =
      get-fill_new_other a id q v new (λ same. true≢false (sym passed ∙ ap (is_passed a) same ∙ passed-new a id new)) ∙ gone

  pub gone-fill_live : (a : Arena T) (id q : ArenaIndex) (v : T) → IsLiveIn a id → get a q ≡ None → get (fill a id v) q ≡ None
  gone-fill_live a id q v live gone =
      get-fill_live_other a id q v live (λ same. true≢false (sym live ∙ ap (λ i. is_some (get a i)) (sym same) ∙ ap is_some gone)) ∙ gone

  pub gone-cut : (a : Arena T) (id q : ArenaIndex) → IsLiveIn a id → get a q ≡ None → get (cut a id) q ≡ None
  gone-cut a id q live gone =
      get-cut_other a id q live (λ same. true≢false (sym live ∙ ap (λ i. is_some (get a i)) (sym same) ∙ ap is_some gone)) ∙ gone
