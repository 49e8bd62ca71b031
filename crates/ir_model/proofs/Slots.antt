-- What a write of one slot does to what stands under each id, and to the versions that each slot had.
use Rattle.std.proofs.Common.{◌≡◌, ◌≢◌, ◌⊎◌, ℕ, zero, suc, ◌+◌, ◌-◌, ◌<◌, ◌≤◌, max, List, [], ◌∷◌, ◌++◌, length, set, None, IsSome, refl, sym, ap, subst, ◌∙◌, inl, inr, arith, true≢false}
use Rattle.std.proofs.lemmas.Bool.Decides.{eqb_tells}
use Rattle.std.proofs.lemmas.Bool.{cases_eq, eq-eqb, ne_eqb}
use Rattle.std.proofs.lemmas.List.{get_or_past}
use Rattle.ir_model.specs.declared.ids.ArenaIndex.{ArenaIndex}
use Rattle.ir_model.specs.Slots.{Slot, never, slot_in, slot_at, item_under, find, put_in, put_slot}

-- the place of an id's slot, from 0
abbrev pub place : ArenaIndex → ℕ
place id = id.slot - 1

module _ {T : Type 0} where
  -- to change a slot is to write it, and one more goes at the end
  pub put_in-set : (slots : List (Slot T)) (k : ℕ) (s : Slot T) → k < length slots → put_in slots k s ≡ set slots k s
  put_in-set [] k s within = absurd (omega arith)
  put_in-set (x ∷ xs) zero s within = refl
  put_in-set (x ∷ xs) (suc k) s within = ap (λ r. x ∷ r) (put_in-set xs k s (omega arith))

  pub put_in-push : (slots : List (Slot T)) (s : Slot T) → put_in slots (length slots) s ≡ slots ++ s ∷ []
  put_in-push [] s = refl
  put_in-push (x ∷ xs) s = ap (λ r. x ∷ r) (put_in-push xs s)

  -- a slot's number is one more than its place
  pub slot_at-place : (slots : List (Slot T)) (n : ℕ) → 1 ≤ n → slot_at slots n ≡ slot_in slots (n - 1)
  unfolding slot_at
  slot_at-place slots zero numbered = absurd (omega arith)
  slot_at-place slots (suc k) numbered = ap (slot_in slots) (omega arith)

  pub slot_at-next : (slots : List (Slot T)) (k : ℕ) → slot_at slots (k + 1) ≡ slot_in slots k
  slot_at-next slots k = slot_at-place slots (k + 1) (omega arith) ∙ ap (slot_in slots) (omega arith)

  pub put-place : (slots : List (Slot T)) (n : ℕ) (s : Slot T) → 1 ≤ n → put_slot slots n s ≡ put_in slots (n - 1) s
  unfolding put_slot
  put-place slots zero s numbered = absurd (omega arith)
  put-place slots (suc k) s numbered = ap (λ j. put_in slots j s) (omega arith)

  pub put-next : (slots : List (Slot T)) (k : ℕ) (s : Slot T) → put_slot slots (k + 1) s ≡ put_in slots k s
  put-next slots k s = put-place slots (k + 1) s (omega arith) ∙ ap (λ j. put_in slots j s) (omega arith)

  pub put-set : (slots : List (Slot T)) (n : ℕ) (s : Slot T) → 1 ≤ n → n - 1 < length slots → put_slot slots n s ≡ set slots (n - 1) s
  put-set slots n s numbered within = put-place slots n s numbered ∙ put_in-set slots (n - 1) s within

  in-put_same : (slots : List (Slot T)) (k : ℕ) (s : Slot T) → k ≤ length slots → slot_in (put_in slots k s) k ≡ s
  in-put_same [] zero s within = refl
  in-put_same [] (suc k) s within = absurd (omega arith)
  in-put_same (x ∷ xs) zero s within = refl
  in-put_same (x ∷ xs) (suc k) s within = in-put_same xs k s (omega arith)

  in-put_other : (slots : List (Slot T)) (k j : ℕ) (s : Slot T) → k ≤ length slots → j ≢ k → slot_in (put_in slots k s) j ≡ slot_in slots j
  in-put_other [] zero zero s within differs = absurd (differs refl)
  in-put_other [] zero (suc j) s within differs = refl
  in-put_other [] (suc k) j s within differs = absurd (omega arith)
  in-put_other (x ∷ xs) zero zero s within differs = absurd (differs refl)
  in-put_other (x ∷ xs) zero (suc j) s within differs = refl
  in-put_other (x ∷ xs) (suc k) zero s within differs = refl
  in-put_other (x ∷ xs) (suc k) (suc j) s within differs = in-put_other xs k j s (omega arith) (λ same. differs (ap suc same))

  length-put_in : (slots : List (Slot T)) (k : ℕ) (s : Slot T) → k ≤ length slots → length (put_in slots k s) ≤ max (length slots) (k + 1)
  length-put_in [] zero s within = omega arith
  length-put_in [] (suc k) s within = absurd (omega arith)
  length-put_in (x ∷ xs) zero s within = omega arith
  length-put_in (x ∷ xs) (suc k) s within = omega (arith, length-put_in xs k s (omega arith))

  -- a write makes the list no longer than the number of the slot asks
  pub length-put : (slots : List (Slot T)) (n : ℕ) (s : Slot T) → 1 ≤ n → n ≤ length slots + 1 → length (put_slot slots n s) ≤ max (length slots) n
  length-put slots n s numbered within = rw (put-place slots n s numbered) (omega (arith, length-put_in slots (n - 1) s (omega arith)))

  -- a slot that is written is what was written, and each other one is as it was
  pub at-put_same : (slots : List (Slot T)) (n : ℕ) (s : Slot T) → 1 ≤ n → n ≤ length slots + 1 → slot_at (put_slot slots n s) n ≡ s
  at-put_same slots n s numbered within =
      slot_at-place (put_slot slots n s) n numbered ∙ ap (λ l. slot_in l (n - 1)) (put-place slots n s numbered) ∙ in-put_same slots (n - 1) s (omega arith)

  pub at-put_other : (slots : List (Slot T)) (n m : ℕ) (s : Slot T) → 1 ≤ n → n ≤ length slots + 1 → m ≢ n → slot_at (put_slot slots n s) m ≡ slot_at slots m
  unfolding slot_at
  at-put_other slots n zero s numbered within differs = refl
  at-put_other slots n (suc j) s numbered within differs =
      ap (λ l. slot_in l j) (put-place slots n s numbered) ∙ in-put_other slots (n - 1) j s (omega arith) (λ same. differs (omega arith))

  pub item_under_cases : (s : Slot T) (v : ℕ) → ((s.version ≡ v) × (item_under s v ≡ s.item)) ⊎ ((s.version ≢ v) × (item_under s v ≡ None))
  item_under_cases s v =
      elim (eqb_tells s.version v) [
        | inl eq ↦ inl (eq.1, rw eq.0 refl)
        | inr ne ↦ inr (ne.1, rw ne.0 refl)
      ]

  -- a live id is that of a slot with a record
  pub record IsTaken (slots : List (Slot T)) (id : ArenaIndex) : Type 0 where
    pub numbered : 1 ≤ id.slot
    pub within : id.slot - 1 < length slots
    pub version : (slot_in slots (id.slot - 1)).version ≡ id.version
    pub some : IsSome (slot_in slots (id.slot - 1)).item
    pub found : find slots id ≡ (slot_in slots (id.slot - 1)).item

  numbered_at : (slots : List (Slot T)) (n : ℕ) → IsSome (slot_at slots n).item → 1 ≤ n
  unfolding slot_at
  numbered_at slots zero some = absurd (true≢false (sym some))
  numbered_at slots (suc k) some = omega arith

  pub taken_at : (slots : List (Slot T)) (id : ArenaIndex) → IsSome (find slots id) → IsTaken slots id
  unfolding find
  taken_at slots id live =
      elim (item_under_cases (slot_at slots id.slot) id.version) [
        | inl eq ↦
            let some : IsSome (slot_at slots id.slot).item = subst IsSome eq.1 live in
            let numbered : 1 ≤ id.slot = numbered_at slots id.slot some in
            let here : slot_at slots id.slot ≡ slot_in slots (id.slot - 1) = slot_at-place slots id.slot numbered in
            let some_in : IsSome (slot_in slots (id.slot - 1)).item = subst (λ s. IsSome s.item) here some in
            record {
              numbered = numbered;
              within = within_of (id.slot - 1) some_in;
              version = ap (λ s. s.version) (sym here) ∙ eq.0;
              some = some_in;
              found = eq.1 ∙ ap (λ s. s.item) here;
            }
        | inr ne ↦ absurd (true≢false (sym (subst IsSome ne.1 live)))
      ]
    where
      within_of : (k : ℕ) → IsSome (slot_in slots k).item → k < length slots
      within_of k some = grind (arith, get_or_past)

  pub find_at : (slots : List (Slot T)) (id : ArenaIndex) → (slot_at slots id.slot).version ≡ id.version → find slots id ≡ (slot_at slots id.slot).item
  unfolding find
  find_at slots id same = rw (same, eq-eqb id.version id.version refl) refl

  pub find_not_at : (slots : List (Slot T)) (id : ArenaIndex) → (slot_at slots id.slot).version ≢ id.version → find slots id ≡ None
  unfolding find
  find_not_at slots id differs = rw (ne_eqb (slot_at slots id.slot).version id.version differs) refl

  pub find_same : (slots others : List (Slot T)) (id : ArenaIndex) → slot_at slots id.slot ≡ slot_at others id.slot → find slots id ≡ find others id
  unfolding find
  find_same slots others id same = ap (λ s. item_under s id.version) same

  -- a slot with no record has none under any version
  pub find_vacant : (slots : List (Slot T)) (id : ArenaIndex) → (slot_at slots id.slot).item ≡ None → find slots id ≡ None
  find_vacant slots id vacant =
      elim (cases_eq (slot_at slots id.slot).version id.version) [
        | inl same ↦ find_at slots id same ∙ vacant
        | inr differs ↦ find_not_at slots id differs
      ]

  pub at_zero : (slots : List (Slot T)) → slot_at slots 0 ≡ never
  unfolding slot_at
  at_zero slots = refl

  pub at_past : (slots : List (Slot T)) (n : ℕ) → length slots < n → slot_at slots n ≡ never
  at_past slots n past = slot_at-place slots n (omega arith) ∙ get_or_past slots (n - 1) never (omega arith)

  pub find_zero : (slots : List (Slot T)) (id : ArenaIndex) → id.slot ≡ 0 → find slots id ≡ None
  find_zero slots id none = find_vacant slots id (ap (λ n. (slot_at slots n).item) none ∙ ap (λ s. s.item) (at_zero slots))

  pub find_past : (slots : List (Slot T)) (id : ArenaIndex) → length slots < id.slot → find slots id ≡ None
  find_past slots id past = find_vacant slots id (ap (λ s. s.item) (at_past slots id.slot past))

  -- what stands under the id of a write, and under any other
  pub find-put_same : (slots : List (Slot T)) (id : ArenaIndex) (s : Slot T) → s.version ≡ id.version → 1 ≤ id.slot → id.slot ≤ length slots + 1 → find (put_slot slots id.slot s) id ≡ s.item
  find-put_same slots id s same numbered within =
      let at = at-put_same slots id.slot s numbered within in
      find_at (put_slot slots id.slot s) id (ap (λ x. x.version) at ∙ same) ∙ ap (λ x. x.item) at

  pub find-put_other : (slots : List (Slot T)) (id q : ArenaIndex) (s : Slot T) → s.version ≡ id.version → 1 ≤ id.slot → id.slot ≤ length slots + 1
      → ((slot_at slots id.slot).version ≡ id.version) ⊎ ((slot_at slots id.slot).item ≡ None) → q ≢ id → find (put_slot slots id.slot s) q ≡ find slots q
  find-put_other slots id q s same numbered within was differs =
      elim (cases_eq q.slot id.slot) [
        | inl here ↦
            let at : slot_at (put_slot slots id.slot s) q.slot ≡ s = ap (slot_at (put_slot slots id.slot s)) here ∙ at-put_same slots id.slot s numbered within in
            let version : id.version ≢ q.version = λ e. differs (λ i. record { slot = here i; version = sym e i }) in
            let none : find (put_slot slots id.slot s) q ≡ None = find_not_at (put_slot slots id.slot s) q (λ e. version (sym same ∙ sym (ap (λ x. x.version) at) ∙ e)) in
            none ∙ sym (before here version was)
        | inr there ↦ find_same (put_slot slots id.slot s) slots q (at-put_other slots id.slot q.slot s numbered within there)
      ]
    where
      before : q.slot ≡ id.slot → id.version ≢ q.version → ((slot_at slots id.slot).version ≡ id.version) ⊎ ((slot_at slots id.slot).item ≡ None) → find slots q ≡ None
      before here version (inl had) = find_not_at slots q (λ e. version (sym had ∙ ap (λ n. (slot_at slots n).version) (sym here) ∙ e))
      before here version (inr vacant) = find_vacant slots q (ap (λ n. (slot_at slots n).item) here ∙ vacant)
