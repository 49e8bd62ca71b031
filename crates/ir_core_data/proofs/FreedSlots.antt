-- Where all the room of an arena is in slots that were never handed out, no freed slot is left.
use Rattle.std.proofs.Common.{◌≡◌, ◌⊎◌, ℕ, zero, suc, ◌+◌, ◌-◌, ◌<◌, ◌≤◌, Bool, true, false, cond, List, [], ◌∷◌, length, count_by, Option, Some, None, is_some, IsTrue, refl, sym, ap, subst, ◌∙◌, inl, inr, arith}
use Rattle.std.proofs.lemmas.Bool.Decides.{leb_tells, nat_tests}
use Rattle.std.proofs.lemmas.List.Sums.{sum_by-cons}
use Rattle.ir_model.specs.declared.ids.ArenaIndex.{ArenaIndex}
use Rattle.ir_model.specs.declared.ids.Limits.{Limits}
use Rattle.ir_model.specs.Sessions.{IsNewId}
use Rattle.ir_model.specs.Slots.{Slot, is_retired, is_taken, find, slot_at, slot_in}
use Rattle.ir_model.proofs.ArenaRoom.{room-splits}
use Rattle.ir_model.proofs.Arenas.{had-itself, had-within}
use Rattle.ir_model.proofs.Slots.{at_past, find_at, slot_at-place}
use Rattle.ir_base_arenas.specs.Arena.{Arena, IsLiveIn, IsWhole, is_passed, room, unused}
use Rattle.ir_core_data.specs.Side.{Keeps}

module _ {T : Type 0} (last : ℕ) where
  -- how often the slot is counted, as one with a record or as one that is empty for good
  abbrev counted : Slot T → ℕ
  counted s = cond (is_taken s) 1 0 + cond (is_retired last s) 1 0

  at_most_one : (o : Option T) (version : ℕ) → counted (record { version = version; item = o }) ≤ 1
  at_most_one None version = by (is_retired {T = T} last (record { version = version; item = None }))
    where
      by : (b : Bool) → 0 + cond b 1 0 ≤ 1
      by true = omega arith
      by false = omega arith
  at_most_one (Some v) version = omega arith

  within : (slots : List (Slot T)) → count_by is_taken slots + count_by (is_retired last) slots ≤ length slots
  within [] = omega arith
  within (s ∷ rest) =
      omega (arith, sum_by-cons (λ (x : Slot T). cond (is_taken x) 1 0) s rest, sum_by-cons (λ (x : Slot T). cond (is_retired last x) 1 0) s rest, at_most_one s.item s.version, within rest)

  empty_for_good : (s : Slot T) → s.item ≡ None → counted s ≡ 1 → last < s.version + 2
  empty_for_good s none one = grind (arith, nat_tests)

  -- where each slot has a record or is empty for good, an empty one is so for good
  ends : (slots : List (Slot T)) → count_by is_taken slots + count_by (is_retired last) slots ≡ length slots → (k : ℕ) → k < length slots → (slot_in slots k).item ≡ None → last < (slot_in slots k).version + 2
  ends [] all k below none = absurd (omega (arith, below))
  ends (s ∷ rest) all zero below none =
      empty_for_good s none (omega (arith, sum_by-cons (λ (x : Slot T). cond (is_taken x) 1 0) s rest, sum_by-cons (λ (x : Slot T). cond (is_retired last x) 1 0) s rest, at_most_one s.item s.version, within rest, all))
  ends (s ∷ rest) all (suc k) below none =
      ends rest (omega (arith, sum_by-cons (λ (x : Slot T). cond (is_taken x) 1 0) s rest, sum_by-cons (λ (x : Slot T). cond (is_retired last x) 1 0) s rest, at_most_one s.item s.version, within rest, all)) k (omega (arith, below)) none

module _ {T : Type 0} (limits : Limits) (a : Arena T) (keeps : Keeps limits a) (whole : IsWhole a) (full : room a ≡ unused a) where
  all_counted : count_by is_taken a.slots + count_by (is_retired a.last_version) a.slots ≡ length a.slots
  all_counted = omega (arith, room-splits a whole, full, whole.within)

  -- the slot of a gone id has no successor
  no_successor : (gone : ArenaIndex) → 1 ≤ gone.slot → IsTrue (is_passed a gone) → (IsLiveIn a gone → ⊥)
      → ((j : ArenaIndex) → IsTrue (is_passed a j) → j.slot ≡ gone.slot → j.version ≤ gone.version) → a.last_version < gone.version + 2
  no_successor gone numbered passed dead greatest =
      let had = had-within (slot_at a.slots gone.slot).version gone.version passed in
      let top = greatest (record { slot = gone.slot; version = (slot_at a.slots gone.slot).version }) (had-itself (slot_at a.slots gone.slot).version (omega (arith, had.0, had.1))) refl in
      let version : (slot_at a.slots gone.slot).version ≡ gone.version = omega (arith, top, had.1) in
      let here = slot_at-place a.slots gone.slot numbered in
      let empty = vacant (slot_at a.slots gone.slot).item (find_at a.slots gone version) in
      let past = ends a.last_version a.slots all_counted (gone.slot - 1) (place (omega (arith, had.0, had.1))) (sym (ap (λ s. s.item) here) ∙ empty) in
      omega (arith, past, ap (λ s. s.version) here, version)
    where
      vacant : (o : Option T) → find a.slots gone ≡ o → o ≡ None
      vacant None found = refl
      vacant (Some v) found = absurd (dead (ap is_some found))

      place : 1 ≤ (slot_at a.slots gone.slot).version → gone.slot - 1 < length a.slots
      place some = elim (leb_tells gone.slot (length a.slots)) [
        | inl in_list ↦ omega (arith, in_list.1, numbered)
        | inr past ↦ absurd (omega (arith, some, ap (λ s. s.version) (at_past a.slots gone.slot past.1)))
      ]

  -- so each id that may be handed out is the first of its slot
  pub all_first : (i : ArenaIndex) → IsNewId limits (is_passed a) (IsLiveIn a) i → i.version ≡ 1
  all_first i new = elim new.3 [
    | inl first ↦ first.0
    | inr again ↦
        let end = no_successor again.0 (omega (arith, new.0, again.1)) again.3 again.4 (λ j had here. again.5 j had (here ∙ again.1)) in
        absurd (omega (arith, end, again.2, new.2, keeps.last_version))
  ]
