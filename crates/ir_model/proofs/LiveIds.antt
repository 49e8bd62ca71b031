-- The ids of the records that an arena has: all of them, each once, and how many.
use mathlib.Core.Path.{◌≡◌, refl, sym, ap, ◌∙◌, subst}
use Rattle.std.proofs.Common.{ℕ, zero, suc, ◌+◌, ◌-◌, ◌<◌, ◌≤◌, Bool, true, false, cond, List, [], ◌∷◌, length, is_some, inl, inr, count_by, arith}
use Rattle.std.proofs.lemmas.List.Sums.{sum_by-cons, count_by-le-length}
use Rattle.ir_model.specs.declared.ids.ArenaIndex.{ArenaIndex}
use Rattle.ir_model.specs.Ids.{Distinct}
use Rattle.ir_model.specs.Nesting.{In}
use Rattle.ir_model.specs.Slots.{Slot, is_taken, slot_in}
use Rattle.ir_model.specs.Arenas.{Arena, IsLiveIn, arena_len}
use Rattle.ir_model.proofs.Slots.{taken_at, slot_at-place, find_at}
use Rattle.ir_model.proofs.Arenas.{same_id}
use Rattle.ir_model.proofs.Nests.{Absent-not_in}
use Rattle.ir_model.proofs.Removal.{length-within}

module _ {T : Type 0} where
  -- the ids of the slots that have a record, where the first slot has the number n
  abbrev ids_from : ℕ → List (Slot T) → List ArenaIndex
  ids_from n [] = []
  ids_from n (s ∷ rest) = cond (is_taken s) (record { slot = n; version = s.version } ∷ ids_from (n + 1) rest) (ids_from (n + 1) rest)

  -- the place of an id of that list
  record HasPlace (n : ℕ) (slots : List (Slot T)) (x : ArenaIndex) : Type 0 where
    pub place : ℕ
    pub within : place < length slots
    pub slot : x.slot ≡ n + place
    pub version : x.version ≡ (slot_in slots place).version
    pub is : is_taken (slot_in slots place) ≡ true

  later : (n : ℕ) (s : Slot T) (rest : List (Slot T)) (x : ArenaIndex) → HasPlace (n + 1) rest x → HasPlace n (s ∷ rest) x
  later n s rest x it = record { place = suc it.place; within = omega (arith, it.within); slot = omega (arith, it.slot); version = it.version; is = it.is }

  placed : (n : ℕ) (slots : List (Slot T)) (x : ArenaIndex) → In x (ids_from n slots) → HasPlace n slots x
  placed n [] x listed = absurd listed
  placed n (s ∷ rest) x listed = by (λ there. later n s rest x (placed (n + 1) rest x there)) (is_taken s) refl listed
    where
      by : (In x (ids_from (n + 1) rest) → HasPlace n (s ∷ rest) x) → (b : Bool) → is_taken s ≡ b → In x (cond b (record { slot = n; version = s.version } ∷ ids_from (n + 1) rest) (ids_from (n + 1) rest)) → HasPlace n (s ∷ rest) x
      by below true is (inl here) = record { place = 0; within = omega arith; slot = ap (λ i. i.slot) here ∙ omega arith; version = ap (λ i. i.version) here; is = is }
      by below true is (inr there) = below there
      by below false is there = below there

  listed_at : (n : ℕ) (slots : List (Slot T)) (x : ArenaIndex) (k : ℕ) → k < length slots → x.slot ≡ n + k → x.version ≡ (slot_in slots k).version → is_taken (slot_in slots k) ≡ true → In x (ids_from n slots)
  listed_at n [] x k within slot version is = absurd (omega arith)
  listed_at n (s ∷ rest) x zero within slot version is =
      subst (λ b. In x (cond b (record { slot = n; version = s.version } ∷ ids_from (n + 1) rest) (ids_from (n + 1) rest))) (sym is)
      (inl (same_id x (record { slot = n; version = s.version }) (omega (arith, slot)) version))
  listed_at n (s ∷ rest) x (suc k) within slot version is = by (is_taken s) (listed_at (n + 1) rest x k (omega arith) (omega (arith, slot)) version is)
    where
      by : (b : Bool) → In x (ids_from (n + 1) rest) → In x (cond b (record { slot = n; version = s.version } ∷ ids_from (n + 1) rest) (ids_from (n + 1) rest))
      by true there = inr there
      by false there = there

  once_from : (n : ℕ) (slots : List (Slot T)) → Distinct (ids_from n slots)
  once_from n [] = tt
  once_from n (s ∷ rest) = by (once_from (n + 1) rest) (is_taken s)
    where
      by : Distinct (ids_from (n + 1) rest) → (b : Bool) → Distinct (cond b (record { slot = n; version = s.version } ∷ ids_from (n + 1) rest) (ids_from (n + 1) rest))
      by below true =
          (Absent-not_in (record { slot = n; version = s.version }) (ids_from (n + 1) rest) (λ listed. absurd (omega (arith, (placed (n + 1) rest (record { slot = n; version = s.version }) listed).slot))), below)
      by below false = below

  length_from : (n : ℕ) (slots : List (Slot T)) → length (ids_from n slots) ≡ count_by is_taken slots
  length_from n [] = refl
  length_from n (s ∷ rest) = by (is_taken s) (length_from (n + 1) rest) ∙ sym (sum_by-cons (λ x. cond (is_taken x) 1 0) s rest)
    where
      by : (b : Bool) → length (ids_from (n + 1) rest) ≡ count_by is_taken rest → length (cond b (record { slot = n; version = s.version } ∷ ids_from (n + 1) rest) (ids_from (n + 1) rest)) ≡ cond b 1 0 + count_by is_taken rest
      by true more = omega (arith, more)
      by false more = omega (arith, more)

  -- the ids of all records
  abbrev pub live_ids : Arena T → List ArenaIndex
  live_ids a = ids_from 1 a.slots

  pub ids_once : (a : Arena T) → Distinct (live_ids a)
  ids_once a = once_from 1 a.slots

  pub ids_count : (a : Arena T) → length (live_ids a) ≡ arena_len a
  ids_count a = length_from 1 a.slots

  pub live_listed : (a : Arena T) (x : ArenaIndex) → IsLiveIn a x → In x (live_ids a)
  live_listed a x live =
      let at = taken_at a.slots x live in
      let first = at.numbered in
      listed_at 1 a.slots x (x.slot - 1) at.within (omega (arith, first)) (sym at.version) at.some

  pub listed_live : (a : Arena T) (x : ArenaIndex) → In x (live_ids a) → IsLiveIn a x
  listed_live a x listed =
      let it = placed 1 a.slots x listed in
      let slot = it.slot in
      let place : x.slot - 1 ≡ it.place = omega (arith, slot) in
      let here = slot_at-place a.slots x.slot (omega (arith, slot)) ∙ ap (slot_in a.slots) place in
      ap is_some (find_at a.slots x (ap (λ s. s.version) here ∙ sym it.version) ∙ ap (λ s. s.item) here) ∙ it.is

  -- a list of live ids, each once, has no more than the arena has records
  pub live_few : (a : Arena T) (xs : List ArenaIndex) → Distinct xs → ((x : ArenaIndex) → In x xs → IsLiveIn a x) → length xs ≤ arena_len a
  live_few a xs once live =
      let most = length-within xs (live_ids a) once (λ x h. live_listed a x (live x h)) in
      let e = ids_count a in
      omega (arith, most, e)

  -- nor than slots
  pub live-fit : (a : Arena T) (xs : List ArenaIndex) → Distinct xs → ((x : ArenaIndex) → In x xs → IsLiveIn a x) → length xs ≤ length a.slots
  live-fit a xs once live =
      let few = live_few a xs once live in
      let all = count_by-le-length is_taken a.slots in
      omega (arith, few, all)
