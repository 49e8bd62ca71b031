-- The worked examples of limits.
use mathlib.Core.Path.{◌≡◌, refl, sym, ap}
use Rattle.std.proofs.Common.{ℕ, zero, suc, ◌+◌, ◌<◌, ◌≤◌, ◌≢◌, ◌⊎◌, inl, inr, Bool, true, false, eqb, List, [], ◌∷◌, ◌++◌, length, IsTrue, arith}
use Rattle.std.specs.List.{filter}
use Rattle.ir_model.specs.declared.ids.ArenaIndex.{ArenaIndex}
use Rattle.ir_model.specs.declared.ids.Limits.{Limits}
use Rattle.ir_model.specs.Ids.{Distinct}
use Rattle.ir_model.specs.ContextIds.{same_id}
use Rattle.ir_model.specs.Nesting.{In}
use Rattle.ir_model.specs.Sessions.{Number, TakesSlot, IsNewNumber}
use Rattle.ir_model.specs.LimitRows.{RoomIs, id, slots, one_of, New, SlotsLeft, number_of, NumbersLeft, first_ids, NewIds, SlotsAreSpent, NumbersAreSpent}
use Rattle.ir_model.proofs.Nests.{In-append, In-left, In-right}
use Rattle.ir_model.proofs.Filters.{In-filter, In-kept}
use Rattle.ir_model.proofs.TwoRuns.{id_tells, number_tells}
use Rattle.ir_model.proofs.Roomy.{any_iff}
use Rattle.ir_model.proofs.StepTells.{one_count}
use Rattle.ir_model.proofs.Decided.{Decided, says, holds, fails, says_true, not_so, both, either, instead, at_most, one, in_list, distinct, all, some}

-- so many are gone, and n more fill the count
room_is : {A : Type 0} (count : ℕ) (P : A → Type 0) (gone n : ℕ) → Number P gone → gone + n ≡ count → RoomIs count P n
room_is count P gone n g e = record {
  these_fit = (gone, g, omega (arith, e));
  these_lack_nothing = λ h. (let s = one_count P h.0 gone h.1 g in let l = h.2 in absurd (omega (arith, e, s, l)));
  one_more_lacks = (gone, g, omega (arith, e));
  one_more_does_not_fit = λ h. (let s = one_count P h.0 gone h.1 g in let l = h.2 in absurd (omega (arith, e, s, l)));
}

passed_so : (passed : List ArenaIndex) (i : ArenaIndex) → Decided (IsTrue (one_of passed i))
passed_so passed i = instead (λ h. (any_iff same_id id_tells passed i).1 h) (λ h. (any_iff same_id id_tells passed i).0 h) (in_list same_id id_tells i passed)

-- an id that was handed out is not live and has no successor
abbrev retired : (limits : Limits) (live : List ArenaIndex) (i : ArenaIndex) → Decided ((In i live → ⊥) × (limits.last_version < i.version + 2))
retired limits live i = both (not_so (in_list same_id id_tells i live)) (at_most _ _)

abbrev taken : Limits → List ArenaIndex → List ArenaIndex → List ArenaIndex
taken limits passed live = live ++ filter (λ i. says (retired limits live i)) passed

number_taken : (limits : Limits) (passed live : List ArenaIndex) → Distinct (taken limits passed live) → Number (TakesSlot limits (one_of passed) (λ j. In j live)) (length (taken limits passed live))
number_taken limits passed live d = (
  taken limits passed live,
  d,
  λ i. (
    λ h. elim (In-append i live (filter (λ i. says (retired limits live i)) passed) h) [
      | inl l ↦ inl l
      | inr k ↦ (let f = In-filter (λ i. says (retired limits live i)) i passed k in let r = holds (retired limits live i) f.1 in inr ((any_iff same_id id_tells passed i).1 f.0, r.0, r.1))
    ],
    λ h. elim h [
      | inl l ↦ In-left i live _ l
      | inr k ↦ In-right i live _ (In-kept (λ i. says (retired limits live i)) i passed ((any_iff same_id id_tells passed i).0 k.0) (says_true (retired limits live i) (k.1, k.2)))
    ],
  ),
  refl,
)

-- so many slots are left, by the list of those that are taken
left : (limits : Limits) (passed live : List ArenaIndex) (n : ℕ) → says (distinct same_id id_tells (taken limits passed live)) ≡ true → length (taken limits passed live) + n ≡ limits.slots → SlotsLeft limits passed live n
left limits passed live n d e = room_is limits.slots _ (length (taken limits passed live)) n (number_taken limits passed live (holds (distinct same_id id_tells (taken limits passed live)) d)) e

numbers_left : (count : ℕ) (passed : List ℕ) (n : ℕ) → says (distinct eqb number_tells passed) ≡ true → length passed + n ≡ count → NumbersLeft count passed n
numbers_left count passed n d e = room_is count _ (length passed) n (passed, holds (distinct eqb number_tells passed) d, λ m. ((any_iff eqb number_tells passed m).1, (any_iff eqb number_tells passed m).0), refl) e

-- the two forms of a new id, over lists
abbrev IsFirst : List ArenaIndex → ArenaIndex → Type 0
IsFirst passed i = (i.version ≡ 1) × ((j : ArenaIndex) → In j passed → j.slot ≢ i.slot)

abbrev IsNext : List ArenaIndex → List ArenaIndex → ArenaIndex → ArenaIndex → Type 0
IsNext passed live i last = (last.slot ≡ i.slot) × ((i.version ≡ last.version + 2) × ((In last live → ⊥) × ((j : ArenaIndex) → In j passed → (j.slot ≡ i.slot → ⊥) ⊎ (j.version ≤ last.version))))

abbrev Parts : Limits → List ArenaIndex → List ArenaIndex → ArenaIndex → Type 0
Parts limits passed live i = (1 ≤ i.slot) × ((i.slot ≤ limits.slots) × ((i.version ≤ limits.last_version) × (IsFirst passed i ⊎ ((last : ArenaIndex) × In last passed × IsNext passed live i last))))

abbrev same_number : (n m : ℕ) → Decided (n ≡ m)
same_number = one eqb number_tells

module _ (limits : Limits) (passed live : List ArenaIndex) (i : ArenaIndex) where
  abbrev first_so : Decided (IsFirst passed i)
  first_so = both (same_number i.version 1) (all _ (λ j. not_so (same_number j.slot i.slot)) passed)

  abbrev next_so : Decided ((last : ArenaIndex) × In last passed × IsNext passed live i last)
  next_so = some _ (λ last. both (same_number last.slot i.slot) (both (same_number i.version (last.version + 2)) (both (not_so (in_list same_id id_tells last live))
      (all _ (λ j. either (not_so (same_number j.slot i.slot)) (at_most j.version last.version)) passed)))) passed

  was : (j : ArenaIndex) → IsTrue (one_of passed j) → In j passed
  was j h = (any_iff same_id id_tells passed j).0 h

  is : (j : ArenaIndex) → In j passed → IsTrue (one_of passed j)
  is j h = (any_iff same_id id_tells passed j).1 h

  there : Parts limits passed live i → New limits passed live i
  there h = (
    h.0,
    h.1.0,
    h.1.1.0,
    elim h.1.1.1 [
      | inl f ↦ inl (f.0, λ j p. f.1 j (was j p))
      | inr n ↦ (let k = n.2 in inr (n.0, k.0, k.1.0, is n.0 n.1, k.1.1.0, λ j p e. elim (k.1.1.1 j (was j p)) [ inl m ↦ absurd (m e) | inr m ↦ m ]))
    ],
  )

  back : New limits passed live i → Parts limits passed live i
  back h = (
    h.0,
    (
      h.1,
      (
        h.2,
        elim h.3 [
          | inl f ↦ inl (f.0, λ j p. f.1 j (is j p))
          | inr n ↦ inr (n.0, was n.0 n.3, (n.1, (n.2, (n.4, λ j p. elim (same_number j.slot i.slot) [ inl e ↦ inr (n.5 j (is j p) e) | inr k ↦ inl k ]))))
        ],
      ),
    ),
  )

  -- whether the id is new
  abbrev new_so : Decided (New limits passed live i)
  new_so = instead there back (both (at_most 1 i.slot) (both (at_most i.slot limits.slots) (both (at_most i.version limits.last_version) (either first_so next_so))))

first_ids-in : (k : ℕ) (j : ArenaIndex) → In j (first_ids k) → (j.slot ≡ 1) × (j.version < k + k)
first_ids-in zero j h = elim h [ ]
first_ids-in (suc k) j (inl e) = (ap (λ (x : ArenaIndex). x.slot) e, (let v : j.version ≡ k + k + 1 = ap (λ (x : ArenaIndex). x.version) e in omega (arith, v)))
first_ids-in (suc k) j (inr h) = let more = first_ids-in k j h in (more.0, omega (arith, more.1))

each_of_a_thousand : (k : ℕ) → k < 1000 → New (slots 1 4294967295) (first_ids k) [] (id 1 (k + k + 1))
each_of_a_thousand zero few = (omega arith, omega arith, omega arith, inl (refl, λ j p. absurd (let t : false ≡ true = p in cc)))
each_of_a_thousand (suc k) few = (
  omega arith,
  omega arith,
  omega (arith, few),
  inr (
    id 1 (k + k + 1),
    refl,
    omega arith,
    (any_iff same_id id_tells (first_ids (suc k)) (id 1 (k + k + 1))).1 (inl refl),
    λ h. h,
    λ j p e. (let at = first_ids-in (suc k) j ((any_iff same_id id_tells (first_ids (suc k)) j).0 p) in let v = at.1 in omega (arith, v)),
  ),
)

no_other : (k : ℕ) (i : ArenaIndex) → New (slots 1 4294967295) (first_ids k) [] i → i ≡ id 1 (k + k + 1)
no_other k i new = is_id (omega (arith, low, high)) (version k new)
  where
    low : 1 ≤ i.slot
    low = new.0

    high : i.slot ≤ 1
    high = new.1

    is_id : i.slot ≡ 1 → i.version ≡ k + k + 1 → i ≡ id 1 (k + k + 1)
    is_id s v = λ j. record { slot = s j; version = v j }

    slot_one : i.slot ≡ 1
    slot_one = omega (arith, low, high)

    version : (n : ℕ) → New (slots 1 4294967295) (first_ids n) [] i → i.version ≡ n + n + 1
    version zero h = elim h.3 [ inl f ↦ f.0 | inr n ↦ absurd (let t : false ≡ true = n.3 in cc) ]
    version (suc n) h =
        let newest : IsTrue (one_of (first_ids (suc n)) (id 1 (n + n + 1))) = (any_iff same_id id_tells (first_ids (suc n)) (id 1 (n + n + 1))).1 (inl refl) in
        elim h.3 [
          | inl f ↦ absurd (f.1 (id 1 (n + n + 1)) newest (sym slot_one))
          | inr p ↦ (
              let below : n + n + 1 ≤ (p.0).version = p.5 (id 1 (n + n + 1)) newest (sym slot_one) in
              let at = first_ids-in (suc n) p.0 ((any_iff same_id id_tells (first_ids (suc n)) p.0).0 p.3) in
              let above = at.1 in
              let v = p.2 in
              omega (arith, below, above, v))
        ]

pub new_ids : NewIds
new_ids = record {
  first = holds (new_so (slots 1 1) [] [] (id 1 1)) refl;
  no_first_two = fails (new_so (slots 1 5) [] [] (id 1 2)) refl;
  no_first_three = fails (new_so (slots 1 5) [] [] (id 1 3)) refl;
  no_slot_zero = fails (new_so (slots 1 1) [] [] (id 0 1)) refl;
  no_slot_past_the_last = fails (new_so (slots 1 1) [] [] (id 2 1)) refl;
  second_slot = holds (new_so (slots 2 1) (id 1 1 ∷ []) (id 1 1 ∷ []) (id 2 1)) refl;
  two_higher = holds (new_so (slots 1 5) (id 1 1 ∷ []) [] (id 1 3)) refl;
  not_again = fails (new_so (slots 1 5) (id 1 1 ∷ []) [] (id 1 1)) refl;
  not_one_higher = fails (new_so (slots 1 5) (id 1 1 ∷ []) [] (id 1 2)) refl;
  not_four_higher = fails (new_so (slots 1 5) (id 1 1 ∷ []) [] (id 1 5)) refl;
  not_of_a_live_one = fails (new_so (slots 1 5) (id 1 1 ∷ []) (id 1 1 ∷ []) (id 1 3)) refl;
  up_to_the_last_version = holds (new_so (slots 1 5) (id 1 1 ∷ id 1 3 ∷ []) [] (id 1 5)) refl;
  not_past_the_last_version = fails (new_so (slots 1 4) (id 1 1 ∷ id 1 3 ∷ []) [] (id 1 5)) refl;
  each_of_a_thousand = each_of_a_thousand;
  no_other = no_other;
}

pub slots_are_spent : SlotsAreSpent
slots_are_spent = record {
  no_slot = left (slots 0 1) [] [] 0 refl refl;
  one_slot = left (slots 1 1) [] [] 1 refl refl;
  a_live_one = left (slots 1 3) (id 1 1 ∷ []) (id 1 1 ∷ []) 0 refl refl;
  erased = left (slots 1 3) (id 1 1 ∷ []) [] 1 refl refl;
  retired_after_one = left (slots 1 1) (id 1 1 ∷ []) [] 0 refl refl;
  retired_after_two = left (slots 1 3) (id 1 1 ∷ id 1 3 ∷ []) [] 0 refl refl;
  not_by_a_version_more = left (slots 1 4) (id 1 1 ∷ id 1 3 ∷ []) [] 0 refl refl;
  by_two_versions_more = left (slots 1 5) (id 1 1 ∷ id 1 3 ∷ []) [] 1 refl refl;
  retired_after_three = left (slots 1 5) (id 1 1 ∷ id 1 3 ∷ id 1 5 ∷ []) [] 0 refl refl;
  two_made = left (slots 2 3) (id 1 1 ∷ []) (id 1 1 ∷ []) 1 refl refl;
  two_erased = left (slots 2 3) (id 1 1 ∷ []) [] 2 refl refl;
  two_made_again = left (slots 2 3) (id 1 1 ∷ id 1 3 ∷ []) (id 1 3 ∷ []) 1 refl refl;
  two_erased_again = left (slots 2 3) (id 1 1 ∷ id 1 3 ∷ []) [] 1 refl refl;
  two_made_last = left (slots 2 3) (id 1 1 ∷ id 1 3 ∷ id 2 1 ∷ []) (id 2 1 ∷ []) 0 refl refl;
}

true_is_not_false : true ≡ false → ⊥
true_is_not_false e = cc

abbrev is_false : (b : Bool) → Decided (b ≡ false)
is_false true = inr true_is_not_false
is_false false = inl refl

-- whether the number is new
abbrev number_so : (count : ℕ) (passed : List ℕ) (n : ℕ) → Decided (IsNewNumber count (number_of passed) n)
number_so count passed n = both (at_most (suc n) count) (is_false (number_of passed n))

pub numbers_are_spent : NumbersAreSpent
numbers_are_spent = record {
  none = numbers_left 0 [] 0 refl refl;
  two = numbers_left 2 [] 2 refl refl;
  two_handed_out = numbers_left 2 (0 ∷ 1 ∷ []) 0 refl refl;
  three_handed_out = numbers_left 3 (0 ∷ 1 ∷ 2 ∷ []) 0 refl refl;
  one_skipped = numbers_left 3 (1 ∷ []) 2 refl refl;
  a_new_one = holds (number_so 3 (0 ∷ 1 ∷ []) 2) refl;
  no_old_one = fails (number_so 3 (0 ∷ 1 ∷ []) 1) refl;
  none_past_the_count = fails (number_so 3 (0 ∷ 1 ∷ []) 3) refl;
}
