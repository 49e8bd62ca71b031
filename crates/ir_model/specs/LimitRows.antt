-- Worked examples of limits: which ids and numbers are new, and how much room is left, each beside a neighbour that is refused.
use Rattle.std.specs.Prelude.{◌≡◌, ℕ, zero, suc, ◌+◌, ◌<◌, Bool, List, [], ◌∷◌, IsTrue, nat_eq}
use Rattle.std.specs.List.{list_any}
use Rattle.ir_model.specs.declared.ids.ArenaIndex.{ArenaIndex}
use Rattle.ir_model.specs.declared.ids.Limits.{Limits}
use Rattle.ir_model.specs.ContextIds.{same_id}
use Rattle.ir_model.specs.Nesting.{In}
use Rattle.ir_model.specs.Sessions.{IsNewId, IsNewNumber, HasRoom, LacksRoom, TakesSlot}

-- exactly n more fit, and one more does not
pub record RoomIs {A : Type 0} (count : ℕ) (P : A → Type 0) (n : ℕ) : Type 0 where
  pub these_fit : HasRoom count P n
  pub these_lack_nothing : LacksRoom count P n → ⊥
  pub one_more_lacks : LacksRoom count P (n + 1)
  pub one_more_does_not_fit : HasRoom count P (n + 1) → ⊥

-- ## Slots and versions

-- the id of this slot and version
abbrev pub id : ℕ → ℕ → ArenaIndex
id slot version = record { slot = slot; version = version }

-- so many slots, and this last version
abbrev pub slots : ℕ → ℕ → Limits
slots count last = record { values = 9; uses = 9; slots = count; last_version = last }

-- one of these
abbrev pub one_of : List ArenaIndex → ArenaIndex → Bool
one_of passed i = list_any (λ j. same_id j i) passed

-- the id may be handed out where the first of these were handed out, and the second are live
abbrev pub New : Limits → List ArenaIndex → List ArenaIndex → ArenaIndex → Type 0
New limits passed live i = IsNewId limits (one_of passed) (λ j. In j live) i

-- where the first of these were handed out, and the second are live, exactly n more slots are there
abbrev pub SlotsLeft : Limits → List ArenaIndex → List ArenaIndex → ℕ → Type 0
SlotsLeft limits passed live n = RoomIs limits.slots (TakesSlot limits (one_of passed) (λ j. In j live)) n

-- the first ids of the first slot, the last of them first: each version is two higher than the one before
abbrev pub first_ids : ℕ → List ArenaIndex
first_ids zero = []
first_ids (suc k) = id 1 (k + k + 1) ∷ first_ids k

-- versions start at 1 and rise by two, in a slot whose last id is dead
pub record NewIds : Type 0 where
  pub first : New (slots 1 1) [] [] (id 1 1)
  pub no_first_two : New (slots 1 5) [] [] (id 1 2) → ⊥
  pub no_first_three : New (slots 1 5) [] [] (id 1 3) → ⊥
  pub no_slot_zero : New (slots 1 1) [] [] (id 0 1) → ⊥
  pub no_slot_past_the_last : New (slots 1 1) [] [] (id 2 1) → ⊥
  pub second_slot : New (slots 2 1) (id 1 1 ∷ []) (id 1 1 ∷ []) (id 2 1)
  pub two_higher : New (slots 1 5) (id 1 1 ∷ []) [] (id 1 3)
  pub not_again : New (slots 1 5) (id 1 1 ∷ []) [] (id 1 1) → ⊥
  pub not_one_higher : New (slots 1 5) (id 1 1 ∷ []) [] (id 1 2) → ⊥
  pub not_four_higher : New (slots 1 5) (id 1 1 ∷ []) [] (id 1 5) → ⊥
  pub not_of_a_live_one : New (slots 1 5) (id 1 1 ∷ []) (id 1 1 ∷ []) (id 1 3) → ⊥
  pub up_to_the_last_version : New (slots 1 5) (id 1 1 ∷ id 1 3 ∷ []) [] (id 1 5)
  pub not_past_the_last_version : New (slots 1 4) (id 1 1 ∷ id 1 3 ∷ []) [] (id 1 5) → ⊥
  -- a thousand times in one slot, each time this one and no other
  pub each_of_a_thousand : (k : ℕ) → k < 1000 → New (slots 1 4294967295) (first_ids k) [] (id 1 (k + k + 1))
  pub no_other : (k : ℕ) (i : ArenaIndex) → New (slots 1 4294967295) (first_ids k) [] i → i ≡ id 1 (k + k + 1)

-- a slot is spent while its id is live, and for good once its next version would pass the last
pub record SlotsAreSpent : Type 0 where
  pub no_slot : SlotsLeft (slots 0 1) [] [] 0
  pub one_slot : SlotsLeft (slots 1 1) [] [] 1
  pub a_live_one : SlotsLeft (slots 1 3) (id 1 1 ∷ []) (id 1 1 ∷ []) 0
  pub erased : SlotsLeft (slots 1 3) (id 1 1 ∷ []) [] 1
  pub retired_after_one : SlotsLeft (slots 1 1) (id 1 1 ∷ []) [] 0
  pub retired_after_two : SlotsLeft (slots 1 3) (id 1 1 ∷ id 1 3 ∷ []) [] 0
  pub not_by_a_version_more : SlotsLeft (slots 1 4) (id 1 1 ∷ id 1 3 ∷ []) [] 0
  pub by_two_versions_more : SlotsLeft (slots 1 5) (id 1 1 ∷ id 1 3 ∷ []) [] 1
  pub retired_after_three : SlotsLeft (slots 1 5) (id 1 1 ∷ id 1 3 ∷ id 1 5 ∷ []) [] 0
  -- two slots: make, erase, make, erase, make
  pub two_made : SlotsLeft (slots 2 3) (id 1 1 ∷ []) (id 1 1 ∷ []) 1
  pub two_erased : SlotsLeft (slots 2 3) (id 1 1 ∷ []) [] 2
  pub two_made_again : SlotsLeft (slots 2 3) (id 1 1 ∷ id 1 3 ∷ []) (id 1 3 ∷ []) 1
  pub two_erased_again : SlotsLeft (slots 2 3) (id 1 1 ∷ id 1 3 ∷ []) [] 1
  pub two_made_last : SlotsLeft (slots 2 3) (id 1 1 ∷ id 1 3 ∷ id 2 1 ∷ []) (id 2 1 ∷ []) 0

-- ## Value and use numbers

-- one of these
abbrev pub number_of : List ℕ → ℕ → Bool
number_of passed n = list_any (λ m. nat_eq m n) passed

-- where these of so many were handed out, exactly n more are there
abbrev pub NumbersLeft : ℕ → List ℕ → ℕ → Type 0
NumbersLeft count passed n = RoomIs count (λ m. IsTrue (number_of passed m)) n

-- a number is handed out once, and none comes back
pub record NumbersAreSpent : Type 0 where
  pub none : NumbersLeft 0 [] 0
  pub two : NumbersLeft 2 [] 2
  pub two_handed_out : NumbersLeft 2 (0 ∷ 1 ∷ []) 0
  pub three_handed_out : NumbersLeft 3 (0 ∷ 1 ∷ 2 ∷ []) 0
  pub one_skipped : NumbersLeft 3 (1 ∷ []) 2
  pub a_new_one : IsNewNumber 3 (number_of (0 ∷ 1 ∷ [])) 2
  pub no_old_one : IsNewNumber 3 (number_of (0 ∷ 1 ∷ [])) 1 → ⊥
  pub none_past_the_count : IsNewNumber 3 (number_of (0 ∷ 1 ∷ [])) 3 → ⊥
