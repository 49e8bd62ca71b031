-- Arenas: records under ids that are never handed out twice.
use Rattle.std.specs.Prelude.{◌≡◌, ◌⊎◌, ℕ, ◌+◌, ◌-◌, ◌<◌, ◌≤◌, Bool, List, [], map, length, count_by, Option, Some, None, IsSome, refl}
use Rattle.std.specs.Coded.{Coded, code_by, coded×, coded_ℕ, coded_list}
use Rattle.ir_model.specs.declared.ids.ArenaIndex.{ArenaIndex}
use Rattle.ir_model.specs.Slots.{Slot, slot_code, had_version, is_taken, is_retired, slot_in, slot_at, find, put_slot}

-- the slots that were handed out, each with its last version and the record that it has now
pub record Arena (T : Type 0) : Type 0 where
  pub slots : List (Slot T)
  pub limit : ℕ
  pub last_version : ℕ
  -- how often `remove` was called
  pub removals : ℕ

abbrev pub arena_code : {T : Type 0} → Coded T → Coded (Arena T)
arena_code {T} code =
    code_by
    (List (Slot T) × (ℕ × (ℕ × ℕ)))
    (coded× (coded_list (slot_code code)) (coded× coded_ℕ (coded× coded_ℕ coded_ℕ)))
    (λ a. (a.slots, (a.limit, (a.last_version, a.removals))))
    (λ p. record { slots = p.0; limit = p.1.0; last_version = p.1.1.0; removals = p.1.1.1 })
    (λ _. refl)

-- the version is one that is handed out
pub record IsInRange (last version : ℕ) : Type 0 where
  pub first : 1 ≤ version
  pub within : version ≤ last

module _ {T : Type 0} where
  -- no slot was handed out
  abbrev pub empty : ℕ → ℕ → Arena T
  empty limit last = record { slots = []; limit = limit; last_version = last; removals = 0 }

  -- what stands under an id
  abbrev pub get : Arena T → ArenaIndex → Option T
  get a id = find a.slots id

  -- a record stands under the id
  abbrev pub IsLiveIn : Arena T → ArenaIndex → Type 0
  IsLiveIn a id = IsSome (get a id)

  -- how many records are live
  abbrev pub arena_len : Arena T → ℕ
  arena_len a = count_by is_taken a.slots

  -- how many more records can be live at once
  abbrev pub room : Arena T → ℕ
  room a = a.limit - arena_len a - count_by (is_retired a.last_version) a.slots

  -- how many slots were never handed out
  abbrev pub unused : Arena T → ℕ
  unused a = a.limit - length a.slots

  -- the id was handed out
  abbrev pub is_passed : Arena T → ArenaIndex → Bool
  is_passed a id = had_version (slot_at a.slots id.slot).version id.version

  -- the slots are within the limit, and their versions in range: true of each arena of a program
  pub record IsWhole (a : Arena T) : Type 0 where
    pub within : length a.slots ≤ a.limit
    pub versions : (k : ℕ) → k < length a.slots → IsInRange a.last_version (slot_in a.slots k).version

  -- the version is the first of the next slot, or the next of a slot that was handed out
  abbrev pub IsNextVersion : Arena T → ArenaIndex → Type 0
  IsNextVersion a id =
      ((id.slot ≡ length a.slots + 1) × (id.version ≡ 1))
      ⊎ ((id.slot ≤ length a.slots) × (1 ≤ (slot_at a.slots id.slot).version) × (id.version ≡ (slot_at a.slots id.slot).version + 2))

  -- an id that may be handed out next: the first of the next slot, or the next of an empty one
  pub record IsNew (a : Arena T) (id : ArenaIndex) : Type 0 where
    pub numbered : 1 ≤ id.slot
    pub within : id.slot ≤ a.limit
    pub fits : id.version ≤ a.last_version
    pub vacant : (slot_at a.slots id.slot).item ≡ None
    pub version : IsNextVersion a id

  -- the arena with a record under an id
  abbrev pub fill : Arena T → ArenaIndex → T → Arena T
  fill a id value = record a { slots = put_slot a.slots id.slot (record { version = id.version; item = Some value }) }

  -- the arena after a call of `remove` that found nothing
  abbrev pub miss : Arena T → Arena T
  miss a = record a { removals = a.removals + 1 }

  -- the arena after a call of `remove` that took the record under an id
  abbrev pub cut : Arena T → ArenaIndex → Arena T
  cut a id = record a { slots = put_slot a.slots id.slot (record { version = id.version; item = None }); removals = a.removals + 1 }

  -- the slot without its record
  abbrev pub emptied : Slot T → Slot T
  emptied s = record { version = s.version; item = None }

  -- the arena after a call of `clear`: each slot is empty and keeps its last version, and each record counts as a removal
  abbrev pub cleared : Arena T → Arena T
  cleared a = record a { slots = map emptied a.slots; removals = a.removals + arena_len a }

  -- a value that was made for a new id was stored under it
  pub record Inserts (made : T → Type 0) (old new : Arena T) (id : ArenaIndex) : Type 0 where
    pub new_id : IsNew old id
    pub value : T
    pub by_make : made value
    pub filled : new ≡ fill old id value
    pub found : get new id ≡ Some value
