-- How an `Arena` lays out its slots. No public clause cites this module.
use Rattle.std.specs.Prelude.{◌≡◌, ℕ, ◌+◌, ◌<◌, ◌≤◌, nat_eq, cond, List, [], ◌∷◌, map, set, length, count_by, slice_index_or, Some, None}
use Rattle.ir_model.specs.Slots.{Slot, is_taken, is_reusable, is_retired, slot_in}
use Rattle.ir_model.specs.Arenas.{Arena, IsInRange}
use Rattle.ir_base_arenas.specs.Arena.{emptied}
use Rattle.ir_base_arenas.specs.declared.arena.Slot.{Slot as Laid}

-- a slot as it is used: its version, with its record, or with the number of the free slot after it
pub data Held (T : Type 0) : Type 0 where
  Full : ℕ → T → Held T
  Free : ℕ → ℕ → Held T

module _ {T : Type 0} where
  -- the slot that lies in memory, where one with a record names a slot that there can't be
  abbrev pub held : Laid T → Held T
  held s = cond (nat_eq s.next 4294967295) (Full s.version s.item) (Free s.version s.next)

  -- the slot as contracts see it
  abbrev pub slot_shown : Held T → Slot T
  slot_shown (Full version item) = record { version = version; item = Some item }
  slot_shown (Free version next) = record { version = version; item = None }

  -- the number that a free slot keeps
  abbrev pub next_in : Held T → ℕ
  next_in (Full version item) = 0
  next_in (Free version next) = next

  -- the slot with another record, where it has one
  abbrev pub with_item : Held T → T → Held T
  with_item (Full version item) other = Full version other
  with_item (Free version next) other = Free version next

  -- the slot in the k-th place from 0, or a free one
  abbrev pub held_in : List (Held T) → ℕ → Held T
  held_in slots k = slice_index_or slots k (Free 0 0)

  -- from the slot of this number on, each free slot names the next one, and the last one names none: they stand in these places
  abbrev pub IsFreeChain : List (Held T) → ℕ → List ℕ → Type 0
  IsFreeChain slots first [] = first ≡ 0
  IsFreeChain slots first (k ∷ rest) = (first ≡ k + 1) × IsFreeChain slots (next_in (held_in slots k)) rest

  -- the free list has the place of each slot that can be handed out again, once
  pub record SlotsAreSound (slots : List (Slot T)) (free : List ℕ) (len limit last : ℕ) : Type 0 where
    pub counted : len ≡ count_by is_taken slots
    pub total : len + count_by (is_retired last) slots + length free ≡ length slots
    pub listed : (k : ℕ) → k < length slots → count_by (nat_eq k) free ≡ cond (is_reusable last (slot_in slots k)) 1 0
    pub bounded : (k : ℕ) → length slots ≤ k → count_by (nat_eq k) free ≡ 0
    pub versions : (k : ℕ) → k < length slots → IsInRange last (slot_in slots k).version
    pub within : length slots ≤ limit
    pub numbered : limit < 4294967295
    pub starts : 1 ≤ last

  -- the arena with the slot at a place emptied; a record in it counts as a removal
  abbrev pub emptied_at : Arena T → ℕ → Arena T
  emptied_at a k = record a { slots = set a.slots k (emptied (slot_in a.slots k)); removals = a.removals + cond (is_taken (slot_in a.slots k)) 1 0 }

  -- the free slots are chained, as many as are counted
  pub record IsLaid (slots : List (Held T)) (first free len limit last : ℕ) : Type 0 where
    pub places : List ℕ
    pub chained : IsFreeChain slots first places
    pub measured : free ≡ length places
    pub sound : SlotsAreSound (map slot_shown slots) places len limit last
