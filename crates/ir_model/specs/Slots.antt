-- A list of slots, numbered from 1, as a map from ids: what stands under each id, and the change of one slot.
use Rattle.std.specs.Prelude.{ℕ, zero, suc, ◌+◌, ◌==◌, ◌&&◌, ◌||◌, Bool, false, cond, nat_le, nat_lt, List, [], ◌∷◌, slice_index_or, Option, None, is_some, is_none, refl}
use Rattle.std.specs.Coded.{Coded, code_by, coded×, coded_ℕ, coded_option}
use Rattle.ir_model.specs.declared.ids.ArenaIndex.{ArenaIndex}

-- a slot: the version that was handed out last, and its record unless that was removed
pub record Slot (T : Type 0) : Type 0 where
  pub version : ℕ
  pub item : Option T

abbrev pub slot_code : {T : Type 0} → Coded T → Coded (Slot T)
slot_code {T} code =
    code_by
    (ℕ × Option T)
    (coded× coded_ℕ (coded_option code))
    (λ s. (s.version, s.item))
    (λ p. record { version = p.0; item = p.1 })
    (λ _. refl)

-- a slot at this version had that one too: it is this version, or lies below it by an even number and is at least 1
unfoldable pub had_version : ℕ → ℕ → Bool
had_version zero v = false
had_version (suc zero) v = v == 1
had_version (suc (suc n)) v = (v == suc (suc n)) || had_version n v

module _ {T : Type 0} where
  -- the slot has a record
  abbrev pub is_taken : Slot T → Bool
  is_taken s = is_some s.item

  -- the slot is empty, and can be handed out again
  abbrev pub is_reusable : ℕ → Slot T → Bool
  is_reusable last s = is_none s.item && nat_le (s.version + 2) last

  -- the slot is empty for good
  abbrev pub is_retired : ℕ → Slot T → Bool
  is_retired last s = is_none s.item && nat_lt last (s.version + 2)

  -- a slot that was never handed out
  abbrev pub never : Slot T
  never = record { version = 0; item = None }

  -- the slot in the k-th place from 0, or one that was never handed out
  abbrev pub slot_in : List (Slot T) → ℕ → Slot T
  slot_in slots k = slice_index_or slots k never

  -- the slot of a number from 1, or one that was never handed out
  unfoldable pub slot_at : List (Slot T) → ℕ → Slot T
  slot_at slots zero = never
  slot_at slots (suc k) = slot_in slots k

  -- what the slot has under a version
  abbrev pub item_under : Slot T → ℕ → Option T
  item_under s version = cond (s.version == version) s.item None

  -- what stands under an id
  unfoldable pub find : List (Slot T) → ArenaIndex → Option T
  find slots id = item_under (slot_at slots id.slot) id.version

  -- the slots with the one in the k-th place changed, or with one more at the end
  abbrev pub put_in : List (Slot T) → ℕ → Slot T → List (Slot T)
  put_in [] k s = s ∷ []
  put_in (x ∷ xs) zero s = s ∷ xs
  put_in (x ∷ xs) (suc k) s = x ∷ put_in xs k s

  -- the slots with the one of a number from 1 changed, or with one more at the end
  unfoldable pub put_slot : List (Slot T) → ℕ → Slot T → List (Slot T)
  put_slot slots zero s = slots
  put_slot slots (suc k) s = put_in slots k s
