-- What a write, an insertion or a removal of one record leaves of an arena.
use Rattle.std.proofs.Common.{◌≡◌, ℕ, zero, suc, ◌-◌, ◌<◌, eqb, Bool, true, false, cond, List, [], ◌∷◌, length, map, Option, Some, None, is_some, refl, sym, ap, ◌∙◌, arith}
use Rattle.std.specs.Option.{option_map}
use Rattle.ir_model.specs.declared.ids.ArenaIndex.{ArenaIndex}
use Rattle.ir_model.specs.Slots.{Slot, slot_in, slot_at, find, put_in, put_slot}
use Rattle.ir_base_arenas.specs.Arena.{Arena, get, fill, IsLiveIn}
use Rattle.ir_base_arenas.specs.Lists.{map_slot, map_records}
use Rattle.ir_model.proofs.Slots.{taken_at, put-place}

pub live-at : {T : Type 0} (a : Arena T) (i : ArenaIndex) (x : T) → get a i ≡ Some x → IsLiveIn a i
live-at a i x e = ap is_some e

module _ {T : Type 0} where
  map-put_in : (f : Slot T → Slot T) (slots : List (Slot T)) (k : ℕ) (s : Slot T) → k < length slots → f s ≡ f (slot_in slots k) → map f (put_in slots k s) ≡ map f slots
  map-put_in f [] k s within same = absurd (omega arith)
  map-put_in f (x ∷ xs) zero s within same = ap (λ y. y ∷ map f xs) same
  map-put_in f (x ∷ xs) (suc k) s within same = ap (λ ys. f x ∷ ys) (map-put_in f xs k s (omega arith) same)

  -- a write leaves what it does not change
  pub map_records-fill : (clear : T → T) (a : Arena T) (id : ArenaIndex) (x w : T) → get a id ≡ Some x → clear w ≡ clear x → map_records clear (fill a id w) ≡ map_records clear a
  map_records-fill clear a id x w e same =
      let t = taken_at a.slots id (live-at a id x e) in
      let s : Slot T = record { version = id.version; item = Some w } in
      let old : Slot T = slot_in a.slots (id.slot - 1) in
      let item : Some (clear w) ≡ option_map clear old.item = ap Some same ∙ ap (option_map clear) (sym e ∙ t.found) in
      let slot : map_slot clear s ≡ map_slot clear old = λ i. record { version = sym t.version i; item = item i } in
      let slots : map (map_slot clear) (put_slot a.slots id.slot s) ≡ map (map_slot clear) a.slots =
      ap (map (map_slot clear)) (put-place a.slots id.slot s t.numbered) ∙ map-put_in (map_slot clear) a.slots (id.slot - 1) s t.within slot in
      λ i. record a { slots = slots i }

  in-map : (f : T → T) (slots : List (Slot T)) (k : ℕ) → slot_in (map (map_slot f) slots) k ≡ map_slot f (slot_in slots k)
  in-map f [] k = refl
  in-map f (x ∷ xs) zero = refl
  in-map f (x ∷ xs) (suc k) = in-map f xs k

  pub slot_at-map : (f : T → T) (slots : List (Slot T)) (n : ℕ) → slot_at (map (map_slot f) slots) n ≡ map_slot f (slot_at slots n)
  unfolding slot_at
  slot_at-map f slots zero = refl
  slot_at-map f slots (suc k) = in-map f slots k

  cond-map : (f : T → T) (b : Bool) (o : Option T) → cond b (option_map f o) None ≡ option_map f (cond b o None)
  cond-map f true o = refl
  cond-map f false o = refl

  pub get-map_records : (f : T → T) (a : Arena T) (id : ArenaIndex) → get (map_records f a) id ≡ option_map f (get a id)
  unfolding find
  get-map_records f a id =
      ap (λ (s : Slot T). cond (eqb s.version id.version) s.item None) (slot_at-map f a.slots id.slot)
      ∙ cond-map f (eqb (slot_at a.slots id.slot).version id.version) (slot_at a.slots id.slot).item
