-- The record under a live index, changed: what stands where afterwards, and what a lender lends and leaves.
use Rattle.std.proofs.Common.{◌≡◌, ◌⊎◌, ◌-◌, List, length, set, Option, Some, None, is_some, refl, sym, ap, subst, ◌∙◌, inl, inr}
use Rattle.std.specs.Option.{option_map}
use Rattle.std.proofs.lemmas.List.{set-set, set-get_or, length-set}
use Rattle.ir_model.specs.declared.ids.ArenaIndex.{ArenaIndex}
use Rattle.ir_model.specs.Slots.{Slot, never, slot_in}
use Rattle.ir_base_arenas.specs.Arena.{Arena, get, IsLiveIn, fill}
use Rattle.ir_model.proofs.Slots.{taken_at, put-set}
use Rattle.ir_model.proofs.Arenas.{get-fill_live, get-fill_live_other}
use Rattle.ir_model.proofs.IdCases.{id_cases}
use Rattle.ir_core_records.specs.Lists.{in_record, edited}

module _ {T : Type 0} where
  -- the edit, where the record is known
  pub edited-filled : (change : T → T) (t : Arena T) (o : ArenaIndex) (x : T) → get t o ≡ Some x → edited change t o ≡ fill t o (change x)
  edited-filled change t o x e = ap (λ (y : Option T). elim y as (λ _. Arena T) [ None ↦ t | Some z ↦ fill t o (change z) ]) e

  edited-none : (change : T → T) (t : Arena T) (o : ArenaIndex) → get t o ≡ None → edited change t o ≡ t
  edited-none change t o e = ap (λ (y : Option T). elim y as (λ _. Arena T) [ None ↦ t | Some z ↦ fill t o (change z) ]) e

  -- what a lender leaves
  pub edited-lent : (change : T → T) (t : Arena T) (o p : ArenaIndex) (x : T) → p ≡ o → get t p ≡ Some x → fill t p (change x) ≡ edited change t o
  edited-lent change t o p x e at = sym (edited-filled change t p x at) ∙ ap (edited change t) e

  -- what a lender lends
  pub in_record-lent : {Y : Type 0} (read : T → Y) (none : Y) (t : Arena T) (o p : ArenaIndex) (x : T) → p ≡ o → get t p ≡ Some x → read x ≡ in_record read none (get t o)
  in_record-lent read none t o p x e at = ap (in_record read none) (sym at ∙ ap (get t) e)

module _ {T : Type 0} where
  slot_under : (a : Arena T) (id : ArenaIndex) (x : T) → get a id ≡ Some x → slot_in a.slots (id.slot - 1) ≡ record { version = id.version; item = Some x }
  slot_under a id x e =
      let taken = taken_at a.slots id (ap is_some e) in
      let item : (slot_in a.slots (id.slot - 1)).item ≡ Some x = sym taken.found ∙ e in
      λ i. record { version = taken.version i; item = item i }

  as_set : (a : Arena T) (id : ArenaIndex) (v : T) → IsLiveIn a id → (fill a id v).slots ≡ set a.slots (id.slot - 1) (record { version = id.version; item = Some v })
  as_set a id v live =
      let taken = taken_at a.slots id live in
      put-set a.slots id.slot (record { version = id.version; item = Some v }) taken.numbered taken.within

  with_slots : (a : Arena T) (xs ys : List (Slot T)) → xs ≡ ys → ◌≡◌ {A = Arena T} (record a { slots = xs }) (record a { slots = ys })
  with_slots a xs ys e = λ i. record a { slots = e i }

  -- to write what stands there changes nothing, and of two writes the last counts
  fill-self : (a : Arena T) (id : ArenaIndex) (v : T) → get a id ≡ Some v → fill a id v ≡ a
  fill-self a id v e =
      with_slots a (fill a id v).slots a.slots
      (as_set a id v (ap is_some e) ∙ ap (set a.slots (id.slot - 1)) (sym (slot_under a id v e)) ∙ set-get_or a.slots (id.slot - 1) never)

  fill-twice : (a : Arena T) (id : ArenaIndex) (v w : T) → IsLiveIn a id → fill (fill a id v) id w ≡ fill a id w
  fill-twice a id v w live =
      let first = as_set a id v live in
      let second = as_set (fill a id v) id w (ap is_some (get-fill_live a id v live)) in
      with_slots a (fill (fill a id v) id w).slots (fill a id w).slots
      (second
      ∙ ap (λ (xs : List (Slot T)). set xs (id.slot - 1) (record { version = id.version; item = Some w })) first
      ∙ set-set a.slots (id.slot - 1) (record { version = id.version; item = Some v }) (record { version = id.version; item = Some w })
      ∙ sym (as_set a id w live))

  found : (t : Arena T) (o : ArenaIndex) → (get t o ≡ None) ⊎ ((x : T) × (get t o ≡ Some x))
  found t o = by_item (get t o) refl
    where
      by_item : (x : Option T) → get t o ≡ x → (get t o ≡ None) ⊎ ((y : T) × (get t o ≡ Some y))
      by_item None e = inl e
      by_item (Some x) e = inr (x, e)

  -- an edit is a write or nothing: what holds of both holds of it
  pub edited-by : (P : Arena T → Type 0) (change : T → T) (t : Arena T) (o : ArenaIndex) → (get t o ≡ None → P t) → ((x : T) → get t o ≡ Some x → P (fill t o (change x))) → P (edited change t o)
  edited-by P change t o same written =
      elim (found t o) [
        | inl none ↦ subst P (sym (edited-none change t o none)) (same none)
        | inr some ↦ subst P (sym (edited-filled change t o some.0 some.1)) (written some.0 some.1)
      ]

  -- no slot is made or given up
  pub slots-edited : (change : T → T) (t : Arena T) (o : ArenaIndex) → length (edited change t o).slots ≡ length t.slots
  slots-edited change t o =
      edited-by (λ s. length s.slots ≡ length t.slots) change t o (λ _. refl)
      (λ x e. ap length (as_set t o (change x) (ap is_some e)) ∙ length-set t.slots (o.slot - 1) (record { version = o.version; item = Some (change x) }))

  -- what stands under an id after the edit
  pub get-edited : (change : T → T) (t : Arena T) (o : ArenaIndex) → get (edited change t o) o ≡ option_map change (get t o)
  get-edited change t o =
      edited-by (λ s. get s o ≡ option_map change (get t o)) change t o
      (λ none. none ∙ ap (option_map change) (sym none))
      (λ x e. get-fill_live t o (change x) (ap is_some e) ∙ ap (option_map change) (sym e))

  pub get-edited_other : (change : T → T) (t : Arena T) (o p : ArenaIndex) → ¬ (p ≡ o) → get (edited change t o) p ≡ get t p
  get-edited_other change t o p ne = edited-by (λ s. get s p ≡ get t p) change t o (λ _. refl) (λ x e. get-fill_live_other t o p (change x) (ap is_some e) ne)

  -- what the change leaves alone is the same everywhere
  pub edited-kept : {Y : Type 0} (f : Option T → Y) (change : T → T) → ((x : T) → f (Some (change x)) ≡ f (Some x)) → (t : Arena T) (o p : ArenaIndex) → f (get (edited change t o) p) ≡ f (get t p)
  edited-kept f change same t o p =
      elim (id_cases p o) [
        | inl q ↦ ap (λ (i : ArenaIndex). f (get (edited change t o) i)) q ∙ ap f (get-edited change t o) ∙ by_item (get t o) ∙ ap (λ (i : ArenaIndex). f (get t i)) (sym q)
        | inr ne ↦ ap f (get-edited_other change t o p ne)
      ]
    where
      by_item : (x : Option T) → f (option_map change x) ≡ f x
      by_item None = refl
      by_item (Some x) = same x

  pub edited-live : (change : T → T) (t : Arena T) (o p : ArenaIndex) → IsLiveIn t p → IsLiveIn (edited change t o) p
  edited-live change t o p live = edited-kept is_some change (λ x. refl) t o p ∙ live

  pub edited-self : (change : T → T) (t : Arena T) (o : ArenaIndex) → ((x : T) → get t o ≡ Some x → change x ≡ x) → edited change t o ≡ t
  edited-self change t o same = edited-by (λ s. s ≡ t) change t o (λ _. refl) (λ x e. fill-self t o (change x) (e ∙ ap Some (sym (same x e))))

  pub edited-twice : (f g h : T → T) → ((x : T) → g (f x) ≡ h x) → (t : Arena T) (o : ArenaIndex) → edited g (edited f t o) o ≡ edited h t o
  edited-twice f g h same t o =
      elim (found t o) [
        | inl none ↦ ap (λ (s : Arena T). edited g s o) (edited-none f t o none) ∙ edited-none g t o none ∙ sym (edited-none h t o none)
        | inr some ↦
            let x = some.0 in
            let live : IsLiveIn t o = ap is_some some.1 in
            ap (λ (s : Arena T). edited g s o) (edited-filled f t o x some.1)
            ∙ edited-filled g (fill t o (f x)) o (f x) (get-fill_live t o (f x) live)
            ∙ fill-twice t o (f x) (g (f x)) live
            ∙ ap (fill t o) (same x)
            ∙ sym (edited-filled h t o x some.1)
      ]
