-- What a change of one record leaves of whatever is read of each.
use Rattle.std.proofs.Common.{◌≡◌, inl, inr, cond, Option, Some, None, IsSome, is_some, refl, sym, ap, ◌∙◌}
use Rattle.std.specs.Option.{option_map}
use Rattle.std.proofs.lemmas.Option.{same_Some}
use Rattle.ir_model.specs.declared.ids.ArenaIndex.{ArenaIndex}
use Rattle.ir_model.specs.ContextIds.{same_id}
use Rattle.ir_model.specs.Changes.{put, rewrite}
use Rattle.ir_model.proofs.IdCases.{id_cases, id_same, id_differs}
use Rattle.ir_model.proofs.Arenas.{get-new, get-fill_new, get-fill_new_other, get-fill_live, get-fill_live_other, get-cut, get-cut_other}
use Rattle.ir_base_arenas.specs.Arena.{Arena, get, IsLiveIn, IsNew, fill, cut}
use Rattle.ir_core_records.specs.Lists.{edited}

pub live-of : {T : Type 0} (a : Arena T) (id : ArenaIndex) (x : T) → get a id ≡ Some x → IsLiveIn a id
live-of a id x found = ap is_some found

pub found-at : {T : Type 0} (a : Arena T) (id : ArenaIndex) → IsLiveIn a id → (x : T) × (get a id ≡ Some x)
found-at {T} a id live = by (get a id) live
  where
    by : (m : Option T) → IsSome m → (x : T) × (m ≡ Some x)
    by None h = absurd cc
    by (Some x) h = (x, refl)

-- each record knows its own place
abbrev pub KnowPlaces : {T : Type 0} → (T → ArenaIndex) → Arena T → Type 0
KnowPlaces {T} index a = (i : ArenaIndex) (x : T) → get a i ≡ Some x → index x ≡ i

module _ {T : Type 0} (index : T → ArenaIndex) (a : Arena T) (id : ArenaIndex) where
  -- a new one that knows its place is put beside them
  pub places-new : (v : T) → IsNew a id → index v ≡ id → KnowPlaces index a → KnowPlaces index (fill a id v)
  places-new v is_new own know i x found = elim (id_cases i id) [
    | inl e ↦ ap index (sym (same_Some _ _ (sym (ap (get (fill a id v)) e ∙ get-fill_new a id v is_new) ∙ found))) ∙ own ∙ sym e
    | inr ne ↦ know i x (sym (get-fill_new_other a id i v is_new ne) ∙ found)
  ]

  -- one of them is taken away
  pub places-cut : IsLiveIn a id → KnowPlaces index a → KnowPlaces index (cut a id)
  places-cut live know i x found = elim (id_cases i id) [
    | inl e ↦ absurd (let none : get (cut a id) i ≡ None = ap (get (cut a id)) e ∙ get-cut a id live in cc)
    | inr ne ↦ know i x (sym (get-cut_other a id i live ne) ∙ found)
  ]

module _ {T Y : Type 0} (a : Arena T) (id : ArenaIndex) (read : Option T → Y) where
  pub read-new : (v : T) → IsNew a id → read (Some v) ≡ read None → (i : ArenaIndex) → read (get (fill a id v) i) ≡ read (get a i)
  read-new v is_new same i = elim (id_cases i id) [
    | inl e ↦ ap (λ z. read (get (fill a id v) z)) e ∙ ap read (get-fill_new a id v is_new) ∙ same ∙ sym (ap (λ z. read (get a z)) e ∙ ap read (get-new a id is_new))
    | inr ne ↦ ap read (get-fill_new_other a id i v is_new ne)
  ]

  pub read-written : (x v : T) → get a id ≡ Some x → read (Some v) ≡ read (Some x) → (i : ArenaIndex) → read (get (fill a id v) i) ≡ read (get a i)
  read-written x v found same i = elim (id_cases i id) [
    | inl e ↦ ap (λ z. read (get (fill a id v) z)) e ∙ ap read (get-fill_live a id v (live-of a id x found)) ∙ same ∙ sym (ap (λ z. read (get a z)) e ∙ ap read found)
    | inr ne ↦ ap read (get-fill_live_other a id i v (live-of a id x found) ne)
  ]

  pub read-cut : (x : T) → get a id ≡ Some x → read (Some x) ≡ read None → (i : ArenaIndex) → read (get (cut a id) i) ≡ read (get a i)
  read-cut x found same i = elim (id_cases i id) [
    | inl e ↦ ap (λ z. read (get (cut a id) z)) e ∙ ap read (get-cut a id (live-of a id x found)) ∙ sym same ∙ sym (ap (λ z. read (get a z)) e ∙ ap read found)
    | inr ne ↦ ap read (get-cut_other a id i (live-of a id x found) ne)
  ]

module _ {T Y : Type 0} (a : Arena T) (f : T → Y) (id : ArenaIndex) where
  -- the map that is seen has one entry more
  pub seen-new : (v : T) → IsNew a id → (i : ArenaIndex) → option_map f (get (fill a id v) i) ≡ put same_id id (f v) (λ j. option_map f (get a j)) i
  seen-new v is_new i = elim (id_cases i id) [
    | inl e ↦ ap (λ z. option_map f (get (fill a id v) z)) e ∙ ap (option_map f) (get-fill_new a id v is_new)
        ∙ sym (ap (λ b. cond b (Some (f v)) (option_map f (get a i))) (ap (λ z. same_id z id) e ∙ id_same id))
    | inr ne ↦ ap (option_map f) (get-fill_new_other a id i v is_new ne)
        ∙ sym (ap (λ b. cond b (Some (f v)) (option_map f (get a i))) (id_differs i id ne))
  ]

  -- one entry is rewritten
  pub seen-written : (g : Y → Y) (x v : T) → get a id ≡ Some x → f v ≡ g (f x) → (i : ArenaIndex) → option_map f (get (fill a id v) i) ≡ rewrite same_id id g (λ j. option_map f (get a j)) i
  seen-written g x v found is i = elim (id_cases i id) [
    | inl e ↦ ap (λ z. option_map f (get (fill a id v) z)) e ∙ ap (option_map f) (get-fill_live a id v (live-of a id x found)) ∙ ap Some is
        ∙ sym (ap (λ b. cond b (option_map g (option_map f (get a i))) (option_map f (get a i))) (ap (λ z. same_id z id) e ∙ id_same id)
        ∙ ap (λ z. option_map g (option_map f (get a z))) e ∙ ap (λ m. option_map g (option_map f m)) found)
    | inr ne ↦ ap (option_map f) (get-fill_live_other a id i v (live-of a id x found) ne)
        ∙ sym (ap (λ b. cond b (option_map g (option_map f (get a i))) (option_map f (get a i))) (id_differs i id ne))
  ]

  -- one entry is gone
  pub seen-cut : IsLiveIn a id → (i : ArenaIndex) → option_map f (get (cut a id) i) ≡ cond (same_id i id) None (option_map f (get a i))
  seen-cut live i = elim (id_cases i id) [
    | inl e ↦ ap (λ z. option_map f (get (cut a id) z)) e ∙ ap (option_map f) (get-cut a id live)
        ∙ sym (ap (λ b. cond b None (option_map f (get a i))) (ap (λ z. same_id z id) e ∙ id_same id))
    | inr ne ↦ ap (option_map f) (get-cut_other a id i live ne)
        ∙ sym (ap (λ b. cond b None (option_map f (get a i))) (id_differs i id ne))
  ]

-- the record under a live id, changed
pub edited-at : {T : Type 0} (change : T → T) (a : Arena T) (id : ArenaIndex) (x : T) → get a id ≡ Some x → edited change a id ≡ fill a id (change x)
edited-at {T} change a id x found = ap (λ (m : Option T). elim m [ None ↦ a | Some y ↦ fill a id (change y) ]) found
