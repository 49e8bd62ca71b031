-- Saved data, and the bodies of stored types.
use Rattle.std.specs.Prelude.{◌≡◌, ℕ, zero, suc, true, List, [], ◌∷◌, slice_get}
use Rattle.ir_model.specs.Forest.{Dialect}
use Rattle.ir_model.specs.Edits.{StoredType, The, place_of, with_key}
use Rattle.ir_model.specs.Sessions.{Beside}
use Rattle.ir_model.specs.Kinds.{Kinds}

module _ {W : Dialect} (K : Kinds W) where
  -- the place of an equal saved value, and where there is none the place behind the last
  abbrev pub saved_place : Beside W → W.Saved → ℕ
  saved_place b value = place_of K.same_saved b.saved value

  -- where an equal value is saved all is as before, and else this one goes last
  abbrev pub with_saved : Beside W → W.Saved → Beside W
  with_saved b value = record b { saved = with_key K.same_saved b.saved value }

  -- a value that is equal to this one is saved at the place
  abbrev pub IsSavedAt : Beside W → ℕ → W.Saved → Type 0
  IsSavedAt b place value = The (slice_get b.saved place) λ kept. K.same_saved kept value ≡ true

  -- a value of this kind is saved at the place
  abbrev pub IsSavedKind : Beside W → ℕ → ℕ → Type 0
  IsSavedKind b place kind = The (slice_get b.saved place) λ kept. K.saved_kind kept ≡ kind

module _ {W : Dialect} where
  -- the type at the place has this body, its key and all other types are as before
  abbrev pub set_body : List (StoredType W) → ℕ → W.Body → List (StoredType W)
  set_body [] place body = []
  set_body (t ∷ ts) zero body = record t { body = body } ∷ ts
  set_body (t ∷ ts) (suc place) body = t ∷ set_body ts place body
