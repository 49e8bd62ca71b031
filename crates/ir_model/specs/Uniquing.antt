-- The stored types: one for each key, under one handle for good.
use Rattle.std.specs.Prelude.{◌≡◌, ℕ, true, false, ◌<◌, List, Some, slice_get}
use Rattle.ir_model.specs.declared.answer.Answer.{Answer}
use Rattle.ir_model.specs.Forest.{Dialect, Behaviour}
use Rattle.ir_model.specs.Edits.{Edit, StoredType}
use Rattle.ir_model.specs.Sessions.{Session, Run, IsNewSession}

module _ {W : Dialect} where
  -- no stored type has the key of an earlier one
  pub record Uniqued (B : Behaviour W) (s : Session W) : Type 0 where
    pub keys : (i j : ℕ) (x y : StoredType W) → i < j → slice_get s.state.store i ≡ Some x → slice_get s.state.store j ≡ Some y → B.same_key x.key y.key ≡ false

module _ (W : Dialect) (B : Behaviour W) where
  -- every run keeps the stored types apart
  abbrev pub RunsKeepUniqued : Type 0
  RunsKeepUniqued = (edits : List (Edit W)) (s t : Session W) (answers : List Answer) → Uniqued B s → Run B s edits answers t → Uniqued B t

  -- no run changes the type that a handle means
  abbrev pub HandlesStay : Type 0
  HandlesStay = (edits : List (Edit W)) (s t : Session W) (answers : List Answer) → Run B s edits answers t → (k : ℕ) (x : StoredType W) → slice_get s.state.store k ≡ Some x → slice_get t.state.store k ≡ Some x

  -- after a run from a new session two handles whose types have one key are one, where the test of keys is symmetric
  abbrev pub OneHandle : Type 0
  OneHandle =
      ((k l : W.Key) → B.same_key k l ≡ true → B.same_key l k ≡ true)
      → (edits : List (Edit W)) (s t : Session W) (answers : List Answer) → IsNewSession s → Run B s edits answers t
      → (i j : ℕ) (x y : StoredType W) → slice_get t.state.store i ≡ Some x → slice_get t.state.store j ≡ Some y → B.same_key x.key y.key ≡ true → i ≡ j
