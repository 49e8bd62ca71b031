-- What a run promises beside its steps.
use Rattle.std.specs.Prelude.{◌≡◌, ℕ, List, ◌++◌, Some, slice_get}
use Rattle.ir_model.specs.declared.answer.Answer.{Answer}
use Rattle.ir_model.specs.Forest.{Behaviour, Dialect}
use Rattle.ir_model.specs.Edits.{Edit, StoredType}
use Rattle.ir_model.specs.Gone.{LeavesGone, StaysGone}
use Rattle.ir_model.specs.Sessions.{Run, Session}

module _ {W : Dialect} where
  -- no key changes, and none is given up
  pub record KeepsKeys (old new : Session W) : Type 0 where
    pub keys : (k : ℕ) (a : StoredType W) → slice_get old.state.store k ≡ Some a → (b : StoredType W) × (slice_get new.state.store k ≡ Some b) × (b.key ≡ a.key)

  -- at each two cuts of the run, the second at or behind the first: what is gone at the first is gone at the second, and so is what the first has and the second has not
  abbrev pub GoneAtCuts : Behaviour W → Session W → List (Edit W) → List Answer → Session W → Type 0
  GoneAtCuts behave old edits answers new =
      (before between behind : List (Edit W)) (first middle last : List Answer) (cut later : Session W)
      → edits ≡ before ++ between ++ behind → answers ≡ first ++ middle ++ last
      → Run behave old before first cut → Run behave cut between middle later → Run behave later behind last new
      → StaysGone cut later × LeavesGone cut later
