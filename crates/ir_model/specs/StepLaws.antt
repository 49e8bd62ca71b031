-- What each single step tells and leaves.
use Rattle.std.specs.Prelude.{◌≡◌, ◌↔◌, ℕ, ◌<◌, Some, IsTrue, slice_get}
use Rattle.ir_model.specs.declared.ids.ArenaIndex.{ArenaIndex}
use Rattle.ir_model.specs.declared.answer.Answer.{Answer}
use Rattle.ir_model.specs.declared.answer.Answer.TheVariants.{Refused}
use Rattle.ir_model.specs.declared.answer.Refused.{Refused as Reason}
use Rattle.ir_model.specs.declared.answer.Refused.TheVariants.{Condition as ForCondition}
use Rattle.ir_model.specs.Ids.{Fresh}
use Rattle.ir_model.specs.ContextIds.{context_ids}
use Rattle.ir_model.specs.Forest.{Dialect, Behaviour}
use Rattle.ir_model.specs.Nesting.{In, regions_of}
use Rattle.ir_model.specs.Edits.{Edit, State, Condition, Change, MoveRegion}
use Rattle.ir_model.specs.Sessions.{Session, Step, IsNewId, live_op, live_block, live_region}

module _ (W : Dialect) (B : Behaviour W) where
  -- an edit is refused for its condition exactly where that does not hold
  abbrev pub ConditionIsTold : Type 0
  ConditionIsTold = (edit : Edit W) (s t : Session W) (a : Answer) → Step B s edit a t → (a ≡ Refused ForCondition) ↔ (Condition s.state edit → ⊥)

  -- a refused edit leaves the state
  abbrev pub RefusedLeaveState : Type 0
  RefusedLeaveState = (edit : Edit W) (s t : Session W) (reason : Reason) → Step B s edit (Refused reason) t → t.state ≡ s.state

  -- no edit touches the limits or what stands beside the state
  abbrev pub AllLeaveTheRest : Type 0
  AllLeaveTheRest = (edit : Edit W) (s t : Session W) (a : Answer) → Step B s edit a t → (t.beside ≡ s.beside) × (t.limits ≡ s.limits)

  -- what an edit leaves is settled by the ids and numbers that it made
  abbrev pub ChangesAreOne : Type 0
  ChangesAreOne = (edit : Edit W) (s t u : State context_ids W) (new : Fresh context_ids) → Change B s edit new t → Change B s edit new u → t ≡ u

  -- a region that is moved to the operation in which it stands keeps its place there
  abbrev pub MovedHomeStays : Type 0
  MovedHomeStays =
      (s t : State context_ids W) (n m : ℕ) (region op : ArenaIndex) (new : Fresh context_ids)
      → slice_get s.tables.regions n ≡ Some region → slice_get s.tables.ops m ≡ Some op → In region (regions_of s.forest op) → Change B s (MoveRegion n m) new t → t ≡ s

module _ (W : Dialect) where
  -- a new id has a higher version than each id that its slot had before
  abbrev pub VersionsRise : Type 0
  VersionsRise =
      (s : Session W) (i old : ArenaIndex) → old.slot ≡ i.slot
      → (IsNewId s.limits s.passed.ops (live_op s.state) i → IsTrue (s.passed.ops old) → old.version < i.version)
      × (IsNewId s.limits s.passed.blocks (live_block s.state) i → IsTrue (s.passed.blocks old) → old.version < i.version)
      × (IsNewId s.limits s.passed.regions (live_region s.state) i → IsTrue (s.passed.regions old) → old.version < i.version)
