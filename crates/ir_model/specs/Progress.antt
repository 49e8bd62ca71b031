-- Sessions go on: in every sound session each edit has a step, and where its condition holds and there is room, one that makes it.
use Rattle.std.specs.Prelude.{◌≡◌, ℕ, ◌+◌, ◌≤◌, List, length, Some, slice_get}
use Rattle.ir_model.specs.declared.ids.ArenaIndex.{ArenaIndex}
use Rattle.ir_model.specs.declared.answer.Answer.{Answer}
use Rattle.ir_model.specs.declared.answer.Answer.TheVariants.{Done}
use Rattle.ir_model.specs.Ids.{Counts}
use Rattle.ir_model.specs.ContextIds.{context_ids}
use Rattle.ir_model.specs.Forest.{Dialect, Behaviour, Entity, an_op, a_block, a_region, Forest}
use Rattle.ir_model.specs.Nesting.{IsClosed, WellFormed, regions_of}
use Rattle.ir_model.specs.Changes.{Removes}
use Rattle.ir_model.specs.Edits.{Edit, Condition, EraseOp, EraseBlock, EraseRegion, no_needs}
use Rattle.ir_model.specs.Sessions.{Session, Step, Run, IsNewSession, live_op, live_block}
use Rattle.ir_model.specs.Soundness.{AreGone, IsCounted, Sound}
use Rattle.ir_model.specs.OneOfEach.{HasStep}
use Rattle.ir_model.specs.StepTells.{NumbersFit, SlotsFit, line}

module _ {W : Dialect} where
  -- the counts of what is gone leave room for this much, and where a slot is needed it may have a first version
  pub record IsRoomFor (s : Session W) (n : Counts) : Type 0 where
    pub gone : Counts
    pub are_gone : AreGone s gone
    pub numbers : NumbersFit s gone n
    pub slots : SlotsFit s gone n
    pub first_version : 1 ≤ n.ops + n.blocks + n.regions → 1 ≤ s.limits.last_version

  -- a step of the edit leaves exactly what is not inside the entity, and that is well formed
  pub record IsTakenOut (B : Behaviour W) (s : Session W) (edit : Edit W) (e : Entity context_ids) : Type 0 where
    pub after : Session W
    pub step : Step B s edit Done after
    pub removed : Removes s.state.forest e after.state.forest
    pub well_formed : WellFormed after.state.forest (length after.state.store)

module _ (W : Dialect) (B : Behaviour W) where
  -- where the condition holds and there is room, a step makes the edit
  abbrev pub RoomIsEnough : Type 0
  RoomIsEnough =
      (edit : Edit W) (s : Session W) → Sound s → Condition s.state edit → IsRoomFor s (line s.state edit).takes
      → (t : Session W) × Step B s edit (line s.state edit).answer t

  -- in every sound session each edit has a step
  abbrev pub SoundSessionsGoOn : Type 0
  SoundSessionsGoOn = (edit : Edit W) (s : Session W) → Sound s → HasStep B s edit

  -- after every run from a new session what is gone can be counted
  abbrev pub RunsAreCounted : Type 0
  RunsAreCounted = (edits : List (Edit W)) (s t : Session W) (answers : List Answer) → IsNewSession s → Run B s edits answers t → IsCounted t

  -- after every run from a new session each edit has a step
  abbrev pub RunsGoOn : Type 0
  RunsGoOn = (edits : List (Edit W)) (s t : Session W) (answers : List Answer) (edit : Edit W) → IsNewSession s → Run B s edits answers t → HasStep B t edit

  -- a closed entity has a removal, and that is well formed
  abbrev pub ClosedCanGo : Type 0
  ClosedCanGo =
      (s : Session W) (e : Entity context_ids) → Sound s → IsClosed s.state.forest e
      → (g : Forest context_ids W) × Removes s.state.forest e g × WellFormed g (length s.state.store)

  -- a live operation, block or region that is closed can be erased, whatever is inside it
  pub record ClosedAreErased : Type 0 where
    pub ops : (s : Session W) (n : ℕ) (o : ArenaIndex) → Sound s → IsRoomFor s no_needs
        → slice_get s.state.tables.ops n ≡ Some o → live_op s.state o → IsClosed s.state.forest (an_op o) → IsTakenOut B s (EraseOp n) (an_op o)
    pub blocks : (s : Session W) (n : ℕ) (b : ArenaIndex) → Sound s → IsRoomFor s no_needs
        → slice_get s.state.tables.blocks n ≡ Some b → live_block s.state b → IsClosed s.state.forest (a_block b) → IsTakenOut B s (EraseBlock n) (a_block b)
    pub regions : (s : Session W) (n at : ℕ) (o r : ArenaIndex) → Sound s → IsRoomFor s no_needs
        → slice_get s.state.tables.ops n ≡ Some o → slice_get (regions_of s.state.forest o) at ≡ Some r → IsClosed s.state.forest (a_region r) → IsTakenOut B s (EraseRegion n at) (a_region r)
