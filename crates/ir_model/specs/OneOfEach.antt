-- One edit of each kind, and what it means that an edit can be made.
use Rattle.std.specs.Prelude.{List, [], ◌∷◌, None}
use Rattle.ir_model.specs.declared.answer.Answer.{Answer}
use Rattle.ir_model.specs.Forest.{Dialect, Behaviour}
use Rattle.ir_model.specs.Nesting.{In}
use Rattle.ir_model.specs.Edits.{Edit, answer as reply, NewType, NewOp, NewBlock, AddRegion, PushResult, PushArgument, InsertResult, InsertArgument, RemoveResult, RemoveArgument, PushOperand, PushSuccessor, InsertOperand, InsertSuccessor, RemoveOperand, RemoveSuccessor, ReplaceOperand, ReplaceSuccessor, ReplaceAllUses, RetargetAll, OpFront, OpBack, OpBefore, OpAfter, UnlinkOp, UnlinkBlock, BlockFront, BlockBack, BlockBefore, BlockAfter, AppendOps, AppendBlocks, MoveRegion, DropOpUses, DropBlockUses, DropRegionUses, EraseOp, EraseBlock, EraseRegion}
use Rattle.ir_model.specs.Sessions.{Session, Step, Run, IsNewSession}

module _ {W : Dialect} where
  -- a run from a new session leads to one that carries out the edit
  pub record CanBeMade (B : Behaviour W) (edit : Edit W) : Type 0 where
    pub new : Session W
    pub before : Session W
    pub after : Session W
    pub earlier : List (Edit W)
    pub answers : List Answer
    pub is_new : IsNewSession new
    pub run : Run B new earlier answers before
    pub step : Step B before edit (reply before.state edit) after

  -- one edit of each kind
  abbrev pub one_of_each : W.Key → List (Edit W)
  one_of_each key =
      NewType key
      ∷ NewOp 0 (0 ∷ []) (0 ∷ []) (0 ∷ []) 2
      ∷ NewBlock None (0 ∷ [])
      ∷ AddRegion 0
      ∷ PushResult 0 0
      ∷ PushArgument 0 0
      ∷ InsertResult 0 0 0
      ∷ InsertArgument 0 0 0
      ∷ RemoveResult 0 0
      ∷ RemoveArgument 0 0
      ∷ PushOperand 1 0
      ∷ PushSuccessor 1 0
      ∷ InsertOperand 1 0 0
      ∷ InsertSuccessor 1 0 0
      ∷ RemoveOperand 1 0
      ∷ RemoveSuccessor 1 0
      ∷ ReplaceOperand 1 0 1
      ∷ ReplaceSuccessor 1 0 1
      ∷ ReplaceAllUses 0 1
      ∷ RetargetAll 0 1
      ∷ OpFront 1 0
      ∷ OpBack 1 0
      ∷ OpBefore 2 1
      ∷ OpAfter 2 1
      ∷ UnlinkOp 1
      ∷ UnlinkBlock 0
      ∷ BlockFront 0 0
      ∷ BlockBack 0 0
      ∷ BlockBefore 1 0
      ∷ BlockAfter 1 0
      ∷ AppendOps 0 1
      ∷ AppendBlocks 0 1
      ∷ MoveRegion 0 1
      ∷ DropOpUses 1
      ∷ DropBlockUses 0
      ∷ DropRegionUses 0
      ∷ EraseOp 1
      ∷ EraseBlock 0
      ∷ EraseRegion 0 0
      ∷ []

  -- the edit has an answer in this session, and a session after it
  pub record HasStep (B : Behaviour W) (s : Session W) (edit : Edit W) : Type 0 where
    pub given : Answer
    pub after : Session W
    pub step : Step B s edit given after

module _ (W : Dialect) (B : Behaviour W) where
  -- in a new session each edit has a step, whatever the limits
  abbrev pub NewSessionsStep : Type 0
  NewSessionsStep = (s : Session W) (edit : Edit W) → IsNewSession s → HasStep B s edit

  -- an edit of each kind can be made
  abbrev pub EachCanBeMade : Type 0
  EachCanBeMade = (key : W.Key) (edit : Edit W) → In edit (one_of_each key) → CanBeMade B edit
