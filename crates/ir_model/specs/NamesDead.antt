-- Edits that name what is gone.
use Rattle.std.specs.Prelude.{◌≡◌, ℕ, List, [], ◌∷◌, Some, slice_get}
use Rattle.ir_model.specs.declared.ids.ArenaIndex.{ArenaIndex}
use Rattle.ir_model.specs.declared.answer.Answer.{Answer}
use Rattle.ir_model.specs.declared.answer.Answer.TheVariants.{Refused}
use Rattle.ir_model.specs.declared.answer.Refused.TheVariants.{Condition as ForCondition}
use Rattle.ir_model.specs.ContextIds.{context_ids}
use Rattle.ir_model.specs.Forest.{Dialect, Behaviour, Value, a_value}
use Rattle.ir_model.specs.Nesting.{In, IsLiveNamed}
use Rattle.ir_model.specs.Edits.{Edit, NewType, NewOp, NewBlock, AddRegion, PushResult, PushArgument, InsertResult, InsertArgument, RemoveResult, RemoveArgument, PushOperand, PushSuccessor, InsertOperand, InsertSuccessor, RemoveOperand, RemoveSuccessor, ReplaceOperand, ReplaceSuccessor, ReplaceAllUses, RetargetAll, OpFront, OpBack, OpBefore, OpAfter, UnlinkOp, UnlinkBlock, BlockFront, BlockBack, BlockBefore, BlockAfter, AppendOps, AppendBlocks, MoveRegion, DropOpUses, DropBlockUses, DropRegionUses, EraseOp, EraseBlock, EraseRegion}
use Rattle.ir_model.specs.Sessions.{Session, Step, Run, live_op, live_block, live_region}
use Rattle.ir_model.specs.Soundness.{Sound}

-- the numbers in the tables of what an edit names
pub record Mentions : Type 0 where
  pub ops : List ℕ
  pub blocks : List ℕ
  pub regions : List ℕ
  pub values : List ℕ

module _ {W : Dialect} where
  -- what the edit names, by its numbers in the tables
  abbrev pub mentions : Edit W → Mentions
  mentions (NewType key) = record { ops = []; blocks = []; regions = []; values = [] }
  mentions (NewOp kind types operands successors regions) = record { ops = []; blocks = successors; regions = []; values = operands }
  mentions (NewBlock label types) = record { ops = []; blocks = []; regions = []; values = [] }
  mentions (AddRegion n) = record { ops = n ∷ []; blocks = []; regions = []; values = [] }
  mentions (PushResult n ty) = record { ops = n ∷ []; blocks = []; regions = []; values = [] }
  mentions (PushArgument n ty) = record { ops = []; blocks = n ∷ []; regions = []; values = [] }
  mentions (InsertResult n at ty) = record { ops = n ∷ []; blocks = []; regions = []; values = [] }
  mentions (InsertArgument n at ty) = record { ops = []; blocks = n ∷ []; regions = []; values = [] }
  mentions (RemoveResult n at) = record { ops = n ∷ []; blocks = []; regions = []; values = [] }
  mentions (RemoveArgument n at) = record { ops = []; blocks = n ∷ []; regions = []; values = [] }
  mentions (PushOperand n v) = record { ops = n ∷ []; blocks = []; regions = []; values = v ∷ [] }
  mentions (PushSuccessor n m) = record { ops = n ∷ []; blocks = m ∷ []; regions = []; values = [] }
  mentions (InsertOperand n at v) = record { ops = n ∷ []; blocks = []; regions = []; values = v ∷ [] }
  mentions (InsertSuccessor n at m) = record { ops = n ∷ []; blocks = m ∷ []; regions = []; values = [] }
  mentions (RemoveOperand n at) = record { ops = n ∷ []; blocks = []; regions = []; values = [] }
  mentions (RemoveSuccessor n at) = record { ops = n ∷ []; blocks = []; regions = []; values = [] }
  mentions (ReplaceOperand n at v) = record { ops = n ∷ []; blocks = []; regions = []; values = v ∷ [] }
  mentions (ReplaceSuccessor n at m) = record { ops = n ∷ []; blocks = m ∷ []; regions = []; values = [] }
  mentions (ReplaceAllUses v w) = record { ops = []; blocks = []; regions = []; values = v ∷ w ∷ [] }
  mentions (RetargetAll n m) = record { ops = []; blocks = n ∷ m ∷ []; regions = []; values = [] }
  mentions (OpFront n m) = record { ops = n ∷ []; blocks = m ∷ []; regions = []; values = [] }
  mentions (OpBack n m) = record { ops = n ∷ []; blocks = m ∷ []; regions = []; values = [] }
  mentions (OpBefore n m) = record { ops = n ∷ m ∷ []; blocks = []; regions = []; values = [] }
  mentions (OpAfter n m) = record { ops = n ∷ m ∷ []; blocks = []; regions = []; values = [] }
  mentions (UnlinkOp n) = record { ops = n ∷ []; blocks = []; regions = []; values = [] }
  mentions (UnlinkBlock n) = record { ops = []; blocks = n ∷ []; regions = []; values = [] }
  mentions (BlockFront n m) = record { ops = []; blocks = n ∷ []; regions = m ∷ []; values = [] }
  mentions (BlockBack n m) = record { ops = []; blocks = n ∷ []; regions = m ∷ []; values = [] }
  mentions (BlockBefore n m) = record { ops = []; blocks = n ∷ m ∷ []; regions = []; values = [] }
  mentions (BlockAfter n m) = record { ops = []; blocks = n ∷ m ∷ []; regions = []; values = [] }
  mentions (AppendOps n m) = record { ops = []; blocks = n ∷ m ∷ []; regions = []; values = [] }
  mentions (AppendBlocks n m) = record { ops = []; blocks = []; regions = n ∷ m ∷ []; values = [] }
  mentions (MoveRegion n m) = record { ops = m ∷ []; blocks = []; regions = n ∷ []; values = [] }
  mentions (DropOpUses n) = record { ops = n ∷ []; blocks = []; regions = []; values = [] }
  mentions (DropBlockUses n) = record { ops = []; blocks = n ∷ []; regions = []; values = [] }
  mentions (DropRegionUses n) = record { ops = []; blocks = []; regions = n ∷ []; values = [] }
  mentions (EraseOp n) = record { ops = n ∷ []; blocks = []; regions = []; values = [] }
  mentions (EraseBlock n) = record { ops = []; blocks = n ∷ []; regions = []; values = [] }
  mentions (EraseRegion n at) = record { ops = n ∷ []; blocks = []; regions = []; values = [] }

  -- the edit names an entity or a value that is listed and not live in this session
  pub data NamesDead (s : Session W) (edit : Edit W) : Type 0 where
    a_dead_op : (n : ℕ) (o : ArenaIndex) → In n (mentions edit).ops → slice_get s.state.tables.ops n ≡ Some o → (live_op s.state o → ⊥) → NamesDead s edit
    a_dead_block : (n : ℕ) (b : ArenaIndex) → In n (mentions edit).blocks → slice_get s.state.tables.blocks n ≡ Some b → (live_block s.state b → ⊥) → NamesDead s edit
    a_dead_region : (n : ℕ) (r : ArenaIndex) → In n (mentions edit).regions → slice_get s.state.tables.regions n ≡ Some r → (live_region s.state r → ⊥) → NamesDead s edit
    a_dead_value : (n : ℕ) (v : Value context_ids) → In n (mentions edit).values → slice_get s.state.tables.values n ≡ Some v → (IsLiveNamed s.state.forest (a_value v) → ⊥) → NamesDead s edit

module _ (W : Dialect) (B : Behaviour W) where
  -- an edit that names what is dead before a run is refused for its condition after it
  abbrev pub DeadAreRefused : Type 0
  DeadAreRefused =
      (edits : List (Edit W)) (s t u : Session W) (answers : List Answer) (edit : Edit W) (a : Answer)
      → Sound s → Run B s edits answers t → Step B t edit a u → NamesDead s edit → a ≡ Refused ForCondition
