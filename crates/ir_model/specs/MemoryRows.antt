-- Which edits may run out of memory, and which never do.
use Rattle.std.specs.Prelude.{List, [], ◌∷◌, None}
use Rattle.ir_model.specs.Edits.{Edit, MayRunOut, NewType, NewOp, NewBlock, AddRegion, PushResult, PushArgument, InsertResult, InsertArgument, RemoveResult, RemoveArgument, PushOperand, PushSuccessor, InsertOperand, InsertSuccessor, RemoveOperand, RemoveSuccessor, ReplaceOperand, ReplaceSuccessor, ReplaceAllUses, RetargetAll, OpFront, OpBack, OpBefore, OpAfter, UnlinkOp, UnlinkBlock, BlockFront, BlockBack, BlockBefore, BlockAfter, AppendOps, AppendBlocks, MoveRegion, DropOpUses, DropBlockUses, DropRegionUses, EraseOp, EraseBlock, EraseRegion}
use Rattle.ir_model.specs.EditStart.{row_dialect, start}

-- P holds of each of the edits
abbrev pub OfEach : (Edit row_dialect → Type 0) → List (Edit row_dialect) → Type 0
OfEach P [] = Unit {0}
OfEach P (edit ∷ edits) = P edit × OfEach P edits

-- at the start these edits may run out of memory, and those never do
pub record MemoryRows : Type 0 where
  pub grow :
      OfEach (MayRunOut start)
      (NewType 48
      ∷ NewOp 2 (0 ∷ 1 ∷ []) (0 ∷ 4 ∷ []) (2 ∷ 1 ∷ []) 2
      ∷ NewBlock None (1 ∷ 0 ∷ [])
      ∷ AddRegion 0
      ∷ PushResult 1 0
      ∷ PushArgument 0 1
      ∷ InsertResult 1 1 1
      ∷ InsertArgument 0 2 0
      ∷ PushOperand 2 4
      ∷ PushSuccessor 3 0
      ∷ InsertOperand 2 1 4
      ∷ InsertSuccessor 3 2 0
      ∷ ReplaceOperand 2 1 4
      ∷ ReplaceSuccessor 3 1 0
      ∷ ReplaceAllUses 0 4
      ∷ RetargetAll 1 2
      ∷ MoveRegion 3 4
      ∷ [])
  pub do_not_grow :
      OfEach (λ edit. MayRunOut start edit → ⊥)
      (RemoveResult 1 1
      ∷ RemoveArgument 0 1
      ∷ RemoveOperand 2 1
      ∷ RemoveSuccessor 3 1
      ∷ OpFront 4 0
      ∷ OpBack 4 0
      ∷ OpBefore 4 2
      ∷ OpAfter 4 2
      ∷ UnlinkOp 2
      ∷ UnlinkBlock 1
      ∷ BlockFront 3 0
      ∷ BlockBack 3 0
      ∷ BlockBefore 3 1
      ∷ BlockAfter 3 1
      ∷ AppendOps 4 0
      ∷ AppendBlocks 3 0
      ∷ DropOpUses 5
      ∷ DropBlockUses 4
      ∷ DropRegionUses 0
      ∷ EraseOp 5
      ∷ EraseBlock 4
      ∷ EraseRegion 0 1
      ∷ [])
  -- nor where nothing is to be done: one value, one block, and a region that is at home
  pub nothing_to_do : OfEach (λ edit. MayRunOut start edit → ⊥) (ReplaceAllUses 0 0 ∷ RetargetAll 1 1 ∷ MoveRegion 3 0 ∷ [])
