-- Which edits may be made from one state, each beside a neighbour that may not.
use Rattle.std.specs.Prelude.{[], ◌∷◌, None}
use Rattle.ir_model.specs.Edits.{Edit, Condition, NewType, NewOp, NewBlock, AddRegion, PushResult, PushArgument, InsertResult, InsertArgument, RemoveResult, RemoveArgument, PushOperand, PushSuccessor, InsertOperand, InsertSuccessor, RemoveOperand, RemoveSuccessor, ReplaceOperand, ReplaceSuccessor, ReplaceAllUses, RetargetAll, OpFront, OpBack, OpBefore, OpAfter, UnlinkOp, UnlinkBlock, BlockFront, BlockBack, BlockBefore, BlockAfter, AppendOps, AppendBlocks, MoveRegion, DropOpUses, DropBlockUses, DropRegionUses, EraseOp, EraseBlock, EraseRegion}
use Rattle.ir_model.specs.EditStart.{row_dialect, start}

-- at the start the first edit may be made, and the second, its neighbour, may not
pub record May (edit neighbour : Edit row_dialect) : Type 0 where
  pub allowed : Condition start edit
  pub refused : Condition start neighbour → ⊥

-- what is named has to be in the tables
pub record MayMake : Type 0 where
  pub any_type : Condition start (NewType 48)
  -- two types are listed
  pub op : May (NewOp 2 (0 ∷ 1 ∷ []) (0 ∷ 4 ∷ []) (2 ∷ 1 ∷ []) 2) (NewOp 2 (0 ∷ 2 ∷ []) (0 ∷ 4 ∷ []) (2 ∷ 1 ∷ []) 2)
  -- seven values are listed
  pub op_operands : Condition start (NewOp 2 (0 ∷ 1 ∷ []) (0 ∷ 7 ∷ []) (2 ∷ 1 ∷ []) 2) → ⊥
  -- six blocks are listed
  pub op_successors : Condition start (NewOp 2 (0 ∷ 1 ∷ []) (0 ∷ 4 ∷ []) (2 ∷ 6 ∷ []) 2) → ⊥
  pub block : May (NewBlock None (1 ∷ 0 ∷ [])) (NewBlock None (1 ∷ 2 ∷ []))
  -- seven operations are listed
  pub region : May (AddRegion 0) (AddRegion 7)

-- a place for a new result or argument is at most the length, and one that is taken out has no use
pub record MayDefine : Type 0 where
  pub push_result : May (PushResult 1 0) (PushResult 1 2)
  pub push_argument : May (PushArgument 0 1) (PushArgument 6 1)
  -- o1 has three results
  pub insert_result : May (InsertResult 1 3 1) (InsertResult 1 4 1)
  -- b0 has three arguments
  pub insert_argument : May (InsertArgument 0 3 0) (InsertArgument 0 4 0)
  -- the first result has uses
  pub remove_result : May (RemoveResult 1 1) (RemoveResult 1 0)
  -- the first argument has a use
  pub remove_argument : May (RemoveArgument 0 1) (RemoveArgument 0 0)
  -- there is no fourth one
  pub no_fourth_result : Condition start (RemoveResult 1 3) → ⊥
  pub no_fourth_argument : Condition start (RemoveArgument 0 3) → ⊥

-- a place for a new operand or successor is at most the length, and one that is taken out or replaced is there
pub record MayUse : Type 0 where
  pub push_operand : May (PushOperand 2 4) (PushOperand 2 7)
  pub push_successor : May (PushSuccessor 3 0) (PushSuccessor 3 6)
  -- o2 has three operands
  pub insert_operand : May (InsertOperand 2 3 4) (InsertOperand 2 4 4)
  -- o3 has three successors
  pub insert_successor : May (InsertSuccessor 3 3 0) (InsertSuccessor 3 4 0)
  pub remove_operand : May (RemoveOperand 2 2) (RemoveOperand 2 3)
  pub remove_successor : May (RemoveSuccessor 3 2) (RemoveSuccessor 3 3)
  pub replace_operand : May (ReplaceOperand 2 2 4) (ReplaceOperand 2 3 4)
  pub replace_successor : May (ReplaceSuccessor 3 2 0) (ReplaceSuccessor 3 3 0)
  pub replace_all : May (ReplaceAllUses 0 4) (ReplaceAllUses 0 7)
  -- o4, which stands in no list, names b2
  pub retarget_all : May (RetargetAll 1 2) (RetargetAll 2 1)

-- what is put somewhere is unlinked and does not go into itself, and what it goes beside is linked
pub record MayList : Type 0 where
  -- o2 is linked
  pub op_front : May (OpFront 4 0) (OpFront 2 1)
  -- b4 is inside o0
  pub op_back : May (OpBack 4 0) (OpBack 0 4)
  -- o0 is not linked
  pub op_before : May (OpBefore 4 2) (OpBefore 4 0)
  -- the block of o2 is inside o0
  pub op_after : May (OpAfter 4 2) (OpAfter 0 2)
  -- o4 and b3 are not linked
  pub unlink_op : May (UnlinkOp 2) (UnlinkOp 4)
  pub unlink_block : May (UnlinkBlock 1) (UnlinkBlock 3)
  -- b1 and b2 are linked, b3 is not
  pub block_front : May (BlockFront 3 0) (BlockFront 1 1)
  pub block_back : May (BlockBack 3 0) (BlockBack 2 1)
  pub block_before : May (BlockBefore 3 1) (BlockBefore 3 3)
  pub block_after : May (BlockAfter 3 1) (BlockAfter 2 1)

-- what is joined or moved does not go into itself
pub record MayJoinLists : Type 0 where
  -- b5 is inside an operation of b4
  pub append_ops : May (AppendOps 4 0) (AppendOps 5 4)
  -- a region is not joined to itself
  pub append_blocks : May (AppendBlocks 3 0) (AppendBlocks 0 0)
  -- r4 is inside a block of r3
  pub append_inside : Condition start (AppendBlocks 4 3) → ⊥
  -- o6 is inside r3
  pub move_region : May (MoveRegion 3 4) (MoveRegion 3 6)

-- uses of anything may be dropped, and what is named from outside is not erased
pub record MayRemove : Type 0 where
  pub drop_op : May (DropOpUses 5) (DropOpUses 7)
  pub drop_block : May (DropBlockUses 4) (DropBlockUses 6)
  pub drop_region : May (DropRegionUses 0) (DropRegionUses 5)
  -- a result of o1 has uses
  pub erase_op : May (EraseOp 5) (EraseOp 1)
  -- an operation outside b1 names it
  pub erase_block : May (EraseBlock 4) (EraseBlock 1)
  -- a value that is defined inside r0 has a use outside
  pub erase_region : May (EraseRegion 0 1) (EraseRegion 0 0)
