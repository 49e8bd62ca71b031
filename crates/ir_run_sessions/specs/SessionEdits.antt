-- What the edits of a program mean.
use Rattle.ir_model.specs.Edits.{Edit as PlainEdit, NewType as PlainNewType, NewOp as PlainNewOp, NewBlock as PlainNewBlock, AddRegion as PlainAddRegion, OpFront as PlainOpFront, OpBack as PlainOpBack, OpBefore as PlainOpBefore, OpAfter as PlainOpAfter, UnlinkOp as PlainUnlinkOp, BlockFront as PlainBlockFront, BlockBack as PlainBlockBack, BlockBefore as PlainBlockBefore, BlockAfter as PlainBlockAfter, UnlinkBlock as PlainUnlinkBlock, AppendOps as PlainAppendOps, AppendBlocks as PlainAppendBlocks, MoveRegion as PlainMoveRegion, PushResult as PlainPushResult, InsertResult as PlainInsertResult, RemoveResult as PlainRemoveResult, PushArgument as PlainPushArgument, InsertArgument as PlainInsertArgument, RemoveArgument as PlainRemoveArgument, PushOperand as PlainPushOperand, InsertOperand as PlainInsertOperand, RemoveOperand as PlainRemoveOperand, ReplaceOperand as PlainReplaceOperand, PushSuccessor as PlainPushSuccessor, InsertSuccessor as PlainInsertSuccessor, RemoveSuccessor as PlainRemoveSuccessor, ReplaceSuccessor as PlainReplaceSuccessor, ReplaceAllUses as PlainReplaceAllUses, RetargetAll as PlainRetargetAll, DropOpUses as PlainDropOpUses, DropBlockUses as PlainDropBlockUses, DropRegionUses as PlainDropRegionUses, EraseOp as PlainEraseOp, EraseBlock as PlainEraseBlock, EraseRegion as PlainEraseRegion}
use Rattle.ir_core_records.specs.Meaning.{closed}
use Rattle.ir_run_edits.specs.declared.edit.Edit.{Edit}
use Rattle.ir_run_edits.specs.declared.edit.Edit.TheVariants.{NewType, NewOp, NewBlock, AddRegion, OpFront, OpBack, OpBefore, OpAfter, UnlinkOp, BlockFront, BlockBack, BlockBefore, BlockAfter, UnlinkBlock, AppendOps, AppendBlocks, MoveRegion, PushResult, InsertResult, RemoveResult, PushArgument, InsertArgument, RemoveArgument, PushOperand, InsertOperand, RemoveOperand, ReplaceOperand, PushSuccessor, InsertSuccessor, RemoveSuccessor, ReplaceSuccessor, ReplaceAllUses, RetargetAll, DropOpUses, DropBlockUses, DropRegionUses, EraseOp, EraseBlock, EraseRegion}

module _ {D A K B S X L : Type 0} where
  -- the edit, its lists of numbers as plain lists
  abbrev pub edit_of : Edit D A K B S X L → PlainEdit (closed A K B S X L)
  edit_of (NewType key) = PlainNewType key
  edit_of (NewOp kind types operands successors regions) = PlainNewOp kind types.items operands.items successors.items regions
  edit_of (NewBlock label types) = PlainNewBlock label types.items
  edit_of (AddRegion op) = PlainAddRegion op
  edit_of (OpFront op block) = PlainOpFront op block
  edit_of (OpBack op block) = PlainOpBack op block
  edit_of (OpBefore op mark) = PlainOpBefore op mark
  edit_of (OpAfter op mark) = PlainOpAfter op mark
  edit_of (UnlinkOp op) = PlainUnlinkOp op
  edit_of (BlockFront block region) = PlainBlockFront block region
  edit_of (BlockBack block region) = PlainBlockBack block region
  edit_of (BlockBefore block mark) = PlainBlockBefore block mark
  edit_of (BlockAfter block mark) = PlainBlockAfter block mark
  edit_of (UnlinkBlock block) = PlainUnlinkBlock block
  edit_of (AppendOps donee donor) = PlainAppendOps donee donor
  edit_of (AppendBlocks donee donor) = PlainAppendBlocks donee donor
  edit_of (MoveRegion region op) = PlainMoveRegion region op
  edit_of (PushResult op ty) = PlainPushResult op ty
  edit_of (InsertResult op at ty) = PlainInsertResult op at ty
  edit_of (RemoveResult op at) = PlainRemoveResult op at
  edit_of (PushArgument block ty) = PlainPushArgument block ty
  edit_of (InsertArgument block at ty) = PlainInsertArgument block at ty
  edit_of (RemoveArgument block at) = PlainRemoveArgument block at
  edit_of (PushOperand op value) = PlainPushOperand op value
  edit_of (InsertOperand op at value) = PlainInsertOperand op at value
  edit_of (RemoveOperand op at) = PlainRemoveOperand op at
  edit_of (ReplaceOperand op at value) = PlainReplaceOperand op at value
  edit_of (PushSuccessor op block) = PlainPushSuccessor op block
  edit_of (InsertSuccessor op at block) = PlainInsertSuccessor op at block
  edit_of (RemoveSuccessor op at) = PlainRemoveSuccessor op at
  edit_of (ReplaceSuccessor op at block) = PlainReplaceSuccessor op at block
  edit_of (ReplaceAllUses old new) = PlainReplaceAllUses old new
  edit_of (RetargetAll old new) = PlainRetargetAll old new
  edit_of (DropOpUses op) = PlainDropOpUses op
  edit_of (DropBlockUses block) = PlainDropBlockUses block
  edit_of (DropRegionUses region) = PlainDropRegionUses region
  edit_of (EraseOp op) = PlainEraseOp op
  edit_of (EraseBlock block) = PlainEraseBlock block
  edit_of (EraseRegion op at) = PlainEraseRegion op at
