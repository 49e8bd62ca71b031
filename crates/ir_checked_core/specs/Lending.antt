-- What a context ends as, where what may be written of an operation or a block is lent, or a condition doesn't hold.
use Rattle.std.specs.Prelude.{Result}
use Rattle.std.specs.Borrow.{LendsIfOk, Fml, RattleType, MutBor}
use Rattle.std.specs.HashMap.Lent.{HashMembers}
use Rattle.std.specs.declared.default.Default as default
use Rattle.ir_base_dialects.specs.declared.dialects.Dialects as dialects
use Rattle.ir_model.specs.declared.ids.ArenaIndex.{ArenaIndex}
use Rattle.ir_core_records.specs.declared.record.OperationMut.{OperationMut}
use Rattle.ir_core_records.specs.declared.record.BasicBlockMut.{BasicBlockMut}
use Rattle.ir_core_context.specs.Lending.{block_rest_row, context_row, op_rest_row, with_block_rest, with_op_rest}
use Rattle.ir_core_context.specs.State.{ContextState}
use Rattle.ir_checked_core.specs.declared.error.CheckedErr.{CheckedErr}

module _ (D Attr Key Body Saved Aux Loc : RattleType) (tables : dialects.Ghosts D.Denot Attr.Denot Key.Denot Body.Denot Saved.Denot Aux.Denot Loc.Denot) (attr : HashMembers Attr.Denot) (key : HashMembers Key.Denot) (body : default.Ghosts Body.Denot) (saved : HashMembers Saved.Denot) (loc : default.Ghosts Loc.Denot) where
  -- once the borrow r ends, the operation has what was written last through r; at `Err` the context stays as it is
  abbrev pub lends_checked_op : MutBor (ContextState D.Denot Attr.Denot Key.Denot Body.Denot Saved.Denot Aux.Denot Loc.Denot) → ArenaIndex → Result (MutBor (OperationMut D.Denot Attr.Denot Key.Denot Body.Denot Saved.Denot Aux.Denot Loc.Denot)) CheckedErr → Fml
  lends_checked_op s o r = LendsIfOk (context_row D Attr Key Body Saved Aux Loc tables attr key body saved loc) (op_rest_row D Attr Key Body Saved Aux Loc tables attr key body saved loc) s r (with_op_rest s.now o) s.now

  -- once the borrow r ends, the block has what was written last through r; at `Err` the context stays as it is
  abbrev pub lends_checked_block : MutBor (ContextState D.Denot Attr.Denot Key.Denot Body.Denot Saved.Denot Aux.Denot Loc.Denot) → ArenaIndex → Result (MutBor (BasicBlockMut D.Denot Attr.Denot Key.Denot Body.Denot Saved.Denot Aux.Denot Loc.Denot)) CheckedErr → Fml
  lends_checked_block s b r = LendsIfOk (context_row D Attr Key Body Saved Aux Loc tables attr key body saved loc) (block_rest_row D Attr Key Body Saved Aux Loc tables attr key body saved loc) s r (with_block_rest s.now b) s.now
