-- What a context ends as, where a `&mut` to auxiliary data is returned.
use Rattle.std.specs.Prelude.{◌≡◌, Option}
use Rattle.std.specs.Borrow.{LendsIf, Fml, RattleType, MutBor}
use Rattle.std.specs.HashMap.Lent.{HashMembers}
use Rattle.std.specs.declared.default.Default as default
use Rattle.ir_base_dialects.specs.declared.dialects.Dialects as dialects
use Rattle.ir_model.specs.declared.ids.ArenaIndex.{ArenaIndex}
use Rattle.ir_model.specs.AuxData.{write_aux}
use Rattle.ir_core_data.specs.Side.{with_written}
use Rattle.ir_core_context.specs.Calls.{SameButSide}
use Rattle.ir_core_context.specs.Lending.{context_row}
use Rattle.ir_core_context.specs.State.{ContextState, bare}

module _ {D A K B S X L : Type 0} where
  -- the context with this written of the data under an index
  abbrev pub with_aux_written : ContextState D A K B S X L → ArenaIndex → X → ContextState D A K B S X L
  with_aux_written s i value = record s { side = with_written s.side i value }

  -- whatever is written is the data under the index, and nothing else has changed
  pub record WritesAux (s : ContextState D A K B S X L) (i : ArenaIndex) : Type 0 where
    pub beside : (value : X) → (bare (with_aux_written s i value)).beside ≡ write_aux (bare s).beside i value
    pub same : (value : X) → SameButSide (bare s) (bare (with_aux_written s i value))

module _ (D Attr Key Body Saved Aux Loc : RattleType) (tables : dialects.Ghosts D.Denot Attr.Denot Key.Denot Body.Denot Saved.Denot Aux.Denot Loc.Denot) (attr : HashMembers Attr.Denot) (key : HashMembers Key.Denot) (body : default.Ghosts Body.Denot) (saved : HashMembers Saved.Denot) (loc : default.Ghosts Loc.Denot) where
  -- once the borrow r ends, the data under the index has what was written last through r; at `None` the context stays as it is
  abbrev pub lends_aux : MutBor (ContextState D.Denot Attr.Denot Key.Denot Body.Denot Saved.Denot Aux.Denot Loc.Denot) → ArenaIndex → Option (MutBor Aux.Denot) → Fml
  lends_aux s i r = LendsIf (context_row D Attr Key Body Saved Aux Loc tables attr key body saved loc) Aux s r (with_aux_written s.now i) s.now
