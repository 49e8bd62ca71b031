-- What a context ends as, where a `&mut` to what callers may write of an operation or a block is returned.
use Rattle.std.specs.Prelude.{◌≡◌, ℕ, List, Option, Result}
use Rattle.std.specs.Borrow.{Lends, LendsIfOk, Fml, RattleType, MutBor}
use Rattle.std.specs.HashMap.Lent.{HashMembers}
use Rattle.std.specs.declared.default.Default as default
use Rattle.ir_base_dialects.specs.declared.dialects.Dialects as dialects
use Rattle.ir_model.specs.declared.ids.ArenaIndex.{ArenaIndex}
use Rattle.ir_model.specs.ContextIds.{context_ids}
use Rattle.ir_model.specs.Calls.{set_attributes, set_label, set_loc}
use Rattle.ir_model.specs.Forest.{Dialect, Forest, of_block, of_op}
use Rattle.ir_model.specs.Sessions.{Session}
use Rattle.ir_base_arenas.specs.Lists.{SameIds}
use Rattle.ir_core_records.specs.declared.record.OperationMut.{OperationMut}
use Rattle.ir_core_records.specs.declared.record.BasicBlockMut.{BasicBlockMut}
use Rattle.ir_core_records.specs.contracts.record.OperationMut.{the_row as operation_row}
use Rattle.ir_core_records.specs.contracts.record.BasicBlockMut.{the_row as block_row}
use Rattle.ir_core_records.specs.Lists.{edited}
use Rattle.ir_core_records.specs.Meaning.{closed}
use Rattle.ir_core_context.specs.contracts.context.Context.{the_row}
use Rattle.ir_core_context.specs.declared.error.DanglingPtrDerefError.{DanglingPtrDerefError}
use Rattle.ir_core_context.specs.Calls.{EntitiesStayLive, SameButForest, StayLive}
use Rattle.ir_core_context.specs.State.{ContextState, bare, forest_of}

module _ {D A K B S X L : Type 0} where
  -- the context with this written of the operation
  abbrev pub with_op_rest : ContextState D A K B S X L → ArenaIndex → OperationMut D A K B S X L → ContextState D A K B S X L
  with_op_rest s o rest = record s { records = record s.records { ops = edited (λ op. record op { rest = rest }) s.records.ops o } }

  -- the context with this written of the block
  abbrev pub with_block_rest : ContextState D A K B S X L → ArenaIndex → BasicBlockMut D A K B S X L → ContextState D A K B S X L
  with_block_rest s b rest = record s { records = record s.records { blocks = edited (λ x. record x { rest = rest }) s.records.blocks b } }

  -- the forest where the operation has these attributes and this location
  abbrev pub written_op : Forest context_ids (closed A K B S X L) → ArenaIndex → OperationMut D A K B S X L → Forest context_ids (closed A K B S X L)
  written_op f o rest = set_attributes (set_loc f (of_op o) rest.loc) (of_op o) rest.attributes

  -- the forest where the block has this label, these attributes and this location
  abbrev pub written_block : Forest context_ids (closed A K B S X L) → ArenaIndex → BasicBlockMut D A K B S X L → Forest context_ids (closed A K B S X L)
  written_block f b rest = set_attributes (set_loc (set_label f b rest.label) (of_block b) rest.loc) (of_block b) rest.attributes

  -- whatever is written of the operation is read there, and nothing else has changed
  pub record WritesOp (s : ContextState D A K B S X L) (o : ArenaIndex) : Type 0 where
    pub forest : (rest : OperationMut D A K B S X L) → forest_of (with_op_rest s o rest) ≡ written_op (forest_of s) o rest
    pub same : (rest : OperationMut D A K B S X L) → SameButForest (bare s) (bare (with_op_rest s o rest))
    pub ids : (rest : OperationMut D A K B S X L) → SameIds s.records.ops (with_op_rest s o rest).records.ops
    pub stay_live : (rest : OperationMut D A K B S X L) → StayLive (forest_of s) (forest_of (with_op_rest s o rest))
    pub entities_stay_live : (rest : OperationMut D A K B S X L) → EntitiesStayLive (forest_of s) (forest_of (with_op_rest s o rest))

  -- whatever is written of the block is read there, and nothing else has changed
  pub record WritesBlock (s : ContextState D A K B S X L) (b : ArenaIndex) : Type 0 where
    pub forest : (rest : BasicBlockMut D A K B S X L) → forest_of (with_block_rest s b rest) ≡ written_block (forest_of s) b rest
    pub same : (rest : BasicBlockMut D A K B S X L) → SameButForest (bare s) (bare (with_block_rest s b rest))
    pub ids : (rest : BasicBlockMut D A K B S X L) → SameIds s.records.blocks (with_block_rest s b rest).records.blocks
    pub stay_live : (rest : BasicBlockMut D A K B S X L) → StayLive (forest_of s) (forest_of (with_block_rest s b rest))
    pub entities_stay_live : (rest : BasicBlockMut D A K B S X L) → EntitiesStayLive (forest_of s) (forest_of (with_block_rest s b rest))

module _ (D Attr Key Body Saved Aux Loc : RattleType) (tables : dialects.Ghosts D.Denot Attr.Denot Key.Denot Body.Denot Saved.Denot Aux.Denot Loc.Denot) (attr : HashMembers Attr.Denot) (key : HashMembers Key.Denot) (body : default.Ghosts Body.Denot) (saved : HashMembers Saved.Denot) (loc : default.Ghosts Loc.Denot) where
  -- the types of the dialect's contexts, and of what callers may write of operations and blocks, as the logic holds them
  abbrev pub context_row : RattleType
  context_row = the_row D Attr Key Body Saved Aux Loc tables (record { eq = attr.eq }) (record { hash_input = attr.hash_input }) (record { eq = key.eq }) (record { hash_input = key.hash_input }) body (record { eq = saved.eq }) (record { hash_input = saved.hash_input }) loc

  abbrev pub op_rest_row : RattleType
  op_rest_row = operation_row D Attr Key Body Saved Aux Loc tables (record { eq = attr.eq }) (record { hash_input = attr.hash_input }) (record { eq = key.eq }) (record { hash_input = key.hash_input }) body (record { eq = saved.eq }) (record { hash_input = saved.hash_input }) loc

  abbrev pub block_rest_row : RattleType
  block_rest_row = block_row D Attr Key Body Saved Aux Loc tables (record { eq = attr.eq }) (record { hash_input = attr.hash_input }) (record { eq = key.eq }) (record { hash_input = key.hash_input }) body (record { eq = saved.eq }) (record { hash_input = saved.hash_input }) loc

  -- once the borrow r ends, the operation has what was written last through r
  abbrev pub lends_op : MutBor (ContextState D.Denot Attr.Denot Key.Denot Body.Denot Saved.Denot Aux.Denot Loc.Denot) → ArenaIndex → MutBor (OperationMut D.Denot Attr.Denot Key.Denot Body.Denot Saved.Denot Aux.Denot Loc.Denot) → Fml
  lends_op s o r = Lends context_row op_rest_row s r (with_op_rest s.now o)

  -- once the borrow r ends, the operation has what was written last through r; at `Err` the context stays as it is
  abbrev pub lends_live_op : MutBor (ContextState D.Denot Attr.Denot Key.Denot Body.Denot Saved.Denot Aux.Denot Loc.Denot) → ArenaIndex → Result (MutBor (OperationMut D.Denot Attr.Denot Key.Denot Body.Denot Saved.Denot Aux.Denot Loc.Denot)) DanglingPtrDerefError → Fml
  lends_live_op s o r = LendsIfOk context_row op_rest_row s r (with_op_rest s.now o) s.now

  -- once the borrow r ends, the block has what was written last through r
  abbrev pub lends_block : MutBor (ContextState D.Denot Attr.Denot Key.Denot Body.Denot Saved.Denot Aux.Denot Loc.Denot) → ArenaIndex → MutBor (BasicBlockMut D.Denot Attr.Denot Key.Denot Body.Denot Saved.Denot Aux.Denot Loc.Denot) → Fml
  lends_block s b r = Lends context_row block_rest_row s r (with_block_rest s.now b)

  -- once the borrow r ends, the block has what was written last through r; at `Err` the context stays as it is
  abbrev pub lends_live_block : MutBor (ContextState D.Denot Attr.Denot Key.Denot Body.Denot Saved.Denot Aux.Denot Loc.Denot) → ArenaIndex → Result (MutBor (BasicBlockMut D.Denot Attr.Denot Key.Denot Body.Denot Saved.Denot Aux.Denot Loc.Denot)) DanglingPtrDerefError → Fml
  lends_live_block s b r = LendsIfOk context_row block_rest_row s r (with_block_rest s.now b) s.now
