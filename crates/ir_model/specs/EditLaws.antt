-- Laws of single edits and of two in turn: what is unlinked goes back, and what is replaced leaves its uses to the other.
use Rattle.std.specs.Prelude.{◌≡◌, ◌≢◌, ℕ, length, Some, slice_get}
use Rattle.ir_model.specs.declared.ids.ArenaIndex.{ArenaIndex}
use Rattle.ir_model.specs.ContextIds.{context_ids}
use Rattle.ir_model.specs.Ids.{Fresh}
use Rattle.ir_model.specs.Forest.{Dialect, Behaviour, Value, an_op, a_block, a_value, the_block}
use Rattle.ir_model.specs.Nesting.{WellFormed, ops_of, blocks_of}
use Rattle.ir_model.specs.Parent.{ComesAfter, first_of}
use Rattle.ir_model.specs.Edits.{State, Condition, Change, TheOp, TheBlock, TheRegion, UnlinkOp, OpAfter, OpFront, UnlinkBlock, BlockAfter, BlockFront, ReplaceAllUses, RetargetAll}
use Rattle.ir_model.specs.DefinitionLaws.{TakesUses}

module _ {W : Dialect} (B : Behaviour W) (s : State context_ids W) where
  -- the operation with number n comes right after the one with number m
  abbrev pub OpComesAfter : ℕ → ℕ → Type 0
  OpComesAfter n m = TheOp s n λ o. TheOp s m λ mark. ComesAfter s.forest (an_op mark) (an_op o)

  -- the operation with number n is the first of the block with number m
  abbrev pub OpIsFirst : ℕ → ℕ → Type 0
  OpIsFirst n m = TheOp s n λ o. TheBlock s m λ b. first_of (ops_of s.forest b) ≡ Some o

  -- the block with number n comes right after the one with number m
  abbrev pub BlockComesAfter : ℕ → ℕ → Type 0
  BlockComesAfter n m = TheBlock s n λ b. TheBlock s m λ mark. ComesAfter s.forest (a_block mark) (a_block b)

  -- the block with number n is the first of the region with number m
  abbrev pub BlockIsFirst : ℕ → ℕ → Type 0
  BlockIsFirst n m = TheBlock s n λ b. TheRegion s m λ g. first_of (blocks_of s.forest g) ≡ Some b

  -- what one edit unlinks and another puts back behind what stood before it, or at the front where nothing did, leaves the state as it was
  pub record EditsGoBack : Type 0 where
    pub op_after : (n m : ℕ) (new other : Fresh context_ids) (t u : State context_ids W) → OpComesAfter n m → Change B s (UnlinkOp n) new t → Change B t (OpAfter n m) other u → u ≡ s
    pub op_front : (n m : ℕ) (new other : Fresh context_ids) (t u : State context_ids W) → OpIsFirst n m → Change B s (UnlinkOp n) new t → Change B t (OpFront n m) other u → u ≡ s
    pub block_after : (n m : ℕ) (new other : Fresh context_ids) (t u : State context_ids W) → BlockComesAfter n m → Change B s (UnlinkBlock n) new t → Change B t (BlockAfter n m) other u → u ≡ s
    pub block_front : (n m : ℕ) (new other : Fresh context_ids) (t u : State context_ids W) → BlockIsFirst n m → Change B s (UnlinkBlock n) new t → Change B t (BlockFront n m) other u → u ≡ s

  -- and the edit that puts back may be made
  pub record MayGoBack : Type 0 where
    pub op_after : (n m : ℕ) (new : Fresh context_ids) (t : State context_ids W) → OpComesAfter n m → Change B s (UnlinkOp n) new t → Condition t (OpAfter n m)
    pub op_front : (n m : ℕ) (new : Fresh context_ids) (t : State context_ids W) → OpIsFirst n m → Change B s (UnlinkOp n) new t → Condition t (OpFront n m)
    pub block_after : (n m : ℕ) (new : Fresh context_ids) (t : State context_ids W) → BlockComesAfter n m → Change B s (UnlinkBlock n) new t → Condition t (BlockAfter n m)
    pub block_front : (n m : ℕ) (new : Fresh context_ids) (t : State context_ids W) → BlockIsFirst n m → Change B s (UnlinkBlock n) new t → Condition t (BlockFront n m)

  -- the edit that replaces a value by another one leaves it all its uses, and by itself changes nothing
  pub record ReplaceTakesUses : Type 0 where
    pub other : (n m : ℕ) (v w : Value context_ids) (new : Fresh context_ids) (t : State context_ids W)
        → slice_get s.tables.values n ≡ Some v → slice_get s.tables.values m ≡ Some w → v ≢ w → Change B s (ReplaceAllUses n m) new t → TakesUses s.forest t.forest (a_value v) (a_value w)
    pub itself : (n m : ℕ) (v : Value context_ids) (new : Fresh context_ids) (t : State context_ids W)
        → slice_get s.tables.values n ≡ Some v → slice_get s.tables.values m ≡ Some v → Change B s (ReplaceAllUses n m) new t → t ≡ s

  -- the edit that retargets a block to another one leaves it all its uses, and to itself changes nothing
  pub record RetargetTakesUses : Type 0 where
    pub other : (n m : ℕ) (b c : ArenaIndex) (new : Fresh context_ids) (t : State context_ids W)
        → slice_get s.tables.blocks n ≡ Some b → slice_get s.tables.blocks m ≡ Some c → b ≢ c → Change B s (RetargetAll n m) new t → TakesUses s.forest t.forest (the_block b) (the_block c)
    pub itself : (n m : ℕ) (b : ArenaIndex) (new : Fresh context_ids) (t : State context_ids W)
        → slice_get s.tables.blocks n ≡ Some b → slice_get s.tables.blocks m ≡ Some b → Change B s (RetargetAll n m) new t → t ≡ s

module _ (W : Dialect) (B : Behaviour W) where
  -- in every state whose forest is well formed, edits that unlink and put back leave the state as it was
  abbrev pub UnlinkEditsGoBack : Type 0
  UnlinkEditsGoBack = (s : State context_ids W) → WellFormed s.forest (length s.store) → EditsGoBack B s

  -- in every such state what was unlinked may be put back
  abbrev pub UnlinkedMayGoBack : Type 0
  UnlinkedMayGoBack = (s : State context_ids W) → WellFormed s.forest (length s.store) → MayGoBack B s

  -- in every such state an edit that replaces a value leaves all its uses to the other
  abbrev pub ReplaceEditsTakeUses : Type 0
  ReplaceEditsTakeUses = (s : State context_ids W) → WellFormed s.forest (length s.store) → ReplaceTakesUses B s

  -- in every such state an edit that retargets a block leaves all its uses to the other
  abbrev pub RetargetEditsTakeUses : Type 0
  RetargetEditsTakeUses = (s : State context_ids W) → WellFormed s.forest (length s.store) → RetargetTakesUses B s
