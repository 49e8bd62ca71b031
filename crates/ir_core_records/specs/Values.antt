-- What values and uses tell without a context, and when a use is live.
use Rattle.std.specs.Prelude.{Option, Some, None}
use Rattle.ir_model.specs.declared.ids.ArenaIndex.{ArenaIndex}
use Rattle.ir_model.specs.ContextIds.{context_ids}
use Rattle.ir_model.specs.Forest.{Dialect, Forest, Value, an_op, a_block, a_value}
use Rattle.ir_model.specs.Nesting.{In, IsLive, IsLiveNamed, operands_of, successors_of}
use Rattle.ir_model.specs.Uses.{Use}
use Rattle.ir_core_records.specs.declared.handles.DefiningEntity.{DefiningEntity}
use Rattle.ir_core_records.specs.declared.handles.DefiningEntity.TheVariants.{Op as OpHandle, Block as BlockHandle}
use Rattle.ir_core_records.specs.declared.record.Definer.{Definer}
use Rattle.ir_core_records.specs.declared.record.Definer.TheVariants.{Op, Block}

-- the operation, where an operation defines it
abbrev pub op_of : Definer → Option ArenaIndex
op_of (Op o) = Some o
op_of (Block b) = None

-- the block, where a block defines it
abbrev pub block_of : Definer → Option ArenaIndex
block_of (Op o) = None
block_of (Block b) = Some b

module _ {D A K B S X L : Type 0} where
  -- what defines a value, as an index
  abbrev pub entity_index : DefiningEntity D A K B S X L → Definer
  entity_index (OpHandle p) = Op p.index
  entity_index (BlockHandle p) = Block p.index

module _ {W : Dialect} where
  -- an operand of the live user has the use's number
  abbrev pub IsLiveUse : Forest context_ids W → Use context_ids → Type 0
  IsLiveUse f u = (v : Value context_ids) × In (record { use_number = u.number; value = v }) (operands_of f u.user)

  -- a successor of the live user has the use's number
  abbrev pub IsLiveBlockUse : Forest context_ids W → Use context_ids → Type 0
  IsLiveBlockUse f u = (b : ArenaIndex) × In (record { use_number = u.number; block = b }) (successors_of f u.user)

-- the operation is live wherever the value is
abbrev pub LiveWhereValue : Dialect → Value context_ids → ArenaIndex → Type 0
LiveWhereValue W v o = (f : Forest context_ids W) → IsLiveNamed f (a_value v) → IsLive f (an_op o)

-- the block is live wherever the value is
abbrev pub BlockLiveWhereValue : Dialect → Value context_ids → ArenaIndex → Type 0
BlockLiveWhereValue W v b = (f : Forest context_ids W) → IsLiveNamed f (a_value v) → IsLive f (a_block b)

-- the operation is live wherever the use of a value is
abbrev pub LiveWhereUse : Dialect → Use context_ids → ArenaIndex → Type 0
LiveWhereUse W u o = (f : Forest context_ids W) → IsLiveUse f u → IsLive f (an_op o)

-- the operation is live wherever the use of a block is
abbrev pub LiveWhereBlockUse : Dialect → Use context_ids → ArenaIndex → Type 0
LiveWhereBlockUse W u o = (f : Forest context_ids W) → IsLiveBlockUse f u → IsLive f (an_op o)
