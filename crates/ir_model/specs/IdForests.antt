-- Forests of a few entities whose ids are slots and versions, written as tables.
use Rattle.std.specs.Prelude.{ℕ, List, [], Option, None, if◌then◌else◌}
use Rattle.ir_model.specs.declared.ids.ArenaIndex.{ArenaIndex}
use Rattle.ir_model.specs.ContextIds.{context_ids, same_id}
use Rattle.ir_model.specs.Forest.{Successor, OpRecord, BlockRecord}
use Rattle.ir_model.specs.SmallForests.{bare}

-- the first id of the first slot
abbrev pub first : ArenaIndex
first = record { slot = 1; version = 1 }

-- the first id of the second slot
abbrev pub second : ArenaIndex
second = record { slot = 2; version = 1 }

-- the first id of the third slot
abbrev pub third : ArenaIndex
third = record { slot = 3; version = 1 }

-- the second id of the first slot
abbrev pub first_again : ArenaIndex
first_again = record { slot = 1; version = 3 }

-- the records of the first three ids
abbrev pub three : {R : Type 0} → Option R → Option R → Option R → ArenaIndex → Option R
three a b c i = if same_id i first then a else (if same_id i second then b else (if same_id i third then c else None))

-- an operation of a kind, with successors and regions
abbrev pub op_of_kind : ℕ → List (Successor context_ids) → List ArenaIndex → OpRecord context_ids bare
op_of_kind kind successors regions = record { kind = kind; results = []; operands = []; successors = successors; regions = regions; attributes = []; loc = tt }

-- a block without a label, with these operations
abbrev pub block_with : List ArenaIndex → BlockRecord context_ids bare
block_with ops = record { label = None; arguments = []; ops = ops; attributes = []; loc = tt }
