-- Forests of a few entities, written as tables.
use Rattle.std.specs.Prelude.{ℕ, Bool, true, List, [], ◌∷◌, map, Option, None, slice_get, slice_index_or, nat_eq, ◌==◌}
use Rattle.ir_model.specs.Ids.{Ids}
use Rattle.ir_model.specs.Forest.{Dialect, Behaviour, Value, of_op, Operand, Successor, Definition, OpRecord, BlockRecord, Forest}
use Rattle.ir_model.specs.Edits.{State}
use Rattle.ir_model.specs.BlockGraph.{is_terminator_interface, no_terminator_interface, pure_interface}

-- six names, for operations, blocks, regions, values and uses alike
pub data Small : Type 0 where
  n0 n1 n2 n3 n4 n5 : Small

-- the place of what has the name
abbrev pub place : Small → ℕ
place n0 = 0
place n1 = 1
place n2 = 2
place n3 = 3
place n4 = 4
place n5 = 5

-- whether the names are one
abbrev pub same_small : Small → Small → Bool
same_small a b = nat_eq (place a) (place b)

-- ids and numbers that are small names
abbrev pub small_ids : Ids
small_ids = record {
  Op = Small;
  Block = Small;
  Region = Small;
  ValueNumber = Small;
  UseNumber = Small;
  same_op = same_small;
  same_block = same_small;
  same_region = same_small;
  same_number = same_small;
}

-- a dialect whose types say nothing
abbrev pub bare : Dialect
bare = record { Key = Unit {0}; Body = Unit {0}; Attr = Unit {0}; Saved = Unit {0}; Aux = Unit {0}; Loc = Unit {0} }

-- kinds 0 and 1 are pure (6), 2 and 3 end blocks (1), 5 has blocks without terminators (2)
abbrev pub behaviour : Behaviour bare
behaviour = record {
  same_key = λ a b. true;
  first_body = tt;
  unknown = tt;
  op_impls = λ kind interface. slice_index_or (pure_interface ∷ pure_interface ∷ is_terminator_interface ∷ is_terminator_interface ∷ 0 ∷ no_terminator_interface ∷ []) kind 0 == interface;
}

-- the row of the name, where the table has one
abbrev pub table : {R : Type 0} → List R → Small → Option R
table rows n = slice_get rows (place n)

-- the value that operation o gives under number n
abbrev pub result : Small → Small → Value small_ids
result o n = record { definer = of_op o; number = n }

-- the operand with use number u that names v
abbrev pub operand : Small → Value small_ids → Operand small_ids
operand u v = record { use_number = u; value = v }

-- the successor with use number u that names b
abbrev pub successor : Small → Small → Successor small_ids
successor u b = record { use_number = u; block = b }

-- a result with the number n
abbrev pub definition : Small → Definition small_ids bare
definition n = record { number = n; ty = 0; name = None }

-- an operation of a kind, with results, operands, successors and regions
abbrev pub operation : ℕ → List Small → List (Operand small_ids) → List (Successor small_ids) → List Small → OpRecord small_ids bare
operation kind results operands successors regions = record {
  kind = kind;
  results = map definition results;
  operands = operands;
  successors = successors;
  regions = regions;
  attributes = [];
  loc = tt;
}

-- a block with these operations
abbrev pub block : List Small → BlockRecord small_ids bare
block ops = record { label = None; arguments = []; ops = ops; attributes = []; loc = tt }

-- the forest whose records are these rows: the first is that of n0, the second that of n1, and so on
abbrev pub forest : List (OpRecord small_ids bare) → List (BlockRecord small_ids bare) → List (List Small) → Forest small_ids bare
forest ops blocks regions = record { ops = table ops; blocks = table blocks; regions = table regions }

-- a session's state over the forest, whose tables name the entities in the order of their names
abbrev pub over_tables : Forest small_ids bare → List Small → List Small → List Small → List (Value small_ids) → State small_ids bare
over_tables f ops blocks regions values = record {
  forest = f;
  store = [];
  tables = record { types = []; ops = ops; blocks = blocks; regions = regions; values = values };
}
