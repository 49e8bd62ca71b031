-- The state in which each edit is tried: things linked, used and nested, written as tables.
use Rattle.std.specs.Prelude.{ℕ, false, ◌≡◌, List, [], ◌∷◌, Some, None, slice_get, nat_eq}
use Rattle.ir_model.specs.declared.answer.Answer.{Answer}
use Rattle.ir_model.specs.Ids.{Ids, Fresh, counts}
use Rattle.ir_model.specs.Forest.{Dialect, Behaviour, Value, of_op, of_block, Operand, Successor, Definition, OpRecord, BlockRecord, Forest}
use Rattle.ir_model.specs.Edits.{Edit, State, Tables, StoredType, Change, answer, needs}

-- ## Names and types

-- names of operations; the last one is not made yet, and so with the names below
pub data OpName : Type 0 where
  o0 o1 o2 o3 o4 o5 o6 o7 : OpName

-- names of blocks
pub data BlockName : Type 0 where
  b0 b1 b2 b3 b4 b5 b6 : BlockName

-- names of regions; the last two are not made yet
pub data RegionName : Type 0 where
  r0 r1 r2 r3 r4 r5 r6 : RegionName

-- numbers of values; the last two are not given yet
pub data NumberName : Type 0 where
  v0 v1 v2 v3 v4 v5 v6 v7 v8 : NumberName

-- numbers of uses; the last four are not given yet
pub data UseName : Type 0 where
  u0 u1 u2 u3 u4 u5 u6 u7 u8 u9 u10 u11 u12 u13 u14 : UseName

-- the place of the operation in the tables
abbrev pub op_row : OpName → ℕ
op_row o0 = 0
op_row o1 = 1
op_row o2 = 2
op_row o3 = 3
op_row o4 = 4
op_row o5 = 5
op_row o6 = 6
op_row o7 = 7

-- the place of the block in the tables
abbrev pub block_row : BlockName → ℕ
block_row b0 = 0
block_row b1 = 1
block_row b2 = 2
block_row b3 = 3
block_row b4 = 4
block_row b5 = 5
block_row b6 = 6

-- the place of the region in the tables
abbrev pub region_row : RegionName → ℕ
region_row r0 = 0
region_row r1 = 1
region_row r2 = 2
region_row r3 = 3
region_row r4 = 4
region_row r5 = 5
region_row r6 = 6

-- the place of the number
abbrev pub number_row : NumberName → ℕ
number_row v0 = 0
number_row v1 = 1
number_row v2 = 2
number_row v3 = 3
number_row v4 = 4
number_row v5 = 5
number_row v6 = 6
number_row v7 = 7
number_row v8 = 8

-- ids and numbers are names, each kind with its own
abbrev pub row_ids : Ids
row_ids = record {
  Op = OpName;
  Block = BlockName;
  Region = RegionName;
  ValueNumber = NumberName;
  UseNumber = UseName;
  same_op = λ a b. nat_eq (op_row a) (op_row b);
  same_block = λ a b. nat_eq (block_row a) (block_row b);
  same_region = λ a b. nat_eq (region_row a) (region_row b);
  same_number = λ a b. nat_eq (number_row a) (number_row b);
}

-- a dialect whose types are whole numbers
abbrev pub row_dialect : Dialect
row_dialect = record { Key = ℕ; Body = ℕ; Attr = ℕ; Saved = ℕ; Aux = ℕ; Loc = ℕ }

-- a type that is stored anew has the body 77, and what is made is at the location 99
abbrev pub row_behaviour : Behaviour row_dialect
row_behaviour = record { same_key = nat_eq; first_body = 77; unknown = 99; op_impls = λ kind interface. false }

-- ## Records

-- the result of the operation under this number
abbrev pub result : OpName → NumberName → Value row_ids
result o n = record { definer = of_op o; number = n }

-- the argument of the block under this number
abbrev pub argument : BlockName → NumberName → Value row_ids
argument b n = record { definer = of_block b; number = n }

-- the operand with use number u that names v
abbrev pub operand : UseName → Value row_ids → Operand row_ids
operand u v = record { use_number = u; value = v }

-- the successor with use number u that names b
abbrev pub successor : UseName → BlockName → Successor row_ids
successor u b = record { use_number = u; block = b }

-- a result or argument that has a name
abbrev pub named : NumberName → ℕ → Definition row_ids row_dialect
named n ty = record { number = n; ty = ty; name = Some (120 ∷ []) }

-- a result or argument without a name
abbrev pub unnamed : NumberName → ℕ → Definition row_ids row_dialect
unnamed n ty = record { number = n; ty = ty; name = None }

-- an operation of a kind, with results, operands, successors and regions, one attribute and the location 9
abbrev pub operation : ℕ → List (Definition row_ids row_dialect) → List (Operand row_ids) → List (Successor row_ids) → List RegionName → OpRecord row_ids row_dialect
operation kind results operands successors regions = record {
  kind = kind;
  results = results;
  operands = operands;
  successors = successors;
  regions = regions;
  attributes = (97 ∷ [], 5) ∷ [];
  loc = 9;
}

-- a block with arguments and operations, a label, one attribute and the location 9
abbrev pub block : List (Definition row_ids row_dialect) → List OpName → BlockRecord row_ids row_dialect
block arguments ops = record { label = Some (98 ∷ []); arguments = arguments; ops = ops; attributes = (97 ∷ [], 6) ∷ []; loc = 9 }

-- ## The start

-- o0, which stands in no list, holds all but the spare ones
abbrev pub root : OpRecord row_ids row_dialect
root = operation 5 [] [] [] (r0 ∷ r3 ∷ r1 ∷ [])

-- o1 gives three results, of which the second has no use
abbrev pub giver : OpRecord row_ids row_dialect
giver = operation 0 (named v0 1 ∷ named v1 0 ∷ named v2 1 ∷ []) [] [] []

-- o2 names one result twice and another one between
abbrev pub taker : OpRecord row_ids row_dialect
taker = operation 4 [] (operand u0 (result o1 v0) ∷ operand u1 (result o1 v2) ∷ operand u2 (result o1 v0) ∷ []) [] []

-- o3 names a value, one block twice and another one between
abbrev pub brancher : OpRecord row_ids row_dialect
brancher = operation 3 [] (operand u3 (result o1 v0) ∷ []) (successor u4 b1 ∷ successor u5 b2 ∷ successor u6 b1 ∷ []) []

-- o4, which stands in no list, names a block and has an empty region
abbrev pub spare : OpRecord row_ids row_dialect
spare = operation 7 [] [] (successor u10 b2 ∷ []) (r2 ∷ [])

-- o5 names an argument, and holds the block b5
abbrev pub holder : OpRecord row_ids row_dialect
holder = operation 6 [] (operand u7 (argument b0 v3) ∷ []) [] (r4 ∷ [])

-- o6, deep inside o5, names a value and a block from outside
abbrev pub inner : OpRecord row_ids row_dialect
inner = operation 3 (named v6 0 ∷ []) (operand u8 (result o1 v0) ∷ []) (successor u9 b1 ∷ []) []

-- b0 has three arguments and three operations
abbrev pub entry : BlockRecord row_ids row_dialect
entry = block (named v3 1 ∷ named v4 0 ∷ named v5 1 ∷ []) (o1 ∷ o2 ∷ o3 ∷ [])

-- b1, b2 and b3 are empty; b3 stands in no list
abbrev pub empty : BlockRecord row_ids row_dialect
empty = block [] []

-- the rows are the records of the names in their order, and a name behind the last row has none
abbrev pub forest : List (OpRecord row_ids row_dialect) → List (BlockRecord row_ids row_dialect) → List (List BlockName) → Forest row_ids row_dialect
forest ops blocks regions = record {
  ops = λ o. slice_get ops (op_row o);
  blocks = λ b. slice_get blocks (block_row b);
  regions = λ r. slice_get regions (region_row r);
}

-- the operations at the start
abbrev pub ops_then : List (OpRecord row_ids row_dialect)
ops_then = root ∷ giver ∷ taker ∷ brancher ∷ spare ∷ holder ∷ inner ∷ []

-- the blocks at the start
abbrev pub blocks_then : List (BlockRecord row_ids row_dialect)
blocks_then = entry ∷ empty ∷ empty ∷ empty ∷ block [] (o5 ∷ []) ∷ block [] (o6 ∷ []) ∷ []

-- the regions at the start
abbrev pub regions_then : List (List BlockName)
regions_then = (b0 ∷ b1 ∷ b2 ∷ []) ∷ [] ∷ [] ∷ (b4 ∷ []) ∷ (b5 ∷ []) ∷ []

-- two stored types
abbrev pub store_then : List (StoredType row_dialect)
store_then = record { key = 32; body = 7 } ∷ record { key = 64; body = 8 } ∷ []

-- the tables at the start: the second type was made first, and all else in the order of the names
abbrev pub tables_then : Tables row_ids
tables_then = record {
  types = 1 ∷ 0 ∷ [];
  ops = o0 ∷ o1 ∷ o2 ∷ o3 ∷ o4 ∷ o5 ∷ o6 ∷ [];
  blocks = b0 ∷ b1 ∷ b2 ∷ b3 ∷ b4 ∷ b5 ∷ [];
  regions = r0 ∷ r1 ∷ r2 ∷ r3 ∷ r4 ∷ [];
  values = result o1 v0 ∷ result o1 v1 ∷ result o1 v2 ∷ argument b0 v3 ∷ argument b0 v4 ∷ argument b0 v5 ∷ result o6 v6 ∷ [];
}

-- the types and tables of the start over other records
abbrev pub with_records : List (OpRecord row_ids row_dialect) → List (BlockRecord row_ids row_dialect) → List (List BlockName) → State row_ids row_dialect
with_records ops blocks regions = record { forest = forest ops blocks regions; store = store_then; tables = tables_then }

-- the start
abbrev pub start : State row_ids row_dialect
start = with_records ops_then blocks_then regions_then

-- ## What an edit leads to

-- ids and numbers that an edit makes
abbrev pub made : List OpName → List BlockName → List RegionName → List NumberName → List UseName → Fresh row_ids
made ops blocks regions numbers uses = record { ops = ops; blocks = blocks; regions = regions; numbers = numbers; uses = uses }

-- from the start the edit, which makes these, leads to this state and to no other, not to the neighbour, and is answered so
pub record Leads (edit : Edit row_dialect) (new : Fresh row_ids) (given : Answer) (t neighbour : State row_ids row_dialect) : Type 0 where
  pub there : Change row_behaviour start edit new t
  pub nowhere_else : (other : State row_ids row_dialect) → Change row_behaviour start edit new other → other ≡ t
  pub not_beside : Change row_behaviour start edit new neighbour → ⊥
  pub answered : answer start edit ≡ given
  pub makes : needs edit ≡ counts row_ids new

-- from the start the edit, which makes these, does not lead to this state
abbrev pub LeadsNot : Edit row_dialect → Fresh row_ids → State row_ids row_dialect → Type 0
LeadsNot edit new t = Change row_behaviour start edit new t → ⊥

-- nothing is made
abbrev pub nothing : Fresh row_ids
nothing = made [] [] [] [] []
