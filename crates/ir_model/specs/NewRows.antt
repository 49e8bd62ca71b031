-- What edits that make types and entities lead to, each beside a neighbour to which it does not lead.
use Rattle.std.specs.Prelude.{ℕ, List, [], ◌∷◌, Some}
use Rattle.ir_model.specs.declared.answer.Answer.TheVariants.{Made}
use Rattle.ir_model.specs.Ids.{Fresh}
use Rattle.ir_model.specs.Forest.{Definition, Operand, Successor, Value}
use Rattle.ir_model.specs.Edits.{State, StoredType, NewType, NewOp, NewBlock, AddRegion}
use Rattle.ir_model.specs.EditStart.{RegionName, o0, o1, o2, o3, o4, o5, o6, o7, b0, b1, b2, b3, b4, b5, b6, r0, r1, r2, r3, r4, r5, r6, v0, v1, v2, v3, v4, v5, v6, v7, v8, u11, u12, u13, u14, row_ids, row_dialect, result, argument, operand, successor, unnamed, operation, block, root, giver, taker, brancher, spare, holder, inner, entry, empty, ops_then, blocks_then, regions_then, store_then, tables_then, forest, start, made, nothing, Leads, LeadsNot}

-- ## Types

-- the start with these stored types and this table of types
abbrev pub types_are : List (StoredType row_dialect) → List ℕ → State row_ids row_dialect
types_are store types = record start { store = store; tables = record tables_then { types = types } }

-- a type is stored once, and each one that is asked for gets an entry
pub record TypeRows : Type 0 where
  -- the key 64 is there, and so its handle is listed again
  pub known :
      Leads (NewType 64) nothing (Made 2)
      (types_are (record { key = 32; body = 7 } ∷ record { key = 64; body = 8 } ∷ []) (1 ∷ 0 ∷ 1 ∷ []))
      (types_are (record { key = 32; body = 7 } ∷ record { key = 64; body = 8 } ∷ record { key = 64; body = 77 } ∷ []) (1 ∷ 0 ∷ 2 ∷ []))
  -- the key 48 is not there: it goes last, not first
  pub unknown :
      Leads (NewType 48) nothing (Made 2)
      (types_are (record { key = 32; body = 7 } ∷ record { key = 64; body = 8 } ∷ record { key = 48; body = 77 } ∷ []) (1 ∷ 0 ∷ 2 ∷ []))
      (types_are (record { key = 48; body = 77 } ∷ record { key = 32; body = 7 } ∷ record { key = 64; body = 8 } ∷ []) (1 ∷ 0 ∷ 0 ∷ []))
  -- an entry is added also where the type is known
  pub always_listed : LeadsNot (NewType 64) nothing start

-- ## Operations

-- what a new operation with two results, two operands, two successors and two regions takes
abbrev pub for_an_op : Fresh row_ids
for_an_op = made (o7 ∷ []) [] (r5 ∷ r6 ∷ []) (v7 ∷ v8 ∷ []) (u11 ∷ u12 ∷ u13 ∷ u14 ∷ [])

-- o7 is there with these results, operands and successors, no attributes and the location 99; its regions are empty; the tables list it, the regions and the values
abbrev pub new_op_is : List (Definition row_ids row_dialect) → List (Operand row_ids) → List (Successor row_ids) → List RegionName → List (Value row_ids) → State row_ids row_dialect
new_op_is results operands successors regions values = record {
  forest = forest
      (root ∷ giver ∷ taker ∷ brancher ∷ spare ∷ holder ∷ inner ∷ record { kind = 2; results = results; operands = operands; successors = successors; regions = r5 ∷ r6 ∷ []; attributes = []; loc = 99 } ∷ [])
      blocks_then
      ((b0 ∷ b1 ∷ b2 ∷ []) ∷ [] ∷ [] ∷ (b4 ∷ []) ∷ (b5 ∷ []) ∷ [] ∷ [] ∷ []);
  store = store_then;
  tables = record {
    types = 1 ∷ 0 ∷ [];
    ops = o0 ∷ o1 ∷ o2 ∷ o3 ∷ o4 ∷ o5 ∷ o6 ∷ o7 ∷ [];
    blocks = b0 ∷ b1 ∷ b2 ∷ b3 ∷ b4 ∷ b5 ∷ [];
    regions = regions;
    values = values;
  };
}

-- the values that the tables list at the start, and these two
abbrev pub values_and_two : Value row_ids → Value row_ids → List (Value row_ids)
values_and_two v w = result o1 v0 ∷ result o1 v1 ∷ result o1 v2 ∷ argument b0 v3 ∷ argument b0 v4 ∷ argument b0 v5 ∷ result o6 v6 ∷ v ∷ w ∷ []

-- the new numbers go to the results in order, to the operands, and then to the successors
pub record NewOpRows : Type 0 where
  -- the successors are not numbered before the operands
  pub made_whole :
      Leads (NewOp 2 (0 ∷ 1 ∷ []) (0 ∷ 4 ∷ []) (2 ∷ 1 ∷ []) 2) for_an_op (Made 7)
      (new_op_is
      (unnamed v7 1 ∷ unnamed v8 0 ∷ [])
      (operand u11 (result o1 v0) ∷ operand u12 (argument b0 v4) ∷ [])
      (successor u13 b2 ∷ successor u14 b1 ∷ [])
      (r0 ∷ r1 ∷ r2 ∷ r3 ∷ r4 ∷ r5 ∷ r6 ∷ [])
      (values_and_two (result o7 v7) (result o7 v8)))
      (new_op_is
      (unnamed v7 1 ∷ unnamed v8 0 ∷ [])
      (operand u13 (result o1 v0) ∷ operand u14 (argument b0 v4) ∷ [])
      (successor u11 b2 ∷ successor u12 b1 ∷ [])
      (r0 ∷ r1 ∷ r2 ∷ r3 ∷ r4 ∷ r5 ∷ r6 ∷ [])
      (values_and_two (result o7 v7) (result o7 v8)))
  -- its regions are listed
  pub regions_listed :
      LeadsNot (NewOp 2 (0 ∷ 1 ∷ []) (0 ∷ 4 ∷ []) (2 ∷ 1 ∷ []) 2) for_an_op
      (new_op_is
      (unnamed v7 1 ∷ unnamed v8 0 ∷ [])
      (operand u11 (result o1 v0) ∷ operand u12 (argument b0 v4) ∷ [])
      (successor u13 b2 ∷ successor u14 b1 ∷ [])
      (r0 ∷ r1 ∷ r2 ∷ r3 ∷ r4 ∷ [])
      (values_and_two (result o7 v7) (result o7 v8)))
  -- its results are listed in order
  pub results_in_order :
      LeadsNot (NewOp 2 (0 ∷ 1 ∷ []) (0 ∷ 4 ∷ []) (2 ∷ 1 ∷ []) 2) for_an_op
      (new_op_is
      (unnamed v7 1 ∷ unnamed v8 0 ∷ [])
      (operand u11 (result o1 v0) ∷ operand u12 (argument b0 v4) ∷ [])
      (successor u13 b2 ∷ successor u14 b1 ∷ [])
      (r0 ∷ r1 ∷ r2 ∷ r3 ∷ r4 ∷ r5 ∷ r6 ∷ [])
      (values_and_two (result o7 v8) (result o7 v7)))

-- ## Blocks and regions

-- what a new block with two arguments takes
abbrev pub for_a_block : Fresh row_ids
for_a_block = made [] (b6 ∷ []) [] (v7 ∷ v8 ∷ []) []

-- b6 is there with a label and these arguments, no operations, no attributes and the location 99; the tables list it and the values
abbrev pub new_block_is : List (Definition row_ids row_dialect) → List (Value row_ids) → State row_ids row_dialect
new_block_is arguments values = record {
  forest = forest
      ops_then
      (entry ∷ empty ∷ empty ∷ empty ∷ block [] (o5 ∷ []) ∷ block [] (o6 ∷ []) ∷ record { label = Some (108 ∷ []); arguments = arguments; ops = []; attributes = []; loc = 99 } ∷ [])
      regions_then;
  store = store_then;
  tables = record tables_then { blocks = b0 ∷ b1 ∷ b2 ∷ b3 ∷ b4 ∷ b5 ∷ b6 ∷ []; values = values };
}

-- what a new region takes
abbrev pub for_a_region : Fresh row_ids
for_a_region = made [] [] (r5 ∷ []) [] []

-- o0 has these regions, r5 is there and empty, and the tables list it
abbrev pub new_region_is : List RegionName → State row_ids row_dialect
new_region_is regions = record {
  forest = forest
      (operation 5 [] [] [] regions ∷ giver ∷ taker ∷ brancher ∷ spare ∷ holder ∷ inner ∷ [])
      blocks_then
      ((b0 ∷ b1 ∷ b2 ∷ []) ∷ [] ∷ [] ∷ (b4 ∷ []) ∷ (b5 ∷ []) ∷ [] ∷ []);
  store = store_then;
  tables = record tables_then { regions = r0 ∷ r1 ∷ r2 ∷ r3 ∷ r4 ∷ r5 ∷ [] };
}

-- a block comes with its arguments in order, and a region goes last
pub record NewBlockRows : Type 0 where
  -- the arguments are listed too
  pub of_a_block :
      Leads (NewBlock (Some (108 ∷ [])) (1 ∷ 0 ∷ [])) for_a_block (Made 6)
      (new_block_is (unnamed v7 0 ∷ unnamed v8 1 ∷ []) (values_and_two (argument b6 v7) (argument b6 v8)))
      (new_block_is (unnamed v7 0 ∷ unnamed v8 1 ∷ []) tables_then.values)
  -- last, not first
  pub of_a_region :
      Leads (AddRegion 0) for_a_region (Made 5)
      (new_region_is (r0 ∷ r3 ∷ r1 ∷ r5 ∷ []))
      (new_region_is (r5 ∷ r0 ∷ r3 ∷ r1 ∷ []))
