-- What edits of results and arguments lead to, each beside a neighbour to which it does not lead.
use Rattle.std.specs.Prelude.{List, [], ◌∷◌}
use Rattle.ir_model.specs.declared.answer.Answer.TheVariants.{Made, Done}
use Rattle.ir_model.specs.Ids.{Fresh}
use Rattle.ir_model.specs.Forest.{Definition, Value}
use Rattle.ir_model.specs.Edits.{State, PushResult, PushArgument, InsertResult, InsertArgument, RemoveResult, RemoveArgument}
use Rattle.ir_model.specs.EditStart.{o1, o2, o3, o5, o6, b0, v0, v1, v2, v3, v4, v5, v6, v7, row_ids, row_dialect, result, argument, named, unnamed, operation, block, root, taker, brancher, spare, holder, inner, empty, ops_then, blocks_then, regions_then, tables_then, with_records, made, nothing, Leads}

-- one value number is made
abbrev pub one_number : Fresh row_ids
one_number = made [] [] [] (v7 ∷ []) []

-- the values that the tables list at the start, and this one
abbrev pub values_and : Value row_ids → List (Value row_ids)
values_and v = result o1 v0 ∷ result o1 v1 ∷ result o1 v2 ∷ argument b0 v3 ∷ argument b0 v4 ∷ argument b0 v5 ∷ result o6 v6 ∷ v ∷ []

-- o1 has these results, and all else is as at the start
abbrev pub results_are : List (Definition row_ids row_dialect) → State row_ids row_dialect
results_are results = with_records (root ∷ operation 0 results [] [] [] ∷ taker ∷ brancher ∷ spare ∷ holder ∷ inner ∷ []) blocks_then regions_then

-- b0 has these arguments, and all else is as at the start
abbrev pub arguments_are : List (Definition row_ids row_dialect) → State row_ids row_dialect
arguments_are arguments = with_records ops_then (block arguments (o1 ∷ o2 ∷ o3 ∷ []) ∷ empty ∷ empty ∷ empty ∷ block [] (o5 ∷ []) ∷ block [] (o6 ∷ []) ∷ []) regions_then

-- the state, with this value behind the others in the table
abbrev pub listing : Value row_ids → State row_ids row_dialect → State row_ids row_dialect
listing v s = record s { tables = record tables_then { values = values_and v } }

-- a new result stands where it is put, has no name, and its value is listed; one that is taken out stays listed
pub record ResultRows : Type 0 where
  -- the first entry of the table of types is the second type
  pub push :
      Leads (PushResult 1 0) one_number (Made 7)
      (listing (result o1 v7) (results_are (named v0 1 ∷ named v1 0 ∷ named v2 1 ∷ unnamed v7 1 ∷ [])))
      (listing (result o1 v7) (results_are (named v0 1 ∷ named v1 0 ∷ named v2 1 ∷ unnamed v7 0 ∷ [])))
  -- at its place, not first
  pub insert :
      Leads (InsertResult 1 1 1) one_number (Made 7)
      (listing (result o1 v7) (results_are (named v0 1 ∷ unnamed v7 0 ∷ named v1 0 ∷ named v2 1 ∷ [])))
      (listing (result o1 v7) (results_are (unnamed v7 0 ∷ named v0 1 ∷ named v1 0 ∷ named v2 1 ∷ [])))
  -- the second is taken out, not the first
  pub remove :
      Leads (RemoveResult 1 1) nothing Done
      (results_are (named v0 1 ∷ named v2 1 ∷ []))
      (results_are (named v1 0 ∷ named v2 1 ∷ []))

-- a new argument stands where it is put, has no name, and its value is listed; one that is taken out stays listed
pub record ArgumentRows : Type 0 where
  -- the value is listed
  pub push :
      Leads (PushArgument 0 1) one_number (Made 7)
      (listing (argument b0 v7) (arguments_are (named v3 1 ∷ named v4 0 ∷ named v5 1 ∷ unnamed v7 0 ∷ [])))
      (arguments_are (named v3 1 ∷ named v4 0 ∷ named v5 1 ∷ unnamed v7 0 ∷ []))
  -- at its place, not last
  pub insert :
      Leads (InsertArgument 0 2 0) one_number (Made 7)
      (listing (argument b0 v7) (arguments_are (named v3 1 ∷ named v4 0 ∷ unnamed v7 1 ∷ named v5 1 ∷ [])))
      (listing (argument b0 v7) (arguments_are (named v3 1 ∷ named v4 0 ∷ named v5 1 ∷ unnamed v7 1 ∷ [])))
  -- the second is taken out, not the last
  pub remove :
      Leads (RemoveArgument 0 1) nothing Done
      (arguments_are (named v3 1 ∷ named v5 1 ∷ []))
      (arguments_are (named v3 1 ∷ named v4 0 ∷ []))
