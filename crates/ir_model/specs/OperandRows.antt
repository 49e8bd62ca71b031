-- What edits of operands and successors lead to, each beside a neighbour to which it does not lead.
use Rattle.std.specs.Prelude.{List, [], ◌∷◌}
use Rattle.ir_model.specs.declared.answer.Answer.TheVariants.{Done}
use Rattle.ir_model.specs.Ids.{Fresh}
use Rattle.ir_model.specs.Forest.{Operand, Successor}
use Rattle.ir_model.specs.Edits.{State, PushOperand, PushSuccessor, InsertOperand, InsertSuccessor, RemoveOperand, RemoveSuccessor, ReplaceOperand, ReplaceSuccessor, ReplaceAllUses, RetargetAll}
use Rattle.ir_model.specs.EditStart.{o1, b0, b1, b2, v0, v2, v4, v6, u0, u1, u2, u3, u4, u5, u6, u8, u9, u11, row_ids, row_dialect, result, argument, operand, successor, named, operation, root, giver, taker, brancher, spare, holder, inner, blocks_then, regions_then, with_records, made, nothing, Leads}

-- one use number is made
abbrev pub one_use : Fresh row_ids
one_use = made [] [] [] [] (u11 ∷ [])

-- ## Operands of one operation

-- o2 has these operands, and all else is as at the start
abbrev pub operands_are : List (Operand row_ids) → State row_ids row_dialect
operands_are operands = with_records (root ∷ giver ∷ operation 4 [] operands [] [] ∷ brancher ∷ spare ∷ holder ∷ inner ∷ []) blocks_then regions_then

-- an operand stands where it is put, under a new use number, and the others keep their order and theirs
pub record OperandRows : Type 0 where
  -- last, not first
  pub push :
      Leads (PushOperand 2 4) one_use Done
      (operands_are (operand u0 (result o1 v0) ∷ operand u1 (result o1 v2) ∷ operand u2 (result o1 v0) ∷ operand u11 (argument b0 v4) ∷ []))
      (operands_are (operand u11 (argument b0 v4) ∷ operand u0 (result o1 v0) ∷ operand u1 (result o1 v2) ∷ operand u2 (result o1 v0) ∷ []))
  -- at its place, not first
  pub insert :
      Leads (InsertOperand 2 1 4) one_use Done
      (operands_are (operand u0 (result o1 v0) ∷ operand u11 (argument b0 v4) ∷ operand u1 (result o1 v2) ∷ operand u2 (result o1 v0) ∷ []))
      (operands_are (operand u11 (argument b0 v4) ∷ operand u0 (result o1 v0) ∷ operand u1 (result o1 v2) ∷ operand u2 (result o1 v0) ∷ []))
  -- the second is taken out, not the first
  pub remove :
      Leads (RemoveOperand 2 1) nothing Done
      (operands_are (operand u0 (result o1 v0) ∷ operand u2 (result o1 v0) ∷ []))
      (operands_are (operand u1 (result o1 v2) ∷ operand u2 (result o1 v0) ∷ []))
  -- the last operand does not fill the place of the first
  pub remove_first :
      Leads (RemoveOperand 2 0) nothing Done
      (operands_are (operand u1 (result o1 v2) ∷ operand u2 (result o1 v0) ∷ []))
      (operands_are (operand u2 (result o1 v0) ∷ operand u1 (result o1 v2) ∷ []))
  -- the new one has not the number of the old one
  pub replace :
      Leads (ReplaceOperand 2 1 4) one_use Done
      (operands_are (operand u0 (result o1 v0) ∷ operand u11 (argument b0 v4) ∷ operand u2 (result o1 v0) ∷ []))
      (operands_are (operand u0 (result o1 v0) ∷ operand u1 (argument b0 v4) ∷ operand u2 (result o1 v0) ∷ []))

-- ## Successors of one operation

-- o3 has these successors, and all else is as at the start
abbrev pub successors_are : List (Successor row_ids) → State row_ids row_dialect
successors_are successors = with_records (root ∷ giver ∷ taker ∷ operation 3 [] (operand u3 (result o1 v0) ∷ []) successors [] ∷ spare ∷ holder ∷ inner ∷ []) blocks_then regions_then

-- a successor stands where it is put, under a new use number, and the others keep their order and theirs
pub record SuccessorRows : Type 0 where
  -- last, not first
  pub push :
      Leads (PushSuccessor 3 0) one_use Done
      (successors_are (successor u4 b1 ∷ successor u5 b2 ∷ successor u6 b1 ∷ successor u11 b0 ∷ []))
      (successors_are (successor u11 b0 ∷ successor u4 b1 ∷ successor u5 b2 ∷ successor u6 b1 ∷ []))
  -- at its place, not last
  pub insert :
      Leads (InsertSuccessor 3 2 0) one_use Done
      (successors_are (successor u4 b1 ∷ successor u5 b2 ∷ successor u11 b0 ∷ successor u6 b1 ∷ []))
      (successors_are (successor u4 b1 ∷ successor u5 b2 ∷ successor u6 b1 ∷ successor u11 b0 ∷ []))
  -- the second is taken out, not the first
  pub remove :
      Leads (RemoveSuccessor 3 1) nothing Done
      (successors_are (successor u4 b1 ∷ successor u6 b1 ∷ []))
      (successors_are (successor u5 b2 ∷ successor u6 b1 ∷ []))
  -- the new one stands in the old one's place, not last
  pub replace :
      Leads (ReplaceSuccessor 3 1 0) one_use Done
      (successors_are (successor u4 b1 ∷ successor u11 b0 ∷ successor u6 b1 ∷ []))
      (successors_are (successor u4 b1 ∷ successor u6 b1 ∷ successor u11 b0 ∷ []))

-- ## All uses of a definition

-- o2's operands are these, those of o3 and o6 name a value, and all else is as at the start
abbrev pub users_are : List (Operand row_ids) → Operand row_ids → Operand row_ids → State row_ids row_dialect
users_are operands of_brancher of_inner = with_records
    (root
    ∷ giver
    ∷ operation 4 [] operands [] []
    ∷ operation 3 [] (of_brancher ∷ []) (successor u4 b1 ∷ successor u5 b2 ∷ successor u6 b1 ∷ []) []
    ∷ spare
    ∷ holder
    ∷ operation 3 (named v6 0 ∷ []) (of_inner ∷ []) (successor u9 b1 ∷ []) []
    ∷ [])
    blocks_then regions_then

-- o3's successors are these, that of o6 names a block, and all else is as at the start
abbrev pub branches_are : List (Successor row_ids) → Successor row_ids → State row_ids row_dialect
branches_are successors of_inner = with_records
    (root
    ∷ giver
    ∷ taker
    ∷ operation 3 [] (operand u3 (result o1 v0) ∷ []) successors []
    ∷ spare
    ∷ holder
    ∷ operation 3 (named v6 0 ∷ []) (operand u8 (result o1 v0) ∷ []) (of_inner ∷ []) []
    ∷ [])
    blocks_then regions_then

-- whatever names the one names the other, in each operation, under the number it had
pub record ReplaceAllRows : Type 0 where
  -- the uses keep their numbers
  pub values :
      Leads (ReplaceAllUses 0 4) nothing Done
      (users_are (operand u0 (argument b0 v4) ∷ operand u1 (result o1 v2) ∷ operand u2 (argument b0 v4) ∷ []) (operand u3 (argument b0 v4)) (operand u8 (argument b0 v4)))
      (users_are (operand u0 (argument b0 v4) ∷ operand u1 (result o1 v2) ∷ operand u11 (argument b0 v4) ∷ []) (operand u3 (argument b0 v4)) (operand u8 (argument b0 v4)))
  -- also deep inside another operation
  pub blocks :
      Leads (RetargetAll 1 2) nothing Done
      (branches_are (successor u4 b2 ∷ successor u5 b2 ∷ successor u6 b2 ∷ []) (successor u9 b2))
      (branches_are (successor u4 b2 ∷ successor u5 b2 ∷ successor u6 b2 ∷ []) (successor u9 b1))
  -- where both are one, nothing changes
  pub one_value :
      Leads (ReplaceAllUses 0 0) nothing Done
      (users_are (operand u0 (result o1 v0) ∷ operand u1 (result o1 v2) ∷ operand u2 (result o1 v0) ∷ []) (operand u3 (result o1 v0)) (operand u8 (result o1 v0)))
      (users_are (operand u11 (result o1 v0) ∷ operand u1 (result o1 v2) ∷ operand u2 (result o1 v0) ∷ []) (operand u3 (result o1 v0)) (operand u8 (result o1 v0)))
  pub one_block :
      Leads (RetargetAll 1 1) nothing Done
      (branches_are (successor u4 b1 ∷ successor u5 b2 ∷ successor u6 b1 ∷ []) (successor u9 b1))
      (branches_are (successor u4 b2 ∷ successor u5 b1 ∷ successor u6 b2 ∷ []) (successor u9 b2))
