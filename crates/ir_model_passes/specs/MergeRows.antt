-- Which operations of small blocks are alike and which are not, and what is a merging of two of them and what is not.
use Rattle.std.specs.Prelude.{ℕ, List, [], ◌∷◌, None}
use Rattle.ir_model.specs.Forest.{Operand, OpRecord, Forest}
use Rattle.ir_model.specs.SmallForests.{Small, n0, n1, n2, n3, n4, small_ids, table, result, operand, successor}
use Rattle.ir_model_passes.specs.Merging.{Alike, MergesOne, OperandsMoveBack}
use Rattle.ir_model_passes.specs.InOrder.{InOrder}
use Rattle.ir_model_passes.specs.MarkedForests.{marked, two_pure, same_mark, constant, effect, block_with, one_block, two_marks, one_mark}
use Rattle.ir_model_passes.specs.WrongPasses.{used_between, named_behind}

-- whether n0 and n1 are alike, in a block where these are their records
abbrev pub AreAlike : OpRecord small_ids marked → OpRecord small_ids marked → Type 0
AreAlike one other = Alike two_pure same_mark (one_block (one ∷ other ∷ []) (n0 ∷ n1 ∷ [])) n0 n1

-- a pure operation that names the value of n4
abbrev pub negation : Small → Small → OpRecord small_ids marked
negation number use_number = record (constant number 1) { operands = operand use_number (result n4 n4) ∷ [] }

-- a pure operation with two results of different types
abbrev pub pair : Small → Small → OpRecord small_ids marked
pair first second = record (constant first 1) { results = record { number = first; ty = 0; name = None } ∷ record { number = second; ty = 1; name = None } ∷ [] }

-- what makes two operations alike, part by part
pub record AlikeRows : Type 0 where
  -- one kind, equal attributes, no operands
  pub constants : AreAlike (constant n0 1) (constant n1 1)
  -- the same operands, under use numbers of their own
  pub operands : AreAlike (negation n0 n0) (negation n1 n1)
  pub locations_may_differ : AreAlike (constant n0 1) (record (constant n1 1) { loc = 7 })
  pub other_attributes : AreAlike (constant n0 1) (constant n1 2) → ⊥
  pub other_kind : AreAlike (constant n0 1) (record (constant n1 1) { kind = 2 }) → ⊥
  pub other_operands : AreAlike (negation n0 n0) (record (constant n1 1) { operands = operand n1 (result n3 n3) ∷ [] }) → ⊥
  pub other_types : AreAlike (constant n0 1) (record (constant n1 1) { results = record { number = n1; ty = 1; name = None } ∷ [] }) → ⊥
  pub more_results : AreAlike (constant n0 1) (pair n1 n2) → ⊥
  pub effects : AreAlike (record (constant n0 1) { kind = 1 }) (record (constant n1 1) { kind = 1 }) → ⊥
  pub with_regions : AreAlike (record (constant n0 1) { regions = n0 ∷ [] }) (record (constant n1 1) { regions = n1 ∷ [] }) → ⊥
  pub with_successors : AreAlike (record (constant n0 1) { successors = successor n2 n0 ∷ [] }) (record (constant n1 1) { successors = successor n3 n0 ∷ [] }) → ⊥

-- an operation with an effect, which names two values of one operation
abbrev pub names_two : Small → Small → Small → OpRecord small_ids marked
names_two definer first second = record (effect (result definer first)) { operands = operand n0 (result definer first) ∷ operand n1 (result definer second) ∷ [] }

-- two pairs, and behind them n1, which names the results of the second
abbrev pub two_pairs : Forest small_ids marked
two_pairs = one_block (pair n0 n1 ∷ names_two n2 n2 n3 ∷ pair n2 n3 ∷ []) (n0 ∷ n2 ∷ n1 ∷ [])

-- the second is gone, and n1 names these results of the first
abbrev pub one_pair : Small → Small → Forest small_ids marked
one_pair first second = one_block (pair n0 n1 ∷ names_two n0 first second ∷ []) (n0 ∷ n1 ∷ [])

-- n1 names the first constant, and the second is still there
abbrev pub uses_moved : Forest small_ids marked
uses_moved = one_block (constant n0 1 ∷ effect (result n0 n0) ∷ constant n2 1 ∷ []) (n0 ∷ n2 ∷ n1 ∷ [])

-- the first block has the constant n0, the second the constant n2 and n1, which names it
abbrev pub two_blocks : Forest small_ids marked
two_blocks = record (two_marks 1 1) { blocks = table (block_with (n0 ∷ []) ∷ block_with (n2 ∷ n1 ∷ []) ∷ []) }

-- n2 is gone, and n1 names n0 of the other block
abbrev pub named_across : Forest small_ids marked
named_across = record (one_mark 1) { blocks = table (block_with (n0 ∷ []) ∷ block_with (n1 ∷ []) ∷ []) }

-- what is a merging of two operations of a block, and what is not
pub record MergeRows : Type 0 where
  -- the later of two constants goes, and what named it names the earlier
  pub merged : MergesOne two_pure same_mark (two_marks 1 1) n0 (one_mark 1)
  -- each result of the later is replaced by that of the earlier at the same place
  pub place_by_place : MergesOne two_pure same_mark two_pairs n0 (one_pair n0 n1)
  pub places_swapped : MergesOne two_pure same_mark two_pairs n0 (one_pair n1 n0) → ⊥
  pub other_attributes : MergesOne two_pure same_mark (two_marks 1 2) n0 (one_mark 1) → ⊥
  pub left_in_place : MergesOne two_pure same_mark (two_marks 1 1) n0 uses_moved → ⊥
  pub into_the_later : MergesOne two_pure same_mark used_between n0 named_behind → ⊥
  pub across_blocks : (b : Small) → MergesOne two_pure same_mark two_blocks b named_across → ⊥
  pub in_another_block : MergesOne two_pure same_mark (two_marks 1 1) n1 (one_mark 1) → ⊥

-- which operands moved back, and which did not
pub record MoveRows : Type 0 where
  pub back : OperandsMoveBack (two_marks 1 1) (one_mark 1)
  -- what gave the value is still there
  pub not_gone : OperandsMoveBack (two_marks 1 1) uses_moved → ⊥
  pub other_use_number : OperandsMoveBack (two_marks 1 1) (one_block (constant n0 1 ∷ record (effect (result n0 n0)) { operands = operand n1 (result n0 n0) ∷ [] } ∷ []) (n0 ∷ n1 ∷ [])) → ⊥
  pub operand_gone : OperandsMoveBack (two_marks 1 1) (one_block (constant n0 1 ∷ record (effect (result n0 n0)) { operands = [] } ∷ []) (n0 ∷ n1 ∷ [])) → ⊥
  pub to_another_block : OperandsMoveBack two_blocks named_across → ⊥

-- which blocks are in order
pub record OrderRows : Type 0 where
  pub in_order : InOrder (two_marks 1 1) n0
  -- an operation stands before one whose result it names
  pub out_of_order : InOrder (one_block (constant n0 1 ∷ effect (result n0 n0) ∷ []) (n1 ∷ n0 ∷ [])) n0 → ⊥
  -- an operation that names its own result does not stand before itself
  pub own_result : InOrder (one_block (record (constant n0 1) { operands = operand n0 (result n0 n0) ∷ [] } ∷ []) (n0 ∷ [])) n0
  -- what is named in another block counts for nothing
  pub other_block : InOrder two_blocks n1
