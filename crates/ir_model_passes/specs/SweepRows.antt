-- What a sweep of all inside an operation takes out of a small forest, and what it leaves.
use Rattle.std.specs.Prelude.{ℕ, List, [], ◌∷◌}
use Rattle.ir_model.specs.Forest.{Forest, an_op}
use Rattle.ir_model.specs.SmallForests.{Small, n0, n1, n2, n3, n4, n5, small_ids, table, result, operand}
use Rattle.ir_model_passes.specs.SweepInside.{DeadInside, SweptCount, NoneIsClosedInside, SweepsInside}
use Rattle.ir_model_passes.specs.MarkedForests.{marked, two_pure, constant, effect, block_with}

-- the pure operation n0 has a block with the pure operations n1, n2 and n3 in it; n3 names n2, and the unlinked effect n4 names n1; the pure operation n5 stands in an unlinked block
abbrev pub module_with_three : Forest small_ids marked
module_with_three = record {
  ops = table (record (constant n0 1) { regions = n0 ∷ [] } ∷ constant n1 1 ∷ constant n2 1 ∷ record (constant n3 1) { operands = operand n1 (result n2 n2) ∷ [] } ∷ effect (result n1 n1) ∷ constant n5 1 ∷ []);
  blocks = table (block_with (n1 ∷ n2 ∷ n3 ∷ []) ∷ block_with (n5 ∷ []) ∷ []);
  regions = table ((n0 ∷ []) ∷ []);
}

-- what is dead there, and what is not
pub record SweepRows : Type 0 where
  -- nothing names its result
  pub unnamed : DeadInside two_pure module_with_three (an_op n0) n3
  -- a dead operation alone names its result
  pub named_by_dead : DeadInside two_pure module_with_three (an_op n0) n2
  -- an operation outside names its result
  pub named_outside : DeadInside two_pure module_with_three (an_op n0) n1 → ⊥
  -- the root is not inside itself
  pub root_stays : DeadInside two_pure module_with_three (an_op n0) n0 → ⊥
  pub unlinked_stays : DeadInside two_pure module_with_three (an_op n0) n4 → ⊥
  -- it stands in another block
  pub outside_stays : DeadInside two_pure module_with_three (an_op n0) n5 → ⊥
  pub two_go : SweptCount two_pure module_with_three (an_op n0) 2
  pub not_one : SweptCount two_pure module_with_three (an_op n0) 1 → ⊥
  -- a dead operation is left
  pub dead_left : (count : ℕ) → SweepsInside two_pure module_with_three (an_op n0) module_with_three count → ⊥
  pub still_closed : NoneIsClosedInside two_pure (an_op n0) module_with_three → ⊥
