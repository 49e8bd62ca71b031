-- Which blocks of a small region are reached, and what a removal of the others takes out.
use Rattle.std.specs.Prelude.{ℕ, List, [], ◌∷◌}
use Rattle.ir_model.specs.Forest.{OpRecord, Forest}
use Rattle.ir_model.specs.SmallForests.{Small, n0, n1, n2, n3, small_ids, table, successor}
use Rattle.ir_model_passes.specs.Unreached.{Reached, IsUnreached, RemovesUnreached}
use Rattle.ir_model_passes.specs.MarkedForests.{marked, constant, block_with}

-- an operation with an effect that names a block as its successor
abbrev pub jump : Small → Small → OpRecord small_ids marked
jump number target = record (constant number 1) { kind = 1; results = []; successors = successor number target ∷ [] }

-- the region has three blocks; in the first n0 names the second, and an operation stands behind it; in the third n2 names the second
abbrev pub three_blocks : Forest small_ids marked
three_blocks = record {
  ops = table (jump n0 n1 ∷ constant n1 1 ∷ jump n2 n1 ∷ []);
  blocks = table (block_with (n0 ∷ n1 ∷ []) ∷ block_with [] ∷ block_with (n2 ∷ []) ∷ []);
  regions = table ((n0 ∷ n1 ∷ n2 ∷ []) ∷ []);
}

-- the third block is gone with the operation in it
abbrev pub two_left : Forest small_ids marked
two_left = record {
  ops = table (jump n0 n1 ∷ constant n1 1 ∷ []);
  blocks = table (block_with (n0 ∷ n1 ∷ []) ∷ block_with [] ∷ []);
  regions = table ((n0 ∷ n1 ∷ []) ∷ []);
}

-- the second is gone too
abbrev pub one_left : Forest small_ids marked
one_left = record {
  ops = table (jump n0 n1 ∷ constant n1 1 ∷ []);
  blocks = table (block_with (n0 ∷ n1 ∷ []) ∷ []);
  regions = table ((n0 ∷ []) ∷ []);
}

-- what is reached, and what goes
pub record UnreachedRows : Type 0 where
  pub first : Reached three_blocks n0 n0
  -- any operation of a reached block counts, whether it stands last or not
  pub second : Reached three_blocks n0 n1
  pub third : IsUnreached three_blocks n0 n2
  pub removed : RemovesUnreached three_blocks n0 two_left 1
  pub other_count : RemovesUnreached three_blocks n0 two_left 2 → ⊥
  pub reached_gone : (count : ℕ) → RemovesUnreached three_blocks n0 one_left count → ⊥
  pub unreached_left : (count : ℕ) → RemovesUnreached three_blocks n0 three_blocks count → ⊥
