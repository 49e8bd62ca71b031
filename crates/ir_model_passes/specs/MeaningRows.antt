-- What a consistent assignment gives the results of small blocks, and what it leaves free.
use Rattle.std.specs.Prelude.{◌≡◌, List, [], ◌∷◌, None}
use Rattle.ir_model.specs.Forest.{OpRecord, Value}
use Rattle.ir_model.specs.SmallForests.{Small, n0, n1, n2, small_ids, result, operand, successor}
use Rattle.ir_model_passes.specs.Meaning.{Interpretation, Consistent}
use Rattle.ir_model_passes.specs.MarkedForests.{marked, two_pure, constant, one_block, two_marks}

-- n1 is a pure operation of this kind with the mark 2, which names the value of n0
abbrev pub user_of_first : OpRecord small_ids marked
user_of_first = record (constant n1 2) { operands = operand n0 (result n0 n0) ∷ [] }

-- a pure operation with two results of different types
abbrev pub gives_two : OpRecord small_ids marked
gives_two = record (constant n0 1) { results = record { number = n0; ty = 3; name = None } ∷ record { number = n1; ty = 4; name = None } ∷ [] }

module _ {V : Type 0} (gives : Interpretation marked V) where
  -- in the block of these operations alone, in order, each consistent assignment
  abbrev pub ConsistentIn : List (OpRecord small_ids marked) → List Small → (Value small_ids → V) → Type 0
  ConsistentIn ops listed a = Consistent two_pure gives a (one_block ops listed)

  -- what is asked of an assignment, part by part
  pub record ConsistentRows : Type 0 where
    -- a result has what the kind, the attributes and the type give
    pub kinds : (a : Value small_ids → V) → ConsistentIn (record (constant n0 1) { kind = 2 } ∷ []) (n0 ∷ []) a → a (result n0 n0) ≡ gives 2 (([], 1) ∷ []) [] (0 ∷ []) 0
    pub attributes : (a : Value small_ids → V) → Consistent two_pure gives a (two_marks 1 2)
        → (a (result n0 n0) ≡ gives 0 (([], 1) ∷ []) [] (0 ∷ []) 0) × (a (result n2 n2) ≡ gives 0 (([], 2) ∷ []) [] (0 ∷ []) 0)
    -- and the values of the operands, as the assignment itself has them
    pub operands : (a : Value small_ids → V) → ConsistentIn (constant n0 1 ∷ user_of_first ∷ []) (n0 ∷ n1 ∷ []) a → a (result n1 n1) ≡ gives 0 (([], 2) ∷ []) (a (result n0 n0) ∷ []) (0 ∷ []) 0
    -- each result by its place, with the types of all in order
    pub places : (a : Value small_ids → V) → ConsistentIn (gives_two ∷ []) (n0 ∷ []) a
        → (a (result n0 n0) ≡ gives 0 (([], 1) ∷ []) [] (3 ∷ 4 ∷ []) 0) × (a (result n0 n1) ≡ gives 0 (([], 1) ∷ []) [] (3 ∷ 4 ∷ []) 1)
    -- nothing is asked of results of operations with an effect, with regions, or with successors
    pub effects_are_free : (a : Value small_ids → V) → ConsistentIn (record (constant n0 1) { kind = 1 } ∷ []) (n0 ∷ []) a
    pub regions_are_free : (a : Value small_ids → V) → ConsistentIn (record (constant n0 1) { regions = n0 ∷ [] } ∷ []) (n0 ∷ []) a
    pub successors_are_free : (a : Value small_ids → V) → ConsistentIn (record (constant n0 1) { successors = successor n0 n0 ∷ [] } ∷ []) (n0 ∷ []) a
    -- no more is asked than that
    pub enough : (a : Value small_ids → V) → a (result n0 n0) ≡ gives 0 (([], 1) ∷ []) [] (0 ∷ []) 0 → ConsistentIn (constant n0 1 ∷ []) (n0 ∷ []) a
