-- Forests of one block over a dialect whose attributes are numbers.
use Rattle.std.specs.Prelude.{ℕ, true, List, [], ◌∷◌, None, slice_index_or, ◌==◌}
use Rattle.ir_model.specs.Forest.{Text, Dialect, Behaviour, Value, OpRecord, BlockRecord, Forest}
use Rattle.ir_model.specs.BlockGraph.{pure_interface}
use Rattle.ir_model.specs.SmallForests.{Small, n0, n1, n2, small_ids, table, result, operand}
use Rattle.ir_model_passes.specs.Meaning.{Interpretation, SameAttributes}

-- a dialect whose attributes and locations are numbers
abbrev pub marked : Dialect
marked = record { Key = Unit {0}; Body = Unit {0}; Attr = ℕ; Saved = Unit {0}; Aux = Unit {0}; Loc = ℕ }

-- kinds 0 and 2 are pure, and no other
abbrev pub two_pure : Behaviour marked
two_pure = record {
  same_key = λ a b. true;
  first_body = tt;
  unknown = 0;
  op_impls = λ kind interface. slice_index_or (pure_interface ∷ 0 ∷ pure_interface ∷ []) kind 0 == interface;
}

-- the first attribute
abbrev pub mark_of : List (Text × ℕ) → ℕ
mark_of [] = 0
mark_of (p ∷ ps) = p.1

-- whether the first attributes are one
abbrev pub same_mark : SameAttributes marked
same_mark one other = mark_of one == mark_of other

-- each pure operation gives its mark
abbrev pub gives_mark : Interpretation marked ℕ
gives_mark kind attributes values types place = mark_of attributes

-- a pure operation with a mark, which gives the result n
abbrev pub constant : Small → ℕ → OpRecord small_ids marked
constant n mark = record {
  kind = 0;
  results = record { number = n; ty = 0; name = None } ∷ [];
  operands = [];
  successors = [];
  regions = [];
  attributes = ([], mark) ∷ [];
  loc = 0;
}

-- an operation with an effect, which names v
abbrev pub effect : Value small_ids → OpRecord small_ids marked
effect v = record {
  kind = 1;
  results = [];
  operands = operand n0 v ∷ [];
  successors = [];
  regions = [];
  attributes = [];
  loc = 0;
}

-- a block with these operations
abbrev pub block_with : List Small → BlockRecord small_ids marked
block_with ops = record { label = None; arguments = []; ops = ops; attributes = []; loc = 0 }

-- the forest of one block with these operations, in this order; the first record is that of n0, the second that of n1, and so on
abbrev pub one_block : List (OpRecord small_ids marked) → List Small → Forest small_ids marked
one_block ops listed = record {
  ops = table ops;
  blocks = table (block_with listed ∷ []);
  regions = table [];
}

-- constants n0 and n2, and behind them n1, which names the second
abbrev pub two_marks : ℕ → ℕ → Forest small_ids marked
two_marks one other = one_block (constant n0 one ∷ effect (result n2 n2) ∷ constant n2 other ∷ []) (n0 ∷ n2 ∷ n1 ∷ [])

-- n2 is gone, and n1 names n0
abbrev pub one_mark : ℕ → Forest small_ids marked
one_mark one = one_block (constant n0 one ∷ effect (result n0 n0) ∷ []) (n0 ∷ n1 ∷ [])
