-- What is known once alike operations were merged in one block, or in each block inside an entity.
use Rattle.std.specs.Prelude.{◌≡◌, ◌↔◌, ℕ, ◌+◌, List, length, Option, Some, None}
use Rattle.ir_model.specs.Ids.{Ids}
use Rattle.ir_model.specs.Forest.{Dialect, Behaviour, Forest, Entity, an_op, a_block}
use Rattle.ir_model.specs.Nesting.{Inside, IsLive, ops_of}
use Rattle.ir_model_passes.specs.Meaning.{SameAttributes}
use Rattle.ir_model_passes.specs.SweepInside.{ListsOps}
use Rattle.ir_model_passes.specs.Merging.{NoneAlike}
use Rattle.ir_model_passes.specs.InOrder.{InOrder}
use Rattle.ir_model_passes.specs.MergingInside.{merged_of, MergesCommon}

module _ {N : Ids} {W : Dialect} (B : Behaviour W) (same : SameAttributes W) where
  -- what the answer about one block says
  pub record CommonTells (f : Forest N W) (b : N.Block) (g : Forest N W) (answer : Option ℕ) : Type 0 where
    -- no number: the block is out of order, and nothing changed
    pub no_number : answer ≡ None → (InOrder f b → ⊥) × (g ≡ f)
    -- a number: the block was in order, its list is shorter by so many, and no two alike are left in it
    pub a_number : (count : ℕ) → answer ≡ Some count → InOrder f b × (length (ops_of f b) ≡ length (ops_of g b) + count) × NoneAlike B same b g

  -- what mergings in each block inside a root leave
  pub record InsideTells (f : Forest N W) (root : Entity N) (g : Forest N W) (count : ℕ) : Type 0 where
    -- they count the operations that were there and are not there any more
    pub so_many : (before after : List N.Op) → ListsOps f before → ListsOps g after → length before ≡ length after + count
    -- none went but from the lists of blocks inside the root
    pub others_stay : (o : N.Op) → IsLive f (an_op o) → (Inside f root (an_op o) → ⊥) → IsLive g (an_op o)
    -- where one block alone is inside the root, they are those of that block
    pub of_one_block : (b : N.Block) → ((c : N.Block) → Inside f root (a_block c) ↔ (c ≡ b)) → (answer : Option ℕ) × MergesCommon B same f b g answer × (count ≡ merged_of answer)
