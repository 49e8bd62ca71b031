-- Predecessors in the order of a given list of the uses of a block.
use Rattle.std.specs.Prelude.{ℕ, List, slice_get}
use Rattle.ir_model.specs.Ids.{Ids}
use Rattle.ir_model.specs.Forest.{Dialect, Forest, the_block}
use Rattle.ir_model.specs.Nesting.{In, ops_of}
use Rattle.ir_model.specs.Uses.{Use, AreUses}
use Rattle.ir_model.specs.BlockGraph.{AreUsersBlocks}
use Rattle.ir_model.specs.Edits.{The}

module _ {N : Ids} {W : Dialect} where
  -- the list has exactly the uses of the block, and these are the blocks that the users stand in, one for each use and in the order of this list
  pub record ArePredecessorsBy (f : Forest N W) (b : N.Block) (uses : List (Use N)) (blocks : List N.Block) : Type 0 where
    pub are_uses : AreUses f (the_block b) uses
    pub in_order : AreUsersBlocks f uses blocks

  -- a is the block that the user of the use at this place of the list stands in
  abbrev pub IsPredecessorAt : Forest N W → List (Use N) → ℕ → N.Block → Type 0
  IsPredecessorAt f uses index a = The (slice_get uses index) λ u. In u.user (ops_of f a)
