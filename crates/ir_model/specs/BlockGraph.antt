-- The graph of blocks: from a terminator to the blocks that it names, and back by the uses of a block.
use Rattle.std.specs.Prelude.{◌≡◌, ℕ, Bool, false, List, length, map, Option, Some, None, if◌then◌else◌}
use Rattle.std.specs.List.{AllZip}
use Rattle.std.specs.Option.{option_and_then, option_map_or}
use Rattle.ir_model.specs.Ids.{Ids}
use Rattle.ir_model.specs.Forest.{Dialect, Behaviour, Forest, the_block}
use Rattle.ir_model.specs.Nesting.{In, list_of, ops_of, successors_of, names_of}
use Rattle.ir_model.specs.Uses.{Use, IsUse, AreUses}
use Rattle.ir_model.specs.Parent.{last_of}

-- the interfaces that the definitions ask about, by their numbers
abbrev pub is_terminator_interface : ℕ
is_terminator_interface = 1

-- the blocks of such a kind need no terminator
abbrev pub no_terminator_interface : ℕ
no_terminator_interface = 2

-- an operation of such a kind does nothing but give its results
abbrev pub pure_interface : ℕ
pure_interface = 6

module _ {N : Ids} {W : Dialect} where
  -- the operation is there, and its kind implements the interface
  abbrev pub implements : Behaviour W → Forest N W → ℕ → N.Op → Bool
  implements B f interface o = option_map_or (λ r. B.op_impls r.kind interface) (f.ops o) false

  -- the last operation of the block, where it has one
  abbrev pub last_op : Forest N W → N.Block → Option N.Op
  last_op f b = last_of (ops_of f b)

  -- the blocks that the operation names as successors, in order
  abbrev pub targets_of : Forest N W → N.Op → List N.Block
  targets_of f o = map (λ p. p.block) (successors_of f o)

  -- the last operation of the block, where its kind says that it ends blocks
  abbrev pub terminator : Behaviour W → Forest N W → N.Block → Option N.Op
  terminator B f b = option_and_then (λ o. if implements B f is_terminator_interface o then Some o else None) (last_op f b)

  -- the successors of its terminator, and none without one
  abbrev pub succs : Behaviour W → Forest N W → N.Block → List N.Block
  succs B f b = list_of (targets_of f) (terminator B f b)

  -- b is among the successors of a
  abbrev pub IsSuccessor : Behaviour W → Forest N W → N.Block → N.Block → Type 0
  IsSuccessor B f a b = In b (succs B f a)

  -- the last operation of a, terminator or not, names b
  abbrev pub IsSuccessorOf : Forest N W → N.Block → N.Block → Type 0
  IsSuccessorOf f b a = In b (list_of (targets_of f) (last_op f a))

  -- the block has a use, linked or not
  abbrev pub HasPredecessor : Forest N W → N.Block → Type 0
  HasPredecessor f b = (u : Use N) × IsUse f (the_block b) u

  -- so many uses the block has, linked or not
  abbrev pub IsPredecessorCount : Forest N W → N.Block → ℕ → Type 0
  IsPredecessorCount f b n = (uses : List (Use N)) × AreUses f (the_block b) uses × (length uses ≡ n)

  -- an operation in the list of a names b; what stands in no list is passed over
  abbrev pub IsPredecessor : Forest N W → N.Block → N.Block → Type 0
  IsPredecessor f b a = (o : N.Op) × In o (ops_of f a) × In (the_block b) (names_of f o)

  -- these are the blocks that the users stand in, one for each use and in the order of the uses
  abbrev pub AreUsersBlocks : Forest N W → List (Use N) → List N.Block → Type 0
  AreUsersBlocks f uses blocks = AllZip (λ u a. In u.user (ops_of f a)) uses blocks

  -- for one order of the uses of the block, these are the blocks of its users
  pub record ArePredecessors (f : Forest N W) (b : N.Block) (blocks : List N.Block) : Type 0 where
    pub uses : List (Use N)
    pub are_uses : AreUses f (the_block b) uses
    pub in_order : AreUsersBlocks f uses blocks
