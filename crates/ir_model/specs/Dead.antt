-- The operations of a block that a sweep takes out.
use Rattle.std.specs.Prelude.{◌≡◌, ◌↔◌, ℕ, Bool, not, None, IsTrue, filter, count_by}
use Rattle.std.specs.Option.{option_map}
use Rattle.ir_model.specs.Ids.{Ids}
use Rattle.ir_model.specs.Forest.{Dialect, Behaviour, Forest, Entity, an_op, a_block, a_region, Named, owner}
use Rattle.ir_model.specs.Nesting.{In, Inside, ops_of, names_of}
use Rattle.ir_model.specs.Changes.{on_ops}
use Rattle.ir_model.specs.BlockGraph.{implements, pure_interface}

module _ {N : Ids} {W : Dialect} (B : Behaviour W) (f : Forest N W) (b : N.Block) where
  mutual
    -- an operation of the block's list is dead where its kind is pure and each operation that names a definition inside it goes with it
    pub data Dead : N.Op → Type 0 where
      dead : {o : N.Op} → In o (ops_of f b) → IsTrue (implements B f pure_interface o)
          → ((user : N.Op) (d : Named N) → In d (names_of f user) → Inside f (an_op o) (owner N d) → GoesWith o user) → Dead o

    -- it lies inside the operation, or inside a dead one
    pub data GoesWith : N.Op → N.Op → Type 0 where
      inside_it : {o user : N.Op} → Inside f (an_op o) (an_op user) → GoesWith o user
      inside_dead : {o p user : N.Op} → Dead p → Inside f (an_op p) (an_op user) → GoesWith o user

  -- it is a dead operation, or inside one
  abbrev pub IsSwept : Entity N → Type 0
  IsSwept x = (o : N.Op) × Dead o × Inside f (an_op o) x

  -- all that is swept is gone, the list is without its dead operations, which are so many, and all else is as it was
  pub record Sweeps (g : Forest N W) (count : ℕ) : Type 0 where
    pub is_dead : N.Op → Bool
    pub decides : (o : N.Op) → IsTrue (is_dead o) ↔ Dead o
    pub ops_gone : (o : N.Op) → IsSwept (an_op o) → g.ops o ≡ None
    pub ops_left : (o : N.Op) → (IsSwept (an_op o) → ⊥) → g.ops o ≡ f.ops o
    pub blocks_gone : (c : N.Block) → IsSwept (a_block c) → g.blocks c ≡ None
    pub blocks_left : (c : N.Block) → (IsSwept (a_block c) → ⊥) → g.blocks c ≡ option_map (on_ops (filter (λ o. not (is_dead o)))) (f.blocks c)
    pub regions_gone : (r : N.Region) → IsSwept (a_region r) → g.regions r ≡ None
    pub regions_left : (r : N.Region) → (IsSwept (a_region r) → ⊥) → g.regions r ≡ f.regions r
    pub counted : count ≡ count_by is_dead (ops_of f b)
