-- The blocks of a region that no way from its first block reaches, and what goes with them.
use Rattle.std.specs.Prelude.{◌≡◌, ◌↔◌, ℕ, ◌+◌, Bool, not, if◌then◌else◌, None, Some, IsTrue, filter, count_by, length}
use Rattle.std.specs.Option.{option_map}
use Rattle.ir_model.specs.Ids.{Ids}
use Rattle.ir_model.specs.Forest.{Dialect, Behaviour, Forest, Entity, an_op, a_block, a_region, Named, owner}
use Rattle.ir_model.specs.Nesting.{In, Inside, IsLive, WellFormed, ops_of, blocks_of, names_of}
use Rattle.ir_model.specs.Changes.{DropsUses, Removes}
use Rattle.ir_model.specs.Parent.{first_of}
use Rattle.ir_model.specs.BlockGraph.{targets_of}
use Rattle.ir_model_passes.specs.Meaning.{Interpretation, KeepsValues}
use Rattle.ir_model_passes.specs.Merging.{OperandsMoveBack}

module _ {N : Ids} {W : Dialect} (f : Forest N W) (region : N.Region) where
  -- a block of the region is reached where it is the first, or an operation in the list of a reached one names it as a successor, whether its kind ends blocks or not
  pub data Reached : N.Block → Type 0 where
    at_first : {b : N.Block} → first_of (blocks_of f region) ≡ Some b → Reached b
    by_successor : {a b : N.Block} (o : N.Op) → Reached a → In o (ops_of f a) → In b (targets_of f o) → In b (blocks_of f region) → Reached b

  -- it stands in the region and is not reached
  abbrev pub IsUnreached : N.Block → Type 0
  IsUnreached b = In b (blocks_of f region) × (Reached b → ⊥)

  -- it is an unreached block, or inside one
  abbrev pub GoesUnreached : Entity N → Type 0
  GoesUnreached x = (b : N.Block) × IsUnreached b × Inside f (a_block b) x

  -- each operation that names a definition inside an unreached block is inside an unreached one
  abbrev pub NamesStayInside : Type 0
  NamesStayInside = (user : N.Op) (d : Named N) → In d (names_of f user) → GoesUnreached (owner N d) → GoesUnreached (an_op user)

  -- the unreached blocks are gone with all inside them, so many blocks of the region, and all else is as it was
  pub record RemovesUnreached (g : Forest N W) (count : ℕ) : Type 0 where
    pub is_gone : Entity N → Bool
    pub decides : (x : Entity N) → IsTrue (is_gone x) ↔ GoesUnreached x
    pub ops : (o : N.Op) → g.ops o ≡ (if is_gone (an_op o) then None else f.ops o)
    pub blocks : (c : N.Block) → g.blocks c ≡ (if is_gone (a_block c) then None else f.blocks c)
    pub regions : (r : N.Region) → g.regions r ≡ (if is_gone (a_region r) then None else option_map (filter (λ b. not (is_gone (a_block b)))) (f.regions r))
    pub counted : count ≡ count_by (λ b. is_gone (a_block b)) (blocks_of f region)

module _ {N : Ids} {W : Dialect} (B : Behaviour W) {V : Type 0} (gives : Interpretation W V) (f : Forest N W) (keys : ℕ) (region : N.Region) (g : Forest N W) (count : ℕ) where
  -- what is left when the unreached blocks of a region are removed
  pub record UnreachedTells : Type 0 where
    -- nothing else would be it, and no other count
    pub only : (h : Forest N W) (other : ℕ) → RemovesUnreached f region h other → (h ≡ g) × (other ≡ count)
    -- where what names a definition inside an unreached block is inside one, the rest is well formed
    pub formed : NamesStayInside f region → WellFormed g keys
    -- no reached block went, and nothing inside one
    pub reached_stay : (b : N.Block) (x : Entity N) → Reached f region b → Inside f (a_block b) x → IsLive f x → IsLive g x
    -- no block that is left is unreached
    pub none_unreached : (b : N.Block) → IsUnreached g region b → ⊥
    pub values : KeepsValues B gives f g
    pub moves_back : OperandsMoveBack f g
    -- the list of the region is so much shorter
    pub shorter : length (blocks_of f region) ≡ length (blocks_of g region) + count

module _ {N : Ids} {W : Dialect} (f : Forest N W) (region : N.Region) where
  -- inside unreached blocks uses were dropped, and such blocks were erased with all inside them, one after the other
  pub data RemovesSome : Forest N W → Type 0 where
    none_removed : RemovesSome f
    uses_dropped : {g h : Forest N W} (b : N.Block) → RemovesSome g → IsUnreached f region b → DropsUses g (a_block b) h → RemovesSome h
    block_erased : {g h : Forest N W} (b : N.Block) → RemovesSome g → IsUnreached f region b → Removes g (a_block b) h → RemovesSome h
