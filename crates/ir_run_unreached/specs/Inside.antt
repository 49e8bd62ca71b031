-- The unreached blocks of all regions inside an operation, removed region by region.
use Rattle.std.specs.Prelude.{◌≡◌, ◌⊎◌, ℕ, ◌+◌}
use Rattle.ir_model.specs.declared.ids.ArenaIndex.{ArenaIndex}
use Rattle.ir_model.specs.ContextIds.{context_ids}
use Rattle.ir_model.specs.Ids.{Ids}
use Rattle.ir_model.specs.Forest.{Dialect, Behaviour, Entity, Forest, a_region, an_op}
use Rattle.ir_model.specs.Nesting.{Inside, IsLive, WellFormed}
use Rattle.ir_model_passes.specs.Meaning.{Interpretation, KeepsValues}
use Rattle.ir_model_passes.specs.Merging.{OperandsMoveBack}
use Rattle.ir_model_passes.specs.Unreached.{IsUnreached, NamesStayInside, RemovesUnreached}

module _ {N : Ids} {W : Dialect} where
  -- the unreached blocks of the region were removed, and none is left; or the region is dead, and nothing was done
  abbrev pub Treats : Forest N W → N.Region → Forest N W → Type 0
  Treats f r g =
      ((count : ℕ) × IsLive f (a_region r) × RemovesUnreached f r g count × ((b : N.Block) → IsUnreached g r b → ⊥))
      ⊎ ((IsLive f (a_region r) → ⊥) × (g ≡ f))

module _ {N : Ids} {W : Dialect} (root : Entity N) where
  -- of each region inside the root, what names a definition inside an unreached block is inside one
  abbrev pub NamesStayInsideEach : Forest N W → Type 0
  NamesStayInsideEach f = (r : N.Region) → Inside f root (a_region r) → NamesStayInside f r

  -- no region inside the root has an unreached block
  abbrev pub NoneUnreachedInside : Forest N W → Type 0
  NoneUnreachedInside f = (r : N.Region) (b : N.Block) → Inside f root (a_region r) → IsUnreached f r b → ⊥

  -- the unreached blocks of regions inside the root were removed, of one region after the other, so many blocks in all
  pub data RemovesSomeInside (f : Forest N W) : Forest N W → ℕ → Type 0 where
    none_inside : RemovesSomeInside f f 0
    one_inside : {g h : Forest N W} {n m : ℕ} (r : N.Region) → RemovesSomeInside f g n → Inside g root (a_region r) → RemovesUnreached g r h m → RemovesSomeInside f h (n + m)

  -- so they were, until none is left
  abbrev pub RemovesUnreachedInside : Forest N W → Forest N W → ℕ → Type 0
  RemovesUnreachedInside f g count = RemovesSomeInside f g count × NoneUnreachedInside g

module _ {N : Ids} {W : Dialect} (B : Behaviour W) {V : Type 0} (gives : Interpretation W V) (root : Entity N) (f : Forest N W) (keys : ℕ) (g : Forest N W) where
  -- what is left when unreached blocks of regions inside the root were removed
  pub record InsideTells : Type 0 where
    -- where what names a definition inside an unreached block was inside one, the rest is well formed, and so it still is
    pub formed : NamesStayInsideEach root f → WellFormed g keys × NamesStayInsideEach root g
    -- each operation that is there is as it was
    pub stays : (o : N.Op) → IsLive g (an_op o) → g.ops o ≡ f.ops o
    pub values : KeepsValues B gives f g
    pub moves_back : OperandsMoveBack f g

-- what removals of unreached blocks inside a root leave
abbrev pub InsideRemovalTells : (W : Dialect) (V : Type 0) → Type 0
InsideRemovalTells W V = (B : Behaviour W) (gives : Interpretation W V) (o : ArenaIndex) (f g : Forest context_ids W) (keys count : ℕ) → WellFormed f keys → RemovesSomeInside (an_op o) f g count → InsideTells B gives (an_op o) f keys g
