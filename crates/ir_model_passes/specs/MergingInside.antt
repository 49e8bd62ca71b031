-- Alike operations merged in one block where it is in order, and in each block inside an entity.
use Rattle.std.specs.Prelude.{◌≡◌, ◌↔◌, ◌⊎◌, ℕ, zero, ◌+◌, List, [], ◌∷◌, Option, None, Some}
use Rattle.ir_model.specs.Ids.{Ids, Distinct}
use Rattle.ir_model.specs.Forest.{Dialect, Behaviour, Forest, Entity, a_block}
use Rattle.ir_model.specs.Nesting.{In, Inside}
use Rattle.ir_model_passes.specs.Meaning.{SameAttributes}
use Rattle.ir_model_passes.specs.Merging.{Merges, MergesBrokenOff}
use Rattle.ir_model_passes.specs.InOrder.{InOrder}

-- so many went, none in a block out of order
abbrev pub merged_of : Option ℕ → ℕ
merged_of None = 0
merged_of (Some count) = count

module _ {N : Ids} {W : Dialect} (B : Behaviour W) (same : SameAttributes W) where
  -- in a block in order alike operations were merged until no two were left, and the answer is how many went; in one out of order nothing was done
  pub data MergesCommon (f : Forest N W) (b : N.Block) : Forest N W → Option ℕ → Type 0 where
    in_order : {g : Forest N W} {count : ℕ} → InOrder f b → Merges B same b f g count → MergesCommon f b g (Some count)
    out_of_order : (InOrder f b → ⊥) → MergesCommon f b f None

  -- this was done in one of these blocks after the other, and so many went in all
  pub data MergesEach : Forest N W → List N.Block → Forest N W → ℕ → Type 0 where
    at_end : {f : Forest N W} → MergesEach f [] f zero
    one_more : {f g h : Forest N W} {blocks : List N.Block} {count : ℕ} {answer : Option ℕ} (b : N.Block) → MergesCommon f b g answer → MergesEach g blocks h count → MergesEach f (b ∷ blocks) h (merged_of answer + count)

  -- this was done in each block inside the root, once, in some order of the blocks
  pub record MergesInside (f : Forest N W) (root : Entity N) (g : Forest N W) (count : ℕ) : Type 0 where
    pub blocks : List N.Block
    pub once : Distinct blocks
    pub all : (b : N.Block) → In b blocks ↔ Inside f root (a_block b)
    pub steps : MergesEach f blocks g count

  -- this was done in some blocks inside the root, one after the other, and then mergings may have been broken off in one
  pub record MergesInsideBrokenOff (f : Forest N W) (root : Entity N) (h : Forest N W) : Type 0 where
    pub blocks : List N.Block
    pub between : Forest N W
    pub count : ℕ
    pub inside : (b : N.Block) → In b blocks → Inside f root (a_block b)
    pub steps : MergesEach f blocks between count
    pub broken_off : (h ≡ between) ⊎ ((last : N.Block) × Inside f root (a_block last) × MergesBrokenOff B same last between h)
