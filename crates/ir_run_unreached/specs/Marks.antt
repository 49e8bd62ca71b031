-- What is marked in lists, and which blocks of a region are unreached.
use Rattle.std.specs.Prelude.{◌≡◌, ◌↔◌, ◌⊎◌, List, [], ◌∷◌, ◌++◌}
use Rattle.ir_model.specs.Ids.{Ids, Distinct}
use Rattle.ir_model.specs.Forest.{Dialect, Forest}
use Rattle.ir_model.specs.Nesting.{In}
use Rattle.ir_model.specs.BlockGraph.{targets_of}
use Rattle.ir_model_passes.specs.Unreached.{IsUnreached}

-- all that are such are in the new list, and others only if they were in the old one, with which it begins
pub record Adds {A : Type 0} (such : A → Type 0) (old new : List A) : Type 0 where
  pub more : (rest : List A) × (new ≡ old ++ rest)
  pub only : (x : A) → In x new → In x old ⊎ such x
  pub all : (x : A) → such x → In x new

-- the new list is the old one where x is marked, and else has x behind it
abbrev pub KeepsUnmarked : {A : Type 0} → List A → A → List A → List A → Type 0
KeepsUnmarked marked x old new = (In x marked × (new ≡ old)) ⊎ ((In x marked → ⊥) × (new ≡ old ++ x ∷ []))

-- the list has those of another one that are not marked, each once
pub record LeavesUnmarked {A : Type 0} (marked all left : List A) : Type 0 where
  pub once : Distinct left
  pub exact : (x : A) → In x left ↔ (In x all × (In x marked → ⊥))

module _ {N : Ids} {W : Dialect} (f : Forest N W) where
  -- an operation of the list names the block as a successor
  abbrev pub IsNamedIn : List N.Op → N.Block → Type 0
  IsNamedIn ops b = (o : N.Op) × In o ops × In b (targets_of f o)

  -- the list has exactly the unreached blocks of the region, each once
  pub record ListsUnreached (region : N.Region) (blocks : List N.Block) : Type 0 where
    pub once : Distinct blocks
    pub exact : (b : N.Block) → In b blocks ↔ IsUnreached f region b
