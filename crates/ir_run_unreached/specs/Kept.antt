-- What is inside some of the blocks of a list, and what is named from inside marked blocks alone.
use Rattle.std.specs.Prelude.{◌≡◌, List}
use Rattle.ir_model.specs.Ids.{Ids}
use Rattle.ir_model.specs.Forest.{Dialect, Entity, Forest, Named, a_block, owner}
use Rattle.ir_model.specs.Nesting.{In, Inside, names_of, ops_of}

module _ {N : Ids} {W : Dialect} (f : Forest N W) where
  -- it is a block of the list, or inside one
  abbrev pub IsInsideOne : List N.Block → Entity N → Type 0
  IsInsideOne blocks x = (b : N.Block) × In b blocks × Inside f (a_block b) x

  module _ (marked : List N.Block) where
    -- the operation stands in a marked block
    abbrev pub StandsInMarked : N.Op → Type 0
    StandsInMarked o = (b : N.Block) × In b marked × In o (ops_of f b)

    -- each operation that names the definition stands in a marked block
    abbrev pub KeepsNamed : Named N → Type 0
    KeepsNamed d = (user : N.Op) → In d (names_of f user) → StandsInMarked user

    -- each operation that names a definition of the entity's own stands in a marked block
    abbrev pub KeepsOwn : Entity N → Type 0
    KeepsOwn x = (user : N.Op) (d : Named N) → In d (names_of f user) → owner N d ≡ x → StandsInMarked user
