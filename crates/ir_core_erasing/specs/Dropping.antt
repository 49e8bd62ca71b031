-- What is left of an entity whose uses are dropped: nothing inside uses anything, and nothing names what is inside.
use Rattle.std.specs.Prelude.{◌≡◌, []}
use Rattle.ir_model.specs.Ids.{Ids}
use Rattle.ir_model.specs.Forest.{Dialect, Entity, an_op, a_block, a_region, Forest, Named, owner}
use Rattle.ir_model.specs.Changes.{on_op, no_uses}
use Rattle.ir_model.specs.Nesting.{In, Inside, names_of, operands_of, successors_of}

module _ {N : Ids} {W : Dialect} where
  -- the forest without the uses of an entity: those of an operation, and none of a block or a region
  abbrev pub without_uses : Forest N W → Entity N → Forest N W
  without_uses f (an_op o) = on_op f o no_uses
  without_uses f (a_block b) = f
  without_uses f (a_region r) = f

  -- no operation inside e has operands or successors
  abbrev pub Bare : Forest N W → Entity N → Type 0
  Bare f e = (o : N.Op) → Inside f e (an_op o) → (operands_of f o ≡ []) × (successors_of f o ≡ [])

  -- no operation names a definition of e's subtree
  abbrev pub Unnamed : Forest N W → Entity N → Type 0
  Unnamed f e = (o : N.Op) (d : Named N) → In d (names_of f o) → Inside f e (owner N d) → ⊥
