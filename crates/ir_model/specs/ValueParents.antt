-- Where a value stands: the block and the region of what defines it.
use Rattle.std.specs.Prelude.{◌≡◌, Option}
use Rattle.ir_model.specs.Ids.{Ids}
use Rattle.ir_model.specs.Forest.{Dialect, Definer, of_op, of_block, Value, Forest}
use Rattle.ir_model.specs.Nesting.{In, ops_of, blocks_of}
use Rattle.ir_model.specs.Parent.{FindsOne}

module _ {N : Ids} {W : Dialect} where
  -- a is the block of what is defined there: of results the block whose list holds the operation, and of arguments the block itself
  abbrev pub IsBlockOf : Forest N W → Definer N → N.Block → Type 0
  IsBlockOf f (of_op o) a = In o (ops_of f a)
  IsBlockOf f (of_block b) a = a ≡ b

  -- the answer is the block of the value, or nothing where it has none
  abbrev pub IsParentBlock : Forest N W → Value N → Option N.Block → Type 0
  IsParentBlock f v answer = FindsOne (IsBlockOf f v.definer) answer

  -- the answer is the region whose list holds the block of the value, or nothing where there is none
  abbrev pub IsParentRegion : Forest N W → Value N → Option N.Region → Type 0
  IsParentRegion f v answer = FindsOne (λ g. (a : N.Block) × IsBlockOf f v.definer a × In a (blocks_of f g)) answer
