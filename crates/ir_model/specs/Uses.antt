-- The uses of a definition: the places that name it, found by searching all operations.
use Rattle.std.specs.Prelude.{◌≡◌, ℕ, ◌↔◌, List, Some, slice_get}
use Rattle.ir_model.specs.Ids.{Ids, Distinct}
use Rattle.ir_model.specs.Forest.{Dialect, Forest, Value, Named, a_value, the_block}
use Rattle.ir_model.specs.Nesting.{In, operands_of, successors_of}

-- a use: an operation, and the use number at one of its places
pub record Use (N : Ids) : Type 0 where
  pub user : N.Op
  pub number : N.UseNumber

module _ {N : Ids} {W : Dialect} where
  -- an operand or successor of the user has the number and names the definition
  abbrev pub IsUse : Forest N W → Named N → Use N → Type 0
  IsUse f (a_value v) u = In (record { use_number = u.number; value = v }) (operands_of f u.user)
  IsUse f (the_block b) u = In (record { use_number = u.number; block = b }) (successors_of f u.user)

  -- the operand with this use number stands at this index of the user
  abbrev pub IsOperandAt : Forest N W → Use N → ℕ → Type 0
  IsOperandAt f u index = (v : Value N) × (slice_get (operands_of f u.user) index ≡ Some (record { use_number = u.number; value = v }))

  -- the successor with this use number stands at this index of the user
  abbrev pub IsSuccessorAt : Forest N W → Use N → ℕ → Type 0
  IsSuccessorAt f u index = (b : N.Block) × (slice_get (successors_of f u.user) index ≡ Some (record { use_number = u.number; block = b }))

  -- the list has exactly the uses of the definition, each once
  pub record AreUses (f : Forest N W) (d : Named N) (uses : List (Use N)) : Type 0 where
    pub once : Distinct uses
    pub exact : (u : Use N) → In u uses ↔ IsUse f d u
