-- Whether operations of a block are named before they were met, and whether the slots of a block's operations rise.
use Rattle.std.specs.Prelude.{◌≡◌, ℕ, ◌<◌, List, [], ◌∷◌, ⊤}
use Rattle.ir_model.specs.declared.ids.ArenaIndex.{ArenaIndex}
use Rattle.ir_model.specs.ContextIds.{context_ids}
use Rattle.ir_model.specs.Forest.{Dialect, Forest, Value, of_op, Operand}
use Rattle.ir_model.specs.Nesting.{In, ops_of, operands_of}

module _ {W : Dialect} (f : Forest context_ids W) (b : ArenaIndex) (met : List ArenaIndex) where
  -- an operation gives the value that stands in the block and is not among those that were met
  abbrev pub IsUnmet : Value context_ids → Type 0
  IsUnmet v = (o : ArenaIndex) × (v.definer ≡ of_op o) × In o (ops_of f b) × (In o met → ⊥)

  -- the operation names such a value
  abbrev pub NamesUnmet : ArenaIndex → Type 0
  NamesUnmet user = (p : Operand context_ids) × In p (operands_of f user) × IsUnmet p.value

module _ {W : Dialect} (f : Forest context_ids W) (b : ArenaIndex) where
  -- an operation of the block that is in a slot above this one gives the value
  abbrev pub IsFromAbove : ℕ → Value context_ids → Type 0
  IsFromAbove slot v = (o : ArenaIndex) × (v.definer ≡ of_op o) × In o (ops_of f b) × (slot < o.slot)

  -- the operation names a result of one of the block that is in a slot above its own
  abbrev pub NamesAbove : ArenaIndex → Type 0
  NamesAbove user = (p : Operand context_ids) × In p (operands_of f user) × IsFromAbove user.slot p.value

  -- each of these operations is in a slot above that of the one before it, the first above this slot, and none names a result of one of the block that is in a slot above its own
  abbrev pub Rises : ℕ → List ArenaIndex → Type 0
  Rises slot [] = ⊤
  Rises slot (o ∷ os) = (slot < o.slot) × (NamesAbove o → ⊥) × Rises o.slot os

  -- each operation of the block is in a slot above that of the one before it, and names no result of one of the block that is in a slot above its own
  abbrev pub RisesInOrder : Type 0
  RisesInOrder = Rises 0 (ops_of f b)
