-- How the parts of a dialect are written.
use Rattle.std.specs.Prelude.{ℕ, List, Option}
use Rattle.ir_model.specs.Forest.{Dialect, Text}

pub record Words (W : Dialect) : Type 0 where
  -- the name of operations of a kind
  pub operation_name : ℕ → List ℕ
  -- the text of the type at a place
  pub type_text : ℕ → List ℕ
  -- the key of an attribute, and its value if it has one; nothing, if it isn't written among the attributes
  pub entry : Text → W.Attr → Option (List ℕ × Option (List ℕ))
  -- the properties of an operation with these attributes, if it has any
  pub properties : List (Text × W.Attr) → Option (List ℕ)
  -- the location of an operation, if it is known
  pub location : W.Loc → Option (List ℕ)
  -- the location of the argument at this place of a block, if it is known
  pub argument_location : W.Loc → ℕ → Option (List ℕ)
