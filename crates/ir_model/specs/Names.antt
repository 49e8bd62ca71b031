-- Id texts and unique names of values and blocks.
use Rattle.std.specs.Prelude.{◌≡◌, ℕ, ◌++◌, Option, Some, None, codes, decimal}
use Rattle.ir_model.specs.declared.ids.ArenaIndex.{ArenaIndex}
use Rattle.ir_model.specs.ContextIds.{context_ids}
use Rattle.ir_model.specs.Forest.{Text, Dialect, Forest, Value, Definition}
use Rattle.ir_model.specs.IdText.{index_text}
use Rattle.ir_model.specs.Nesting.{In, definitions_of}
use Rattle.ir_model.specs.Edits.{The}

-- `v` and the number, in decimal
abbrev pub value_id : ℕ → Text
value_id number = codes "v" ++ decimal number

-- `block`, and the text of the id: slot, `v`, version
abbrev pub block_id : ArenaIndex → Text
block_id i = codes "block" ++ index_text i

-- the id text, behind the given name and `_` where a name is given
abbrev pub unique_name : Option Text → Text → Text
unique_name None id = id
unique_name (Some name) id = name ++ codes "_" ++ id

module _ {W : Dialect} where
  -- this is what the value was given for a name: a text, or none
  abbrev pub IsGivenName : Forest context_ids W → Value context_ids → Option Text → Type 0
  IsGivenName f v name = (x : Definition context_ids W) × In x (definitions_of f v.definer) × (x.number ≡ v.number) × (x.name ≡ name)

  -- the text is the unique name of the value
  abbrev pub IsValueName : Forest context_ids W → Value context_ids → Text → Type 0
  IsValueName f v text = (name : Option Text) × IsGivenName f v name × (text ≡ unique_name name (value_id v.number))

  -- the text is the unique name of the block
  abbrev pub IsBlockName : Forest context_ids W → ArenaIndex → Text → Type 0
  IsBlockName f b text = The (f.blocks b) λ r. text ≡ unique_name r.label (block_id b)
