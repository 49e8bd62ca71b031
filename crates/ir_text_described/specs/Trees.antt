-- A tree with what its names mean, and what its rows define.
use Rattle.std.specs.Prelude.{ℕ, ◌+◌, List, Option, if◌then◌else◌}
use Rattle.ir_model.specs.declared.ids.ArenaIndex.{ArenaIndex}
use Rattle.ir_model.specs.ContextIds.{context_ids}
use Rattle.ir_model.specs.Forest.{Definer}
use Rattle.ir_text_tree.specs.declared.row.Part.{Part}
use Rattle.ir_text_tree.specs.declared.row.Row.{Row}
use Rattle.ir_text_names.specs.Rows.{part_of as part_in, text_of as text_in}
use Rattle.ir_text_names.specs.Given.{unquoted}
use Rattle.ir_text_names.specs.Indices.{which as which_in, is_index}
use Rattle.ir_text_names.specs.Numbers.{width as width_in, is_count}

-- the text, its rows, and for each row the row of the block and of the definition that it names, if it names one
pub record NamedTree : Type 0 where
  pub text : List ℕ
  pub rows : List Row
  pub block_named : ℕ → Option ℕ
  pub value_named : ℕ → Option ℕ

-- what the row is
abbrev pub part_at : NamedTree → ℕ → Part
part_at t i = part_in t.rows i

-- the piece of the text that the row is
abbrev pub text_at : NamedTree → ℕ → List ℕ
text_at t i = text_in t.text t.rows i

-- the bytes that a name or a key stands for: in quotes, what the text between them stands for
abbrev pub bytes_at : NamedTree → ℕ → List ℕ
bytes_at t i = unquoted (text_at t i)

-- which of the values under its name an operand is
abbrev pub which_at : NamedTree → ℕ → Option ℕ
which_at t u = which_in t.text t.rows u

-- how many values stand under the name of a result
abbrev pub width_at : NamedTree → ℕ → ℕ
width_at t d = width_in t.text t.rows d

-- the row behind an operand and its number
abbrev pub behind_use : NamedTree → ℕ → ℕ
behind_use t u = if is_index (part_at t (u + 1)) then u + 2 else u + 1

-- the row behind the name of results and their number
abbrev pub behind_result : NamedTree → ℕ → ℕ
behind_result t d = if is_count (part_at t (d + 1)) then d + 2 else d + 1

-- the values that stand under a name: those of an operation or a block, from this place on
pub record Defined : Type 0 where
  pub definer : Definer context_ids
  pub first : ℕ

-- for each row the values that stand under the name that it gives, and the block that it begins
pub record Meanings : Type 0 where
  pub values : ℕ → Option Defined
  pub blocks : ℕ → Option ArenaIndex
