-- The keys of a dictionary.
use Rattle.std.specs.Prelude.{ℕ, List}
use Rattle.ir_text_tree.specs.declared.row.Part.TheVariants as parts
use Rattle.ir_text_tree.specs.declared.row.Row.{Row}
use Rattle.ir_text_names.specs.declared.fault.Wrong.{Wrong}
use Rattle.ir_text_names.specs.declared.fault.Wrong.TheVariants as wrongs
use Rattle.ir_text_names.specs.Rows.{row_operations}
use Rattle.ir_text_names.specs.Given.{IsAgain}

-- The row is a key, and a key before it in the dictionary of its operation is the same.
abbrev pub IsKeyAgain : List ℕ → List Row → ℕ → Type 0
IsKeyAgain text rows i = IsAgain parts.Key text rows (row_operations rows) i

-- the faults of keys
abbrev pub IsKeyWrong : List ℕ → List Row → Wrong → ℕ → Type 0
IsKeyWrong text rows wrongs.KeyTwice i = IsKeyAgain text rows i
IsKeyWrong text rows _ i = ⊥
