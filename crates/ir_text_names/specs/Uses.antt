-- The faults of operands and of what they name.
use Rattle.std.specs.Prelude.{ℕ, List, ◌⊎◌}
use Rattle.ir_text_tree.specs.declared.row.Row.{Row}
use Rattle.ir_text_names.specs.declared.fault.Wrong.{Wrong}
use Rattle.ir_text_names.specs.Indices.{IsIndexWrong}
use Rattle.ir_text_names.specs.Types.{IsTypeWrong}
use Rattle.ir_text_names.specs.Values.{IsValueWrong}

-- a name, or a number behind it
abbrev pub IsNameWrong : List ℕ → List Row → Wrong → ℕ → Type 0
IsNameWrong text rows v i = IsValueWrong text rows v i ⊎ IsIndexWrong text rows v i

-- a name, a number behind it, or a type
abbrev pub IsUseWrong : List ℕ → List Row → Wrong → ℕ → Type 0
IsUseWrong text rows v i = IsNameWrong text rows v i ⊎ IsTypeWrong text rows v i
