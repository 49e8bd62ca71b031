-- All faults of names.
use Rattle.std.specs.Prelude.{ℕ, List, ◌⊎◌}
use Rattle.ir_text_tree.specs.declared.row.Row.{Row}
use Rattle.ir_text_names.specs.declared.fault.Wrong.{Wrong}
use Rattle.ir_text_names.specs.Blocks.{IsBlockWrong}
use Rattle.ir_text_names.specs.Counts.{IsCountWrong}
use Rattle.ir_text_names.specs.Keys.{IsKeyWrong}
use Rattle.ir_text_names.specs.Numbers.{IsResultWrong}
use Rattle.ir_text_names.specs.Uses.{IsUseWrong}

-- the row has that fault
abbrev pub IsWrong : List ℕ → List Row → Wrong → ℕ → Type 0
IsWrong text rows v i = (IsBlockWrong text rows v i ⊎ IsKeyWrong text rows v i) ⊎ ((IsCountWrong rows v i ⊎ IsResultWrong text rows v i) ⊎ IsUseWrong text rows v i)
