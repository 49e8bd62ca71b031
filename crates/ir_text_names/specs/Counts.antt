-- How many parts of a sort an operation has, and where they are not as many as they should be.
use Rattle.std.specs.Prelude.{◌≡◌, ◌≢◌, ℕ, zero, suc, ◌+◌, Bool, true, false, ◌&&◌, if◌then◌else◌, nat_eq, List, length, slice_index_or, slice_set}
use Rattle.ir_text_tree.specs.declared.row.Part.{Part}
use Rattle.ir_text_tree.specs.declared.row.Part.TheVariants as parts
use Rattle.ir_text_tree.specs.declared.row.Row.{Row}
use Rattle.ir_text_names.specs.declared.counting.Counted.{Counted}
use Rattle.ir_text_names.specs.declared.counting.Counted.TheVariants as counted
use Rattle.ir_text_names.specs.declared.fault.Wrong.{Wrong}
use Rattle.ir_text_names.specs.declared.fault.Wrong.TheVariants as wrongs
use Rattle.ir_text_names.specs.Rows.{part_of, row_operations}

-- of how many numbers below n the test holds
unfoldable pub tally : (ℕ → Bool) → ℕ → ℕ
tally test zero = 0
tally test (suc n) = tally test n + (if test n then 1 else 0)

-- the part is of that sort
abbrev pub is_counted : Counted → Part → Bool
is_counted counted.Operands parts.Operand = true
is_counted counted.OperandTypes parts.OperandType = true
is_counted counted.ResultTypes parts.ResultType = true
is_counted counted.ResultTypes parts.OnlyResultType = true
is_counted counted.Keys parts.Key = true
is_counted _ _ = false

-- how many there are by that number, behind a part
abbrev pub one_more : Counted → Part → ℕ → List ℕ → List ℕ
one_more sort part at counts = if is_counted sort part then slice_set counts at (slice_index_or counts at 0 + 1) else counts

-- row i is of that sort, and is a part of that operation
abbrev pub belongs : Counted → List Row → ℕ → ℕ → Bool
belongs sort rows operation i = is_counted sort (part_of rows i) && nat_eq (slice_index_or (row_operations rows) i 0) operation

-- how many rows of that sort are parts of that operation
abbrev pub how_many : Counted → List Row → ℕ → ℕ
how_many sort rows operation = tally (belongs sort rows operation) (length rows)

-- The row is the name of an operation that has not as many operand types as operands.
abbrev pub HasOtherTypes : List Row → ℕ → Type 0
HasOtherTypes rows i = (part_of rows i ≡ parts.Name) × (how_many counted.Operands rows (i + 1) ≢ how_many counted.OperandTypes rows (i + 1))

-- the faults of numbers of operand types
abbrev pub IsCountWrong : List Row → Wrong → ℕ → Type 0
IsCountWrong rows wrongs.OperandTypes i = HasOtherTypes rows i
IsCountWrong rows _ i = ⊥
