-- Operations by number, in the order of their names.
use Rattle.std.specs.Prelude.{◌≡◌, ◌⊎◌, ℕ, ◌+◌, ◌-◌, ◌<◌, ◌≤◌, Bool, true, false, cond, List, length, slice_index_or}
use Rattle.ir_text_tree.specs.declared.row.Part.{Part}
use Rattle.ir_text_tree.specs.declared.row.Part.TheVariants as parts
use Rattle.ir_text_tree.specs.declared.row.Row.{Row}
use Rattle.ir_text_names.specs.declared.counting.Counted.{Counted}
use Rattle.ir_text_names.specs.declared.rows.NumberedOperations.{NumberedOperations}
use Rattle.ir_text_names.specs.Counts.{tally, belongs}
use Rattle.ir_text_names.specs.Rows.{part_of, row_operations}

abbrev pub is_name : Part → Bool
is_name parts.Name = true
is_name _ = false

-- row i is the name of an operation
abbrev pub is_name_at : List Row → ℕ → Bool
is_name_at rows i = is_name (part_of rows i)

-- the number of the operation with that index behind its name: how many operations' names stand before the index, so that the first has number 1; 0 for index 0
abbrev pub number_of : List Row → ℕ → ℕ
number_of rows o = tally (is_name_at rows) o

-- how many operations' names there are, if there were so many before a part
abbrev pub number_on : Part → ℕ → ℕ
number_on part n = cond (is_name part) (n + 1) n

-- how many there were before a part, if so many are behind it
abbrev pub number_off : Part → ℕ → ℕ
number_off part n = cond (is_name part) (n - 1) n

-- The index is one behind the name of an operation, or 0.
abbrev pub IsOperation : List Row → ℕ → Type 0
IsOperation rows o = (o ≡ 0) ⊎ ((k : ℕ) × (o ≡ k + 1) × (part_of rows k ≡ parts.Name))

-- How many parts of a sort each operation has among the rows below n, by its number.
pub record AreCounted (sort : Counted) (rows : List Row) (n : ℕ) (counts : List ℕ) : Type 0 where
  pub room : length counts ≡ number_of rows (length rows) + 1
  pub counted : (o : ℕ) → IsOperation rows o → o ≤ length rows → slice_index_or counts (number_of rows o) 0 ≡ tally (belongs sort rows o) n

-- What is known of the operations of few rows: how many there are, and the number of that of each row.
pub record AreOperations (rows : List Row) (operations : NumberedOperations) : Type 0 where
  pub few : length rows < 4294967295
  pub count : operations.count ≡ number_of rows (length rows)
  pub long : length operations.numbers.items ≡ length rows
  pub numbers : (i : ℕ) → i < length rows → slice_index_or operations.numbers.items i 0 ≡ number_of rows (slice_index_or (row_operations rows) i 0)
