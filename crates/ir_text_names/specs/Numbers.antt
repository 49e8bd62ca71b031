-- Numbers in a text: how many results stand under a name, and how many an operation has.
use Rattle.std.specs.Prelude.{◌≡◌, ◌≢◌, ℕ, zero, suc, ◌+◌, ◌*◌, ◌-◌, ◌^◌, Bool, true, false, ◌&&◌, cond, nat_le, nat_lt, List, [], ◌∷◌, Option, Some, None}
use Rattle.std.specs.Option.{unwrap_or}
use Rattle.ir_text_tree.specs.declared.row.Part.{Part}
use Rattle.ir_text_tree.specs.declared.row.Part.TheVariants as parts
use Rattle.ir_text_tree.specs.declared.row.Row.{Row}
use Rattle.ir_text_names.specs.declared.counting.Counted.TheVariants as counted
use Rattle.ir_text_names.specs.declared.fault.Wrong.{Wrong}
use Rattle.ir_text_names.specs.declared.fault.Wrong.TheVariants as wrongs
use Rattle.ir_text_names.specs.declared.numbers.Amount.{Amount}
use Rattle.ir_text_names.specs.declared.numbers.Amount.TheVariants as amounts
use Rattle.ir_text_names.specs.Rows.{part_of, text_of}
use Rattle.ir_text_names.specs.Counts.{how_many}

-- the byte is a digit
abbrev pub is_digit : ℕ → Bool
is_digit b = nat_le 48 b && nat_le b 57

-- the number that these digits make behind those of another number, if they are digits
abbrev pub digits_behind : ℕ → List ℕ → Option ℕ
digits_behind n [] = Some n
digits_behind n (b ∷ bs) = cond (is_digit b) (digits_behind (10 * n + (b - 48)) bs) None

-- the decimal number that the text is, if it is one
abbrev pub number_in : List ℕ → Option ℕ
number_in [] = None
number_in (b ∷ bs) = digits_behind 0 (b ∷ bs)

-- a number as far as it can be held below that limit
abbrev pub held : ℕ → Option ℕ → Amount
held limit None = amounts.Nothing
held limit (Some n) = cond (nat_lt n limit) (amounts.Small n) amounts.Large

-- a number as far as a machine's word can hold it
abbrev pub amount_of : Option ℕ → Amount
amount_of o = held (2 ^ 64) o

abbrev pub is_count : Part → Bool
is_count parts.Count = true
is_count _ = false

-- how many values stand under a name, where a number follows it or not
abbrev pub values_under : Bool → Option ℕ → ℕ
values_under true o = unwrap_or o 0
values_under false o = 1

-- how many values stand under the name that row d gives
abbrev pub width : List ℕ → List Row → ℕ → ℕ
width text rows d = values_under (is_count (part_of rows (d + 1))) (number_in (text_of text rows (d + 1)))

-- the results so far, behind a row
abbrev pub results_on : Part → ℕ → ℕ → ℕ
results_on parts.Result more n = n + more
results_on parts.Count more n = n
results_on _ more n = 0

-- how many results stand in front of a row: those of the operation whose name it is
unfoldable pub results_before : List ℕ → List Row → ℕ → ℕ
results_before text rows zero = 0
results_before text rows (suc n) = results_on (part_of rows n) (width text rows n) (results_before text rows n)

-- The row says how many results stand under a name, and is no decimal number, or 0.
abbrev pub IsNoCount : List ℕ → List Row → ℕ → Type 0
IsNoCount text rows i = (part_of rows i ≡ parts.Count) × (unwrap_or (number_in (text_of text rows i)) 0 ≡ 0)

-- The row is the name of an operation that has not as many result types as results.
abbrev pub HasOtherResults : List ℕ → List Row → ℕ → Type 0
HasOtherResults text rows i = (part_of rows i ≡ parts.Name) × (results_before text rows i ≢ how_many counted.ResultTypes rows (i + 1))

-- the faults of numbers of results
abbrev pub IsResultWrong : List ℕ → List Row → Wrong → ℕ → Type 0
IsResultWrong text rows wrongs.ResultCount i = IsNoCount text rows i
IsResultWrong text rows wrongs.ResultTypes i = HasOtherResults text rows i
IsResultWrong text rows _ i = ⊥
