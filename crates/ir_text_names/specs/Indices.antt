-- Which of the values under its name an operand is.
use Rattle.std.specs.Prelude.{◌≡◌, ℕ, ◌+◌, ◌<◌, ◌^◌, Bool, true, false, List, length, drop, Option, Some, None, slice_index_or}
use Rattle.ir_text_tree.specs.declared.row.Part.{Part}
use Rattle.ir_text_tree.specs.declared.row.Part.TheVariants as parts
use Rattle.ir_text_tree.specs.declared.row.Row.{Row}
use Rattle.ir_text_names.specs.declared.fault.Wrong.{Wrong}
use Rattle.ir_text_names.specs.declared.fault.Wrong.TheVariants as wrongs
use Rattle.ir_text_names.specs.Rows.{part_of, text_of}
use Rattle.ir_text_names.specs.Numbers.{number_in, width}
use Rattle.ir_text_names.specs.Values.{NamesValue, IsClear}

abbrev pub is_index : Part → Bool
is_index parts.Index = true
is_index _ = false

-- which of several values it is, where a number follows the name or not
abbrev pub number_of : Bool → Option ℕ → Option ℕ
number_of true o = o
number_of false o = Some 0

-- which of the values under its name the operand is, counted from 0: what follows the mark behind the name, or 0 where no mark follows
abbrev pub which : List ℕ → List Row → ℕ → Option ℕ
which text rows u = number_of (is_index (part_of rows (u + 1))) (number_in (drop 1 (text_of text rows (u + 1))))

-- The operand's number is one of the values under the name that row d gives; a number that a machine's word can't hold is none.
abbrev pub IsOneOf : List ℕ → List Row → ℕ → ℕ → Type 0
IsOneOf text rows u d = (k : ℕ) × (which text rows u ≡ Some k) × (k < 2 ^ 64) × (k < width text rows d)

-- Nothing is defined twice in the text, and the operand names a definition, but its number is none of the values there.
abbrev pub IsBeyond : List ℕ → List Row → ℕ → Type 0
IsBeyond text rows u = IsClear text rows (length rows) × ((d : ℕ) × NamesValue text rows u d × ¬ IsOneOf text rows u d)

-- The row has an entry in the table, and the operand's number is none of the values there.
abbrev pub IsEntryBeyond : List ℕ → List Row → List (Option ℕ) → ℕ → Type 0
IsEntryBeyond text rows table u = (d : ℕ) × (slice_index_or table u None ≡ Some d) × (d < length rows) × ¬ IsOneOf text rows u d

-- the faults of operands' numbers: the name is unknown
abbrev pub IsIndexWrong : List ℕ → List Row → Wrong → ℕ → Type 0
IsIndexWrong text rows wrongs.UnknownValue u = IsBeyond text rows u
IsIndexWrong text rows _ u = ⊥
