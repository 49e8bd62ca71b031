-- The types of operands and of the values that they name.
use Rattle.std.specs.Prelude.{◌≡◌, ◌≢◌, ℕ, suc, ◌+◌, ◌<◌, ◌^◌, true, cond, List, [], ◌∷◌, length, drop, Option, Some, None, slice_index_or}
use Rattle.ir_text_tree.specs.declared.row.Part.{Part}
use Rattle.ir_text_tree.specs.declared.row.Part.TheVariants as parts
use Rattle.ir_text_tree.specs.declared.row.Row.{Row}
use Rattle.ir_text_names.specs.declared.counting.Counted.{Counted}
use Rattle.ir_text_names.specs.declared.counting.Counted.TheVariants as counted
use Rattle.ir_text_names.specs.declared.fault.Wrong.{Wrong}
use Rattle.ir_text_names.specs.declared.fault.Wrong.TheVariants as wrongs
use Rattle.ir_text_names.specs.Rows.{part_of, text_of, row_operations}
use Rattle.ir_text_names.specs.Counts.{tally, is_counted, belongs}
use Rattle.ir_text_names.specs.Operations.{is_name}
use Rattle.ir_text_names.specs.Numbers.{results_before}
use Rattle.ir_text_names.specs.Values.{NamesValue, IsClear}
use Rattle.ir_text_names.specs.Indices.{which}

-- the operation that the row is a part of, by the index behind its name
abbrev pub operation_of : List Row → ℕ → ℕ
operation_of rows i = slice_index_or (row_operations rows) i 0

-- how many rows of that sort in its operation stand before the row
abbrev pub place_of : Counted → List Row → ℕ → ℕ
place_of sort rows i = tally (belongs sort rows (operation_of rows i)) i

-- Row i is of that sort, a part of that operation, and so many rows of the sort stand there before it.
abbrev pub IsAt : Counted → List Row → ℕ → ℕ → ℕ → Type 0
IsAt sort rows operation place i = (is_counted sort (part_of rows i) ≡ true) × (operation_of rows i ≡ operation) × (place_of sort rows i ≡ place)

-- Row t is the type of the operand at row u: it stands at the same place.
abbrev pub IsOperandType : List Row → ℕ → ℕ → Type 0
IsOperandType rows u t = IsAt counted.OperandTypes rows (operation_of rows u) (place_of counted.Operands rows u) t

-- the index behind the first of these rows that is the name of an operation, where the first of them has that index; 0 where none is
abbrev pub name_or : Part → ℕ → ℕ → ℕ
name_or p behind next = cond (is_name p) behind next

unfoldable pub next_from : ℕ → List Row → ℕ
next_from at [] = 0
next_from at (r ∷ rows) = name_or r.part (suc at) (next_from (suc at) rows)

-- the operation whose result the row names, by the index behind its name
abbrev pub next_operation : List Row → ℕ → ℕ
next_operation rows d = next_from d (drop d rows)

-- Row s is the type of the result with that number under the name that row d gives.
abbrev pub IsResultType : List ℕ → List Row → ℕ → ℕ → ℕ → Type 0
IsResultType text rows d k s = (results_before text rows d + k < 2 ^ 64) × IsAt counted.ResultTypes rows (next_operation rows d) (results_before text rows d + k) s

-- Row s is the type of the argument whose name row d is.
abbrev pub IsArgumentType : List Row → ℕ → ℕ → Type 0
IsArgumentType rows d s = (s ≡ d + 1) × (part_of rows s ≡ parts.ArgumentType)

-- Row s is the type of the value with that number under the name that row d gives: an argument's stands behind it, a result's among the types of its operation, at a place that a machine's word can hold.
abbrev pub IsTypeOf : Part → List ℕ → List Row → ℕ → ℕ → ℕ → Type 0
IsTypeOf parts.Argument text rows d k s = IsArgumentType rows d s
IsTypeOf parts.Result text rows d k s = IsResultType text rows d k s
IsTypeOf _ text rows d k s = ⊥

abbrev pub IsValueType : List ℕ → List Row → ℕ → ℕ → ℕ → Type 0
IsValueType text rows d k s = IsTypeOf (part_of rows d) text rows d k s

-- The type of the operand at row u is another text than that of the value with that number under the name that row d gives.
abbrev pub HasOtherTypeAt : List ℕ → List Row → ℕ → ℕ → ℕ → Type 0
HasOtherTypeAt text rows u d k = (s : ℕ) × IsValueType text rows d k s × ((t : ℕ) × IsOperandType rows u t × (text_of text rows t ≢ text_of text rows s))

-- The type of the operand at row u is another text than that of the value that it is under the name that row d gives.
abbrev pub HasOtherType : List ℕ → List Row → ℕ → ℕ → Type 0
HasOtherType text rows u d = (k : ℕ) × (which text rows u ≡ Some k) × (k < 2 ^ 64) × HasOtherTypeAt text rows u d k

-- Nothing is defined twice in the text, and the operand has another type than the value that it names.
abbrev pub IsTypeOther : List ℕ → List Row → ℕ → Type 0
IsTypeOther text rows u = IsClear text rows (length rows) × ((d : ℕ) × NamesValue text rows u d × HasOtherType text rows u d)

-- the same of the definition in a table
abbrev pub IsEntryOther : List ℕ → List Row → List (Option ℕ) → ℕ → Type 0
IsEntryOther text rows table u = (d : ℕ) × (slice_index_or table u None ≡ Some d) × (d < length rows) × HasOtherType text rows u d

-- the faults of operands' types
abbrev pub IsTypeWrong : List ℕ → List Row → Wrong → ℕ → Type 0
IsTypeWrong text rows wrongs.TypeOther u = IsTypeOther text rows u
IsTypeWrong text rows _ u = ⊥
