-- What a row says by its text.
use Rattle.std.specs.Prelude.{ℕ, ◌+◌, ◌-◌, ◌*◌, min, nat_lt, if◌then◌else◌, List, [], ◌∷◌, length}
use Rattle.std.specs.Char.{is_ascii_digit}
use Rattle.ir_text_tree.specs.declared.row.Part.{Part}
use Rattle.ir_text_tree.specs.declared.row.Part.TheVariants as parts
use Rattle.ir_text_tree.specs.declared.row.Row.{Row}
use Rattle.ir_text_names.specs.Rows.{part_of}

-- what the row is; past the end the end of a region
abbrev pub part_at : List Row → ℕ → Part
part_at rows i = if nat_lt i (length rows) then part_of rows i else parts.Close

-- a number with this digit behind its digits; what is no digit counts for nothing
abbrev pub with_digit : ℕ → ℕ → ℕ
with_digit n b = if is_ascii_digit b then 10 * n + (b - 48) else n

-- the number that the digits of a text make behind those of a number
unfoldable pub digits_behind : ℕ → List ℕ → ℕ
digits_behind n [] = n
digits_behind n (b ∷ bs) = digits_behind (with_digit n b) bs

-- a number as far as 64 bits hold it
abbrev pub held : ℕ → ℕ
held n = min n 18446744073709551615
