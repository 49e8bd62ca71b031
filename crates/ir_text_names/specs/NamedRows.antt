-- Rows by their names: those whose names are digits behind `%` by a number, and others by a hash.
use Rattle.std.specs.Prelude.{ℕ, Bool, false, cond, nat_eq, nat_lt, List, [], ◌∷◌, drop, Option, Some, None, slice_index_or}
use Rattle.ir_text_names.specs.declared.named_rows.NamedRows.{NamedRows}
use Rattle.ir_text_names.specs.Entries.{entry}
use Rattle.ir_text_names.specs.Numbers.{digits_behind}
use Rattle.ir_text_names.specs.Places.{row_at}

-- the number, if it is below the limit
abbrev pub below : ℕ → Option ℕ → Option ℕ
below limit None = None
below limit (Some n) = cond (nat_lt n limit) (Some n) None

-- the text begins with `%`
abbrev pub is_marked : List ℕ → Bool
is_marked [] = false
is_marked (b ∷ bs) = nat_eq b 37

-- the spot of a name: the number that its digits make behind a 1, if it is `%` and digits, and the number is below the limit
abbrev pub spot : ℕ → List ℕ → Option ℕ
spot limit name = cond (is_marked name) (below limit (digits_behind 1 (drop 1 name))) None

-- the row at a spot, or else that under the name
abbrev pub row_there : NamedRows → List ℕ → Option ℕ → Option ℕ
row_there rows name (Some k) = entry (slice_index_or rows.spots.items k 0)
row_there rows name None = row_at rows.others 0 name

-- the row that was put last under that name
abbrev pub named_row : NamedRows → List ℕ → Option ℕ
named_row rows name = row_there rows name (spot rows.limit name)
