-- Rows as numbers, where 0 stands for none.
use Rattle.std.specs.Prelude.{ℕ, zero, suc, List, map, Option, Some, None}

-- the row that a number stands for: one less, and none for 0
abbrev pub entry : ℕ → Option ℕ
entry zero = None
entry (suc n) = Some n

-- the rows that these numbers stand for
abbrev pub all_entries : List ℕ → List (Option ℕ)
all_entries numbers = map entry numbers
