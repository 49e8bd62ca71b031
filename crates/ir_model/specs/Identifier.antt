-- Which texts are identifiers. A text is the list of its bytes.
use Rattle.std.specs.Prelude.{ℕ, Bool, false, ◌&&◌, ◌||◌, ◌==◌, List, [], ◌∷◌, IsTrue}
use Rattle.std.specs.List.{list_all}
use Rattle.std.specs.Char.{is_ascii_alphabetic, is_ascii_alphanumeric}

-- an ASCII letter or `_`
abbrev pub can_start : ℕ → Bool
can_start b = is_ascii_alphabetic b || b == 95

-- an ASCII letter, a digit or `_`
abbrev pub can_continue : ℕ → Bool
can_continue b = is_ascii_alphanumeric b || b == 95

-- whether the first byte is a letter or `_`, and each further one a letter, a digit or `_`
abbrev pub is_identifier : List ℕ → Bool
is_identifier [] = false
is_identifier (b ∷ bs) = can_start b && list_all can_continue bs

-- the text is an identifier
abbrev pub IsIdentifier : List ℕ → Type 0
IsIdentifier text = IsTrue (is_identifier text)
