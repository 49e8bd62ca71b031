-- Texts in quotes, and keys.
use Rattle.std.specs.Prelude.{ℕ, ◌+◌, ◌-◌, ◌/◌, ◌%◌, ◌==◌, nat_le, ◌&&◌, ◌||◌, Bool, false, not, if◌then◌else◌, List, [], ◌∷◌, ◌++◌}
use Rattle.std.specs.List.{flat_map, list_all}

-- a byte that stands for itself in quotes: one that can be printed, and no quote
abbrev pub is_shown : ℕ → Bool
is_shown b = nat_le 32 b && (nat_le b 126 && not (b == 34))

-- a hexadecimal digit: 0 to 9, A to F
abbrev pub hex_digit : ℕ → ℕ
hex_digit d = if nat_le d 9 then 48 + d else 65 + (d - 10)

-- a byte as it stands in quotes
abbrev pub escaped : ℕ → List ℕ
escaped b = if b == 92 then 92 ∷ 92 ∷ [] else (if is_shown b then b ∷ [] else 92 ∷ hex_digit (b / 16) ∷ hex_digit (b % 16) ∷ [])

-- a text in quotes
abbrev pub quoted : List ℕ → List ℕ
quoted text = 34 ∷ (flat_map escaped text ++ 34 ∷ [])

abbrev pub is_letter : ℕ → Bool
is_letter b = (nat_le 65 b && nat_le b 90) || (nat_le 97 b && nat_le b 122)

abbrev pub is_digit : ℕ → Bool
is_digit b = nat_le 48 b && nat_le b 57

-- a letter or `_`
abbrev pub is_key_start : ℕ → Bool
is_key_start b = is_letter b || (b == 95)

-- a letter, a digit, `_`, `$` or `.`
abbrev pub is_key_rest : ℕ → Bool
is_key_rest b = is_letter b || (is_digit b || ((b == 95) || ((b == 36) || (b == 46))))

-- its first byte lets a key stand without quotes
abbrev pub starts_key : List ℕ → Bool
starts_key [] = false
starts_key (b ∷ bs) = is_key_start b

-- a key that may stand without quotes
abbrev pub is_bare_key : List ℕ → Bool
is_bare_key key = starts_key key && list_all is_key_rest key

-- a key, in quotes where it can't stand without
abbrev pub key_text : List ℕ → List ℕ
key_text key = if is_bare_key key then key else quoted key
