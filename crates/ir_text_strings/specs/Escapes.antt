-- What a text between quotes stands for.
use Rattle.std.specs.Prelude.{ℕ, ◌+◌, ◌-◌, ◌*◌, ◌==◌, nat_le, ◌&&◌, ◌||◌, Bool, if◌then◌else◌, List, [], ◌∷◌}
use Rattle.std.specs.List.{list_any}

-- 0 to 9
abbrev pub is_digit : ℕ → Bool
is_digit b = nat_le 48 b && nat_le b 57

-- A to F
abbrev pub is_upper : ℕ → Bool
is_upper b = nat_le 65 b && nat_le b 70

-- a to f
abbrev pub is_lower : ℕ → Bool
is_lower b = nat_le 97 b && nat_le b 102

-- a hexadecimal digit, of either case
abbrev pub is_hex : ℕ → Bool
is_hex b = is_digit b || (is_upper b || is_lower b)

-- the number that a hexadecimal digit stands for; 0 where it is none
abbrev pub hex_value : ℕ → ℕ
hex_value b = if is_digit b then b - 48 else (if is_upper b then b - 65 + 10 else (if is_lower b then b - 97 + 10 else 0))

-- a byte that makes an escape of a backslash before it: a backslash, a quote, `n` or `t`
abbrev pub is_mark : ℕ → Bool
is_mark b = (b == 92) || ((b == 34) || ((b == 110) || (b == 116)))

-- what such a byte stands for behind a backslash: `n` for the end of a line, `t` for a tab, the others for themselves
abbrev pub marked : ℕ → ℕ
marked b = if b == 110 then 10 else (if b == 116 then 9 else b)

-- a backslash and such a byte
abbrev pub is_marked : ℕ → ℕ → Bool
is_marked a b = (a == 92) && is_mark b

-- a backslash and two hexadecimal digits
abbrev pub is_number : ℕ → ℕ → ℕ → Bool
is_number a b c = (a == 92) && (is_hex b && is_hex c)

-- The bytes that a text between quotes stands for: each escape is one byte, and all else stands for itself, a backslash that begins no escape too.
unfoldable pub unescaped : List ℕ → List ℕ
unescaped [] = []
unescaped (a ∷ []) = a ∷ []
unescaped (a ∷ b ∷ []) = if is_marked a b then marked b ∷ [] else a ∷ b ∷ []
unescaped (a ∷ b ∷ c ∷ text) =
    if is_marked a b then marked b ∷ unescaped (c ∷ text) else (if is_number a b c then (16 * hex_value b + hex_value c) ∷ unescaped text else a ∷ unescaped (b ∷ c ∷ text))

-- the byte that the first of three bytes of a text stands for, with the others if they make an escape
abbrev pub first_byte : ℕ → ℕ → ℕ → ℕ
first_byte a b c = if is_marked a b then marked b else (if is_number a b c then 16 * hex_value b + hex_value c else a)

-- how many more bytes of the text spell it
abbrev pub first_more : ℕ → ℕ → ℕ → ℕ
first_more a b c = if is_marked a b then 1 else (if is_number a b c then 2 else 0)

-- the text has a backslash
abbrev pub has_escapes : List ℕ → Bool
has_escapes text = list_any (λ (b : ℕ). b == 92) text
