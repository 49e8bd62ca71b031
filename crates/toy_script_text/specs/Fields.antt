-- The fields of a script's lines, and what stands in them.
use Rattle.std.specs.Prelude.{◌≡◌, ℕ, ◌≤◌, ◌⊎◌, ◌==◌, List, [], ◌∷◌, drop, slice_index, All, codes}
use Rattle.std.specs.List.{AllZip, slice_split}
use Rattle.std.specs.Str.Parse.{IsNumeral, digits_value}

-- the line is skipped: its first character is `#`, or it has spaces alone, or nothing
abbrev pub IsSkipped : List ℕ → Type 0
IsSkipped line = (slice_index line 0 ≡ 35) ⊎ All (λ byte. byte ≡ 32) line

-- a number: one or more digits, with a value of at most 4294967295
abbrev pub IsNumberField : List ℕ → Type 0
IsNumberField text = IsNumeral 10 text × (digits_value 10 text ≤ 4294967295)

-- the value of a number
abbrev pub number_of : List ℕ → ℕ
number_of text = digits_value 10 text

-- a name with this letter: the letter, and directly behind it a number
abbrev pub IsName : ℕ → List ℕ → Type 0
IsName letter text = (text ≡ letter ∷ drop 1 text) × IsNumberField (drop 1 text)

-- the number of a name
abbrev pub number_in_name : List ℕ → ℕ
number_in_name text = number_of (drop 1 text)

-- a name with this letter, and its number
abbrev pub IsNameOf : ℕ → List ℕ → ℕ → Type 0
IsNameOf letter text number = IsName letter text × (number ≡ number_in_name text)

-- a list of names with this letter, and their numbers: `-` for none, or names with single commas between them
abbrev pub AreNames : ℕ → List ℕ → List ℕ → Type 0
AreNames letter text numbers = ((text ≡ codes "-") × (numbers ≡ [])) ⊎ AllZip (IsNameOf letter) (slice_split (λ byte. byte == 44) text) numbers
