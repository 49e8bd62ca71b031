-- Worked examples of identifiers: which letters stay, and where the numbers end.
use Rattle.std.specs.Prelude.{◌≡◌, ◌↔◌, ℕ, ◌^◌, ◌-◌, List, [], ◌∷◌, ◌++◌, map, Some, codes}
use Rattle.ir_model.specs.Forest.{Text}
use Rattle.ir_model.specs.Identifier.{IsIdentifier}
use Rattle.ir_model.specs.Legaliser.{Given, nothing_given, name_of, Gives, NamesInTurn, IsSpent}

-- a legaliser with this counter that was asked nothing yet gives these sources these identifiers, in this order, and no others
pub record GivesAlone (counter : ℕ) (calls : List (Text × Text)) : Type 0 where
  pub given : (s : Given) × NamesInTurn (nothing_given counter) calls s
  pub alone : (others : List (Text × Text)) (s : Given) → map (λ call. call.0) others ≡ map (λ call. call.0) calls → NamesInTurn (nothing_given counter) others s → others ≡ calls

-- ## First letters

-- the letter `é`, which is two bytes
abbrev pub e_acute : Text
e_acute = 195 ∷ 169 ∷ []

-- what may not start an identifier becomes `_`, once for each character
pub record LegaliseFirstLetters : Type 0 where
  pub underscore_then_empty : GivesAlone 0 ((codes "_", codes "_") ∷ (codes "", codes "__0") ∷ [])
  pub past_ascii : GivesAlone 0 ((e_acute, codes "_") ∷ [])
  pub digit_first : GivesAlone 0 ((codes "1x", codes "_x") ∷ [])
  -- a letter is not replaced byte by byte
  pub not_two : (s : Given) → NamesInTurn (nothing_given 0) ((e_acute, codes "__") ∷ []) s → ⊥
  -- a digit is not kept in front, and nothing is put before it
  pub not_kept : (s : Given) → NamesInTurn (nothing_given 0) ((codes "1x", codes "1x") ∷ []) s → ⊥
  pub not_put_before : (s : Given) → NamesInTurn (nothing_given 0) ((codes "1x", codes "_1x") ∷ []) s → ⊥
  -- of texts that are identifiers, and that are none
  pub lower : IsIdentifier (codes "hi12")
  pub upper : IsIdentifier (codes "A12ab")
  pub no_point : IsIdentifier (codes "hi12.") → ⊥
  pub no_digit_first : IsIdentifier (codes "12ab") → ⊥
  pub no_point_first : IsIdentifier (codes ".a12ab") → ⊥
  pub not_empty : IsIdentifier (codes "") → ⊥

-- ## The last number

-- a counter of 2^64 - 2 gives one number, which is then part of a name
abbrev pub last_calls : List (Text × Text)
last_calls = (codes "b.", codes "b_") ∷ (codes "b_", codes "b__18446744073709551614") ∷ []

-- one number earlier there is one more
abbrev pub earlier_calls : List (Text × Text)
earlier_calls = (codes "b.", codes "b_") ∷ (codes "b_", codes "b__18446744073709551613") ∷ []

-- behind the last number no name is left, and what was given stays
pub record LegaliseCounterSpent : Type 0 where
  pub last_is_given : GivesAlone (2 ^ 64 - 2) last_calls
  pub spent : (s : Given) → NamesInTurn (nothing_given (2 ^ 64 - 2)) last_calls s → IsSpent s (codes "b!")
  -- the third source is given no name at all
  pub no_third : (s : Given) (name : Text) → NamesInTurn (nothing_given (2 ^ 64 - 2)) (last_calls ++ (codes "b!", name) ∷ []) s → ⊥
  -- the first source is still given its name, and changes nothing
  pub known_again : (s : Given) → NamesInTurn (nothing_given (2 ^ 64 - 2)) last_calls s → Gives s (codes "b.") (codes "b_") s
  pub leads_back : (s : Given) (source : Text) → NamesInTurn (nothing_given (2 ^ 64 - 2)) last_calls s → (name_of s source ≡ Some (codes "b_")) ↔ (source ≡ codes "b.")
  -- one number earlier the third source is given the last
  pub not_spent_before : (s : Given) → NamesInTurn (nothing_given (2 ^ 64 - 3)) earlier_calls s → IsSpent s (codes "b!") → ⊥
  pub third_before : GivesAlone (2 ^ 64 - 3) (earlier_calls ++ (codes "b!", codes "b__18446744073709551614") ∷ [])
