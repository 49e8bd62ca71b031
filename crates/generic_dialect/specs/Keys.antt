-- Keys of attributes, and their identifiers.
use Rattle.std.specs.Prelude.{◌≢◌, ℕ, Bool, false, ◌&&◌, ◌==◌, not, List, [], ◌∷◌, Option, Some, None, Result, Ok, Err, drop, if◌then◌else◌, bytes_eq}
use Rattle.hex.specs.Hex.{IsBytes, decode_of, encode_lower}
use Rattle.hex.specs.declared.error.FromHexError.{FromHexError}
use Rattle.ir_model.specs.Identifier.{is_identifier}

-- the text begins with `_`
abbrev pub begins : List ℕ → Bool
begins [] = false
begins (b ∷ bs) = b == 95

-- the text begins with `__`
abbrev pub is_marked : List ℕ → Bool
is_marked [] = false
is_marked (b ∷ bs) = b == 95 && begins bs

-- the key is an identifier, and doesn't begin with `__`
abbrev pub is_plain : List ℕ → Bool
is_plain key = is_identifier key && not (is_marked key)

-- the identifier of a key: itself, or `__` and two hexadecimal digits for each byte
abbrev pub key_name : List ℕ → List ℕ
key_name key = if is_plain key then key else 95 ∷ 95 ∷ encode_lower key

-- no key has this identifier
abbrev pub HasNoKey : List ℕ → Type 0
HasNoKey name = (key : List ℕ) → IsBytes key → key_name key ≢ name

-- what digits spell, if they do
abbrev pub decoded : Result (List ℕ) FromHexError → Option (List ℕ)
decoded (Ok bytes) = Some bytes
decoded (Err e) = None

-- a key, if the identifier is its own
abbrev pub own_key : List ℕ → Option (List ℕ) → Option (List ℕ)
own_key name None = None
own_key name (Some key) = if bytes_eq (key_name key) name then Some key else None

-- the key that has the identifier, if one has: what the digits behind `__` spell, or the identifier itself
abbrev pub the_key : List ℕ → Option (List ℕ)
the_key name = if is_marked name then own_key name (decoded (decode_of (drop 2 name))) else Some name
