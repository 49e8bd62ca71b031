-- Stores whose keys have a body each: lists of pairs with distinct keys.
use Rattle.std.specs.Prelude.{◌≡◌, Bool, List, [], ◌∷◌, ◌++◌, MatchBool}
use Rattle.std.specs.List.{list_any}
use Rattle.std.specs.Map.{keys_of}

module _ {K B : Type 0} (same : K → K → Bool) where
  -- the key stands among those of the pairs
  abbrev pub has_key : List (K × B) → K → Bool
  has_key pairs key = list_any (λ kept. same kept key) (keys_of pairs)

  -- a key that is there changes nothing, and else it goes last, with a first body
  abbrev pub Stores : (B → Type 0) → List (K × B) → K → List (K × B) → Type 0
  Stores IsFirst old key new = MatchBool (has_key old key) (new ≡ old) ((body : B) × (IsFirst body × (new ≡ old ++ (key, body) ∷ [])))
