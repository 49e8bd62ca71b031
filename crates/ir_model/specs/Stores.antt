-- Auxiliary data and attribute dictionaries. Saved data is a list of distinct values, as the keys of types are: `place_of` and `with_key`.
use Rattle.std.specs.Prelude.{◌≡◌, Bool, true, List, [], ◌∷◌, Option, Some, None, bytes_eq, if◌then◌else◌}
use Rattle.std.specs.Map.{keys_of, lookup, remove_entry}
use Rattle.ir_model.specs.declared.ids.ArenaIndex.{ArenaIndex}
use Rattle.ir_model.specs.ContextIds.{same_id}
use Rattle.ir_model.specs.Ids.{Distinct}
use Rattle.ir_model.specs.Forest.{Text, Dialect}
use Rattle.ir_model.specs.Changes.{put}
use Rattle.ir_model.specs.Sessions.{Beside}

-- auxiliary data: a map from indices, and one from names to indices
module _ {W : Dialect} where
  -- the data under a new index
  abbrev pub with_aux : Beside W → ArenaIndex → W.Aux → Beside W
  with_aux b i data_ = record b {
    aux = put same_id i data_ b.aux;
    aux_passed = λ j. if same_id j i then true else b.aux_passed j;
  }

  -- the data without the entry; the names stay
  abbrev pub without_aux : Beside W → ArenaIndex → Beside W
  without_aux b i = record b { aux = λ j. if same_id j i then None else b.aux j }

  -- the name leads to the index, also where it led elsewhere
  abbrev pub with_aux_name : Beside W → Text → ArenaIndex → Beside W
  with_aux_name b name i = record b { aux_names = put bytes_eq name i b.aux_names }

-- attribute dictionaries: lists of pairs with distinct keys
module _ {A : Type 0} where
  -- the attribute under the key, where there is one
  abbrev pub attribute_at : List (Text × A) → Text → Option A
  attribute_at pairs key = lookup (bytes_eq key) pairs

  -- a key that is there keeps its place and gets the attribute, and a new one goes last
  abbrev pub set_attribute : List (Text × A) → Text → A → List (Text × A)
  set_attribute [] key a = (key, a) ∷ []
  set_attribute (p ∷ pairs) key a = if bytes_eq key p.0 then (p.0, a) ∷ pairs else p ∷ set_attribute pairs key a

  -- the pair with the key is taken out, and the rest keep their order
  abbrev pub without_attribute : List (Text × A) → Text → List (Text × A)
  without_attribute pairs key = remove_entry (bytes_eq key) pairs

  -- no key stands twice
  abbrev pub HasDistinctKeys : List (Text × A) → Type 0
  HasDistinctKeys pairs = Distinct (keys_of pairs)

  -- both are there and pass the test, or neither is there
  abbrev pub SameAttribute : (A → A → Bool) → Option A → Option A → Type 0
  SameAttribute same None None = Unit {0}
  SameAttribute same (Some a) (Some b) = same a b ≡ true
  SameAttribute same _ _ = ⊥

  -- the same keys lead to the same attributes, in whatever order
  abbrev pub SameAttributes : (A → A → Bool) → List (Text × A) → List (Text × A) → Type 0
  SameAttributes same pairs others = (key : Text) → SameAttribute same (attribute_at pairs key) (attribute_at others key)
