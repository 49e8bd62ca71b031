-- The two tables of a legaliser: the name of each source, and the source of each name.
use Rattle.std.specs.Prelude.{◌≡◌, ℕ, List, map, Option, Some, string_bytes, nat_eq, String}
use Rattle.std.specs.Option.{option_map}
use Rattle.std.specs.Cmp.Lexicographic.{pointwise}
use Rattle.std.specs.HashMap.{HashMap, get, get_by_text}
use Rattle.std.specs.FinMap as finite
use Rattle.ir_model.specs.Legaliser.{Given}

-- the source of a name
abbrev pub source_at : {Y S : Type 0} → HashMap (List ℕ) (String Y) S → List ℕ → Option (List ℕ)
source_at sources name = option_map (λ t. string_bytes t) (get (pointwise nat_eq) sources name)

-- each of the two finds a exactly at b where the other finds b at a
pub record AreInverse (f g : List ℕ → Option (List ℕ)) : Type 0 where
  pub there : (a b : List ℕ) → f a ≡ Some b → g b ≡ Some a
  pub back : (a b : List ℕ) → g b ≡ Some a → f a ≡ Some b

-- a source has a name exactly where the name has that source
abbrev pub ArePaired : {Y Z S : Type 0} → HashMap (String Y) (List ℕ) S → HashMap (List ℕ) (String Z) S → Type 0
ArePaired names sources = AreInverse (get_by_text names) (source_at sources)

-- what was given, where the names and the counter are these
abbrev pub given_by : {Y S : Type 0} → HashMap (String Y) (List ℕ) S → ℕ → Given
given_by names counter = record { names = finite.from_entries (map (λ p. (string_bytes p.0, p.1)) names.entries); counter = counter }
