-- Rows by what they belong to and by their names.
use Rattle.std.specs.Prelude.{ℕ, Bool, List, Option, ◌&&◌, nat_eq}
use Rattle.std.specs.Str.{bytes_eq}
use Rattle.std.specs.HashMap.{HashMap, get_by}
use denote.Ref.{Bor}

-- the key is of that owner and has that name
abbrev pub is_place : ℕ → List ℕ → ℕ × Bor (List ℕ) → Bool
is_place scope name key = nat_eq scope key.0 && bytes_eq name key.1.now

-- the row that was put last for that owner and that name
abbrev pub row_at : {S : Type 0} → HashMap (ℕ × Bor (List ℕ)) ℕ S → ℕ → List ℕ → Option ℕ
row_at places scope name = get_by (is_place scope name) places
