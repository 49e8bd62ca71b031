-- The tables of the dialect Toy.
use Rattle.std.specs.Prelude.{ℕ, Bool, List, [], ◌∷◌, ◌==◌, ◌&&◌, not, codes, if◌then◌else◌}
use Rattle.std.specs.List.{list_any}

-- The kinds of operations, each with an interface that it implements.
abbrev pub op_table : List (ℕ × ℕ)
op_table = (0, 6) ∷ (1, 6) ∷ (2, 1) ∷ (3, 1) ∷ (5, 2) ∷ (7, 2) ∷ (7, 3) ∷ []

-- The kinds of attributes, each with an interface that it implements.
abbrev pub attr_table : List (ℕ × ℕ)
attr_table = (0, 5) ∷ (2, 4) ∷ []

-- The kinds of types, each with an interface that it implements.
abbrev pub type_table : List (ℕ × ℕ)
type_table = (0, 16) ∷ []

-- The table has the kind with the interface.
abbrev pub has_pair : List (ℕ × ℕ) → ℕ → ℕ → Bool
has_pair table kind interface = list_any (λ (k, i). (k == kind) && (i == interface)) table

-- The name of a kind of operations.
abbrev pub op_name : ℕ → List ℕ
op_name kind =
    if kind == 0 then codes "constant"
    else if kind == 1 then codes "add"
    else if kind == 2 then codes "return"
    else if kind == 3 then codes "branch"
    else if kind == 4 then codes "use"
    else if kind == 5 then codes "module"
    else if kind == 6 then codes "func"
    else if kind == 7 then codes "graph"
    else codes "unknown"

-- The name of a kind of attributes.
abbrev pub attr_name : ℕ → List ℕ
attr_name kind =
    if kind == 0 then codes "int"
    else if kind == 1 then codes "text"
    else if kind == 2 then codes "outlined"
    else codes "unknown"

-- The name of a kind of types.
abbrev pub type_name : ℕ → List ℕ
type_name kind =
    if kind == 0 then codes "int"
    else if kind == 1 then codes "named"
    else codes "unknown"

-- Each region of a kind has SSA dominance, but the first of a graph.
abbrev pub is_ssa : ℕ → ℕ → Bool
is_ssa kind index = not ((kind == 7) && (index == 0))
