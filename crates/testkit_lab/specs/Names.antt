-- The names of the small dialect's kinds of types.
use Rattle.std.specs.Prelude.{ℕ, List, ◌==◌, codes, if◌then◌else◌}

-- The name of a kind of types.
abbrev pub type_name : ℕ → List ℕ
type_name kind =
    if kind == 0 then codes "sized"
    else if kind == 1 then codes "listed"
    else if kind == 2 then codes "pair"
    else codes "bare"
