-- Kinds of operations and their numbers.
use Rattle.std.specs.Prelude.{ℕ, ◌+◌, ◌*◌, ◌-◌, ◌/◌, ◌%◌, ◌<◌, ◌^◌, ◌==◌, List, Option, Some, None, nat_lt, slice_get, if◌then◌else◌}
use Rattle.std.specs.List.{position}
use Rattle.std.specs.Option.{option_map}
use Rattle.std.specs.Str.{bytes_eq}
use Rattle.generic_table.specs.Cut.{Operation}
use Rattle.generic_table.specs.Table.{operations}
use Rattle.generic_dialect.specs.declared.kinds.Kind.{Kind}
use Rattle.generic_dialect.specs.declared.kinds.Kind.TheVariants.{Listed, Open}

-- below 65536 a number stands for a row of the table; from there on for twice the place of a name, and one more where the operation was last in its block
abbrev pub kind_of : ℕ → Kind
kind_of number =
    if nat_lt number 65536 then Listed number
    else Open (record { 0 = (number - 65536) / 2 }) ((number - 65536) % 2 == 1)

-- the number of a kind, where it is below 2 ^ 32
abbrev pub number_of : Kind → Option ℕ
number_of (Listed row) = Some row
number_of (Open name ends) = if nat_lt name.0 2147450880 then Some (if ends then (65536 + 2 * name.0) + 1 else 65536 + 2 * name.0) else None

-- the row fits into 16 bits
abbrev pub IsKind : Kind → Type 0
IsKind (Listed row) = row < 65536
IsKind (Open name ends) = name.0 < 2 ^ 32

-- the number of the kind of the listed operation with this name
abbrev pub listed_kind : List ℕ → Option ℕ
listed_kind name = position (λ (operation : Operation). bytes_eq operation.0 name) operations

-- the name of a kind, where it is listed
abbrev pub listed_name : Kind → Option (List ℕ)
listed_name (Listed row) = option_map (λ (operation : Operation). operation.0) (slice_get operations row)
listed_name (Open name ends) = None
