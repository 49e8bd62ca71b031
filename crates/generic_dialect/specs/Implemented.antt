-- What kinds of operations implement, and which of their regions have SSA dominance.
use Rattle.std.specs.Prelude.{ℕ, Bool, true, false, ◌==◌, Option, Some, None, slice_get, if◌then◌else◌}
use Rattle.generic_table.specs.declared.traits.Traits.{Traits}
use Rattle.generic_table.specs.Cut.{Operation}
use Rattle.generic_table.specs.Table.{operations}
use Rattle.generic_dialect.specs.declared.kinds.Kind.{Kind}
use Rattle.generic_dialect.specs.declared.kinds.Kind.TheVariants.{Listed, Open}
use Rattle.generic_dialect.specs.Kinds.{kind_of}

-- a listed operation implements what MLIR says of it, and says which of its regions have dominance (interface 3)
abbrev pub listed_implements : Traits → ℕ → Bool
listed_implements traits interface =
    if interface == 1 then traits.terminator
    else if interface == 2 then traits.no_terminator
    else if interface == 3 then true
    else if interface == 6 then traits.pure_operation
    else false

-- an open operation may end its block where it was found last, needs no terminator in its own, and is never pure
abbrev pub open_implements : Bool → ℕ → Bool
open_implements ends interface =
    if interface == 1 then ends
    else if interface == 2 then true
    else if interface == 3 then true
    else false

-- a row that the table lacks implements nothing
abbrev pub row_implements : Option Operation → ℕ → Bool
row_implements (Some operation) interface = listed_implements operation.1 interface
row_implements None interface = false

abbrev pub kind_implements : Kind → ℕ → Bool
kind_implements (Listed row) interface = row_implements (slice_get operations row) interface
kind_implements (Open name ends) interface = open_implements ends interface

-- what the kind with this number implements
abbrev pub implements : ℕ → ℕ → Bool
implements number interface = kind_implements (kind_of number) interface

abbrev pub row_dominance : Option Operation → Bool
row_dominance (Some operation) = operation.1.dominance
row_dominance None = false

-- dominance is known where the table says it
abbrev pub kind_dominance : Kind → Bool
kind_dominance (Listed row) = row_dominance (slice_get operations row)
kind_dominance (Open name ends) = false

-- whether each region of the kind with this number has SSA dominance
abbrev pub has_dominance : ℕ → ℕ → Bool
has_dominance number index = kind_dominance (kind_of number)
