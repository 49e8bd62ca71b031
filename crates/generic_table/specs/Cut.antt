-- Names that stand one after the other in a text, cut apart.
use Rattle.std.specs.Prelude.{ℕ, ◌-◌, List, [], ◌∷◌, take, drop}
use Rattle.generic_table.specs.declared.traits.Traits.{Traits}

-- an operation: its name, and what MLIR says of it
abbrev pub Operation : Type 0
Operation = List ℕ × Traits

-- where an operation's name ends, and what MLIR says of it
abbrev pub Row : Type 0
Row = ℕ × Traits

-- the operations, where the text is what follows a place: each name goes from there, or from the end of the one before, to its own end
unfoldable pub cut : ℕ → List ℕ → List Row → List Operation
cut start text [] = []
cut start text (row ∷ rows) = (take (row.0 - start) text, row.1) ∷ cut row.0 (drop (row.0 - start) text) rows
