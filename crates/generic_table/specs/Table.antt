-- The table of operations.
use Rattle.std.specs.Prelude.{ℕ, List}
use Rattle.generic_table.specs.declared.table.TheConstants.{NAMES, ROWS}
use Rattle.generic_table.specs.Cut.{Row, Operation, cut}

-- the names of all operations, one after the other
unfoldable pub all_names : List ℕ
all_names = NAMES

-- of each operation where its name ends, and what MLIR says of it
unfoldable pub rows : List Row
rows = ROWS

-- each operation with what MLIR says of it
unfoldable pub operations : List Operation
operations = cut 0 all_names rows
