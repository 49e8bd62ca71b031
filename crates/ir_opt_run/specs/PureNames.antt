-- What is pure by the dialect is pure by the table, under the name that is written.
use Rattle.std.specs.Prelude.{◌≡◌, ◌≢◌, ℕ, List, [], Some, IsTrue, is_some, true, slice_get}
use Rattle.ir_model.specs.BlockGraph.{pure_interface}
use Rattle.ir_text_described.specs.Words.{Words}
use Rattle.generic_table.specs.Cut.{Operation}
use Rattle.generic_table.specs.Table.{operations}
use Rattle.generic_dialect.specs.Implemented.{listed_implements}
use Rattle.generic_dialect.specs.Kinds.{listed_kind}
use Rattle.ir_opt_run.specs.GenericBehaviour.{AreGenericWords, generic, generic_behaviour}

-- the table has an operation with this name, and says that it is pure
pub record IsListedPure (name : List ℕ) : Type 0 where
  pub row : ℕ
  pub operation : Operation
  pub listed : slice_get operations row ≡ Some operation
  pub named : operation.0 ≡ name
  pub pure : operation.1.pure_operation ≡ true

-- The kind is a row of the table with this name, and implements what the table says of it.
pub record IsRow (kind : ℕ) (name : List ℕ) : Type 0 where
  pub row : ℕ
  pub operation : Operation
  pub listed : slice_get operations row ≡ Some operation
  pub named : operation.0 ≡ name
  pub implemented : (interface : ℕ) → generic_behaviour.op_impls kind interface ≡ listed_implements operation.1 interface

-- by whatever words of the dialect kinds are written, one that is written by a name of the table is a row of the table with that name
abbrev pub ListedAreRows : Type 0
ListedAreRows = (words : Words generic) → AreGenericWords words → (kind : ℕ) → is_some (listed_kind (words.operation_name kind)) ≡ true → words.operation_name kind ≢ [] → IsRow kind (words.operation_name kind)

-- by whatever words of the dialect kinds are written, a pure kind has the name of an operation that the table says is pure
abbrev pub PureAreListed : Type 0
PureAreListed = (words : Words generic) → AreGenericWords words → (kind : ℕ) → IsTrue (generic_behaviour.op_impls kind pure_interface) → IsListedPure (words.operation_name kind)
