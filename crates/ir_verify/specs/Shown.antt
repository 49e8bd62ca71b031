-- What a check is shown of a context: the forest, and the stores.
use Rattle.std.specs.Prelude.{List}
use Rattle.ir_model.specs.ContextIds.{context_ids}
use Rattle.ir_model.specs.Edits.{StoredType}
use Rattle.ir_model.specs.Forest.{Dialect, Forest}
use Rattle.ir_model.specs.Faults.{Checks}
use Rattle.ir_model.specs.Kinds.{Kinds}
use Rattle.ir_model.specs.Sessions.{Beside}
use Rattle.ir_model.specs.Verifiers.{Verifiers, checks_of}
use Rattle.ir_core_records.specs.Meaning.{closed}
use Rattle.ir_view_parts.specs.State.{ContextState, beside_of, forest_of, types_of}

-- the forest, the stored types, and saved and auxiliary data
pub record Shown (W : Dialect) : Type 0 where
  pub forest : Forest context_ids W
  pub store : List (StoredType W)
  pub beside : Beside W

-- what the context shows
abbrev pub shown : {D A K B S X L : Type 0} → ContextState D A K B S X L → Shown (closed A K B S X L)
shown s = record { forest = forest_of s; store = types_of s; beside = beside_of s }

-- the checks that are handed in, as they are in the context
abbrev pub checks_in : {D A K B S X L : Type 0} → Kinds (closed A K B S X L) → Verifiers (closed A K B S X L) (Shown (closed A K B S X L)) → ContextState D A K B S X L → Checks (closed A K B S X L)
checks_in kinds verifiers s = checks_of kinds verifiers (shown s)
