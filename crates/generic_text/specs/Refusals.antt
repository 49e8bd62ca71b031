-- Why nothing is built.
use Rattle.std.specs.Prelude.{◌≡◌, ℕ, ◌<◌, ⊤, List, length}
use Rattle.ir_model.specs.declared.error.CoreError.TheVariants.{OutOfMemory}
use Rattle.ir_core_queries.specs.State.{ContextState, bare}
use Rattle.ir_checked_core.specs.declared.error.CheckedErr.{CheckedErr}
use Rattle.ir_checked_core.specs.declared.error.CheckedErr.TheVariants as checked
use Rattle.ir_text_tree.specs.declared.row.Row.{Row}
use Rattle.ir_text_names.specs.declared.resolving.Names.{Names}
use Rattle.ir_text_outline.specs.Reading.{IsRead}
use Rattle.generic_text.specs.declared.build_error.BuildError.{BuildError}
use Rattle.generic_text.specs.declared.build_error.BuildError.TheVariants as errors
use Rattle.generic_text.specs.declared.described_error.DescribedErr.{DescribedErr}
use Rattle.generic_text.specs.declared.described_error.DescribedErr.TheVariants as differences
use Rattle.generic_text.specs.declared.taking_back.LiveCount.{LiveCount}
use Rattle.generic_text.specs.Left.{AreWithin, live_count}

-- want of memory
abbrev pub out_of_memory : BuildError
out_of_memory = errors.Core OutOfMemory

-- an unmet condition of a call means that the rows are those of no tree
abbrev pub of_checked : CheckedErr → BuildError
of_checked (checked.Core e) = errors.Core e
of_checked (checked.Unmet u) = errors.NoTree

-- and so does a difference
abbrev pub of_described : DescribedErr → BuildError
of_described differences.OutOfMemory = out_of_memory
of_described (differences.Differs row) = errors.NoTree

-- that the text isn't read so, where the error says that there is no tree; that it is, where the error says that something else was made; and no other error comes but want of memory
abbrev pub IfNoTree : BuildError → Type 0 → Type 0
IfNoTree errors.NoTree Read = Read → ⊥
IfNoTree errors.Different Read = Read
IfNoTree e Read = e ≡ out_of_memory

-- What an error says is so: of too many texts, that so many are saved in the context; of no tree, that the text isn't read as these rows and names; of a difference, that it is; and of what was left behind, that more is live than before.
abbrev pub IsSo : {D A K B S X L : Type 0} → List ℕ → List Row → Names → LiveCount → ContextState D A K B S X L → BuildError → Type 0
IsSo text rows names before now (errors.Core e) = ⊤
IsSo text rows names before now errors.TooManyTexts = 2147450880 < length (bare now).beside.saved
IsSo text rows names before now errors.NoTree = IsRead text rows names → ⊥
IsSo text rows names before now errors.Different = IsRead text rows names
IsSo text rows names before now errors.LeftBehind = AreWithin (live_count now) before → ⊥
