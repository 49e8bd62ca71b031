-- Which refusal a call of a legaliser may answer.
use Rattle.std.specs.Prelude.{⊤}
use Rattle.ir_model.specs.declared.error.CoreError.{CoreError}
use Rattle.ir_model.specs.declared.error.CoreError.TheVariants.{OutOfMemory, CounterSpent, SlotsSpent}

-- memory may be wanting, a spent counter is told only where this holds, and spent slots never
abbrev pub SpentOnlyWhere : Type 0 → CoreError → Type 0
SpentOnlyWhere spent OutOfMemory = ⊤
SpentOnlyWhere spent CounterSpent = spent
SpentOnlyWhere spent SlotsSpent = ⊥
