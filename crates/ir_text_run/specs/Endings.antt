-- How a run ends.
use Rattle.std.specs.Prelude.{ℕ, max, Bool, true, ◌&&◌, Result, Ok, Err}
use Rattle.ir_text_run.specs.declared.ending.Ending.{Ending}
use Rattle.ir_text_run.specs.declared.fault.Fault.{Fault}
use Rattle.ir_text_run.specs.declared.fault.Fault.TheVariants as faults

-- the status of the program
abbrev pub status_of : Result (Unit {0}) Fault → ℕ
status_of (Ok _) = 0
status_of (Err faults.Unwritable) = 3
status_of (Err _) = 1

-- all is well
abbrev pub well : Ending
well = record { status = 0; is_told = true }

-- the output can't be written
abbrev pub unwritable : Bool → Ending
unwritable is_told = record { status = 3; is_told = is_told }

-- What comes of two: the greater status, and all is told if both told all.
abbrev pub both : Ending → Ending → Ending
both a b = record { status = max a.status b.status; is_told = a.is_told && b.is_told }
