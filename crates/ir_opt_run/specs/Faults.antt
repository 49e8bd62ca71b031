-- Faults of a run, by the errors that they come from.
use Rattle.ir_model.specs.declared.error.CoreError.{CoreError}
use Rattle.ir_model.specs.declared.error.CoreError.TheVariants as core
use Rattle.ir_text_reader.specs.declared.fault.Fault.{Fault as ReaderFault}
use Rattle.ir_text_reader.specs.declared.fault.Fault.TheVariants as reader
use Rattle.ir_text_names.specs.declared.fault.Fault.{Fault as NamesFault}
use Rattle.ir_text_names.specs.declared.fault.Fault.TheVariants as names
use Rattle.ir_text_pieces.specs.declared.error.DescribeErr.{DescribeErr}
use Rattle.ir_text_pieces.specs.declared.error.DescribeErr.TheVariants as describing
use Rattle.generic_text.specs.declared.build_error.BuildError.{BuildError}
use Rattle.generic_text.specs.declared.build_error.BuildError.TheVariants as building
use Rattle.generic_text.specs.declared.described_error.DescribedErr.{DescribedErr}
use Rattle.generic_text.specs.declared.described_error.DescribedErr.TheVariants as differences
use Rattle.ir_opt_run.specs.declared.fault.Fault.{Fault}
use Rattle.ir_opt_run.specs.declared.fault.Fault.TheVariants as faults

-- what stopped the reader
abbrev pub of_reading : ReaderFault → Fault
of_reading reader.OutOfMemory = faults.OutOfMemory
of_reading e = faults.Reading e

-- a name that is wrong
abbrev pub of_naming : NamesFault → Fault
of_naming names.OutOfMemory = faults.OutOfMemory
of_naming e = faults.Naming e

-- want of memory, of numbers or of slots
abbrev pub of_core : CoreError → Fault
of_core core.OutOfMemory = faults.OutOfMemory
of_core e = faults.Building (building.Core e)

-- why nothing was built; what can only be a fault of the program is told as such
abbrev pub of_building : BuildError → Fault
of_building (building.Core e) = of_core e
of_building building.TooManyTexts = faults.Building building.TooManyTexts
of_building building.NoTree = faults.Different
of_building building.Different = faults.Different
of_building building.LeftBehind = faults.Different

-- a text that isn't what stands there
abbrev pub of_described : DescribedErr → Fault
of_described differences.OutOfMemory = faults.OutOfMemory
of_described (differences.Differs row) = faults.Different

-- why nothing was described
abbrev pub of_describing : DescribeErr → Fault
of_describing describing.OutOfMemory = faults.OutOfMemory
of_describing describing.TooLong = faults.TooLong
