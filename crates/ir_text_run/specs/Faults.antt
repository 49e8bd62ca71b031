-- Faults of a run, and their places.
use Rattle.std.specs.Prelude.{◌≡◌, ◌≤◌, ◌<◌, ℕ, ⊤, List, length, Option, None, IfSome, Err}
use Rattle.ir_text_reader.specs.declared.fault.Fault.{Fault as ReaderFault}
use Rattle.ir_text_reader.specs.declared.fault.Fault.TheVariants as reader
use Rattle.ir_text_reader.specs.Faults.{fault_place as reader_place}
use Rattle.ir_text_reader.specs.Texts.{text_read}
use Rattle.ir_text_tree.specs.Trees.{Body, tree_rows}
use Rattle.ir_text_names.specs.declared.fault.Fault.{Fault as NamesFault}
use Rattle.ir_text_names.specs.declared.fault.Fault.TheVariants as names
use Rattle.ir_text_names.specs.Firsts.{fault_place as names_place, IsFirstFault}
use Rattle.ir_text_names.specs.Resolved.{IsWrong}
use Rattle.ir_text_run.specs.declared.fault.Fault.{Fault}
use Rattle.ir_text_run.specs.declared.fault.Fault.TheVariants as faults
use Rattle.ir_text_run.specs.Respellings.{IsTreeOf}

-- a fault of reading
abbrev pub of_reading : ReaderFault → Fault
of_reading reader.OutOfMemory = faults.OutOfMemory
of_reading e = faults.Reading e

-- a fault of names
abbrev pub of_naming : NamesFault → Fault
of_naming names.OutOfMemory = faults.OutOfMemory
of_naming e = faults.Naming e

-- the place of a fault, where it has one
abbrev pub place_of : Fault → Option ℕ
place_of faults.OutOfMemory = None
place_of faults.Unreadable = None
place_of faults.Unwritable = None
place_of (faults.Reading e) = reader_place e
place_of (faults.Naming e) = names_place e

-- the place is in the text, or its end
abbrev pub StandsWithin : List ℕ → Fault → Type 0
StandsWithin text e = IfSome (place_of e) (λ at. at ≤ length text)

-- What reading tells of the text: that it is too long, or the first fault in it.
abbrev pub IsReadingFault : List ℕ → ReaderFault → Type 0
IsReadingFault text reader.OutOfMemory = ⊥
IsReadingFault text reader.TooLong = 4294967295 < length text
IsReadingFault text e = text_read text ≡ Err e

-- The fault is the first that stops the reading of the text, or else the first of its names; or memory ran out, or the output couldn't be written.
abbrev pub IsFaultOf : List ℕ → Fault → Type 0
IsFaultOf text faults.OutOfMemory = ⊤
IsFaultOf text faults.Unreadable = ⊥
IsFaultOf text faults.Unwritable = ⊤
IsFaultOf text (faults.Reading e) = IsReadingFault text e
IsFaultOf text (faults.Naming e) = (b : Body) × IsTreeOf text b × IsFirstFault (IsWrong text (tree_rows b)) (tree_rows b) e
