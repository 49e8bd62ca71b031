-- What is told of faults.
use Rattle.std.specs.Prelude.{◌≡◌, ◌⊎◌, ◌≤◌, ◌+◌, ◌++◌, ℕ, Bool, true, false, List, [], length, take, Option, None, Some, Err, codes, decimal}
use Rattle.std.specs.Io.KnownBytes.{Appends}
use Rattle.ir_text_tokens.specs.Places.{place_after}
use Rattle.ir_text_spelling.specs.Writings.{AppendsFront}
use Rattle.ir_text_run.specs.declared.fault.Fault.{Fault}
use Rattle.ir_text_run.specs.declared.fault.Fault.TheVariants as faults
use Rattle.ir_text_run.specs.Endings.{status_of}
use Rattle.ir_text_run.specs.Faults.{IsFaultOf, place_of}

-- These words say what the fault is. A fault of the text has words of its own, of which no clause knows more than that they are no more than 128 bytes.
abbrev pub AreWordsOf : Fault → List ℕ → Type 0
AreWordsOf faults.OutOfMemory words = words ≡ codes "out of memory"
AreWordsOf faults.Unreadable words = words ≡ codes "unreadable input"
AreWordsOf faults.Unwritable words = words ≡ codes "unwritable output"
AreWordsOf (faults.Reading e) words = length words ≤ 128
AreWordsOf (faults.Naming e) words = length words ≤ 128

-- `:LINE:COLUMN`
abbrev pub line_column : ℕ → ℕ → List ℕ
line_column line column = codes ":" ++ (decimal line ++ (codes ":" ++ decimal column))

-- Where a byte of a text stands in the input, as `:LINE:COLUMN`, if so many lines of the input stand before the text; nothing where no byte is meant.
abbrev pub place_told : List ℕ → ℕ → Option ℕ → List ℕ
place_told text lines None = []
place_told text lines (Some at) = line_column (lines + (place_after 1 1 (take at text)).0) (place_after 1 1 (take at text)).1

-- The line tells a fault of a text, before which so many lines of the input of this name stand: `NAME:LINE:COLUMN: error: WORDS`, or `NAME: error: WORDS` where the fault has no place.
pub record IsLineOf (name text : List ℕ) (lines : ℕ) (e : Fault) (line : List ℕ) : Type 0 where
  pub words : List ℕ
  pub are_words : AreWordsOf e words
  pub is : line ≡ name ++ (place_told text lines (place_of e) ++ (codes ": error: " ++ (words ++ codes "\n")))

-- The known bytes grew by the line; by a front part of it if it wasn't told whole.
abbrev pub GrewBy : Bool → Option (List ℕ) → Option (List ℕ) → List ℕ → Type 0
GrewBy true old new line = Appends old new line
GrewBy false old new line = AppendsFront old new line

-- A line that tells the fault was told; whole, if that is said.
abbrev pub Tells : List ℕ → List ℕ → ℕ → Fault → Bool → Option (List ℕ) → Option (List ℕ) → Type 0
Tells name text lines e is_told old new = (line : List ℕ) × IsLineOf name text lines e line × GrewBy is_told old new line

-- The text has a fault, or memory was wanting for it, and this was told.
abbrev pub TellsFaultOf : List ℕ → List ℕ → ℕ → Bool → Option (List ℕ) → Option (List ℕ) → Type 0
TellsFaultOf name text lines is_told old new = (e : Fault) × (status_of (Err e) ≡ 1) × IsFaultOf text e × Tells name text lines e is_told old new

-- It was told that memory was wanting for the input, or that it can't be read.
abbrev pub TellsUnread : List ℕ → Bool → Option (List ℕ) → Option (List ℕ) → Type 0
TellsUnread name is_told old new = (e : Fault) × ((e ≡ faults.OutOfMemory) ⊎ (e ≡ faults.Unreadable)) × Tells name [] 0 e is_told old new
