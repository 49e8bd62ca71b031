-- How a run over the parts of an input goes: what it writes, and what it tells.
use Rattle.std.specs.Prelude.{◌≡◌, ◌⊎◌, ◌+◌, ◌&&◌, ℕ, Bool, true, List, length, Option, codes}
use Rattle.std.specs.Io.KnownBytes.{Keeps, Appends}
use Rattle.ir_text_spelling.specs.Writings.{AppendsFront}
use Rattle.ir_text_run.specs.declared.ending.Ending.{Ending}
use Rattle.ir_text_run.specs.Endings.{both, well}
use Rattle.ir_text_run.specs.Parts.{IsOnePart, IsDivided, lines_of}
use Rattle.ir_text_run.specs.Respellings.{Respells, RespellsFront}
use Rattle.ir_text_run.specs.Telling.{TellsFaultOf}

-- What the output holds, and what the writer for faults holds, as far as they are known.
pub record Held : Type 0 where
  pub written : Option (List ℕ)
  pub told : Option (List ℕ)

abbrev pub held : Option (List ℕ) → Option (List ℕ) → Held
held written told = record { written = written; told = told }

-- The part is right: the text of its tree was written, and nothing was told.
abbrev pub IsSpelled : List ℕ → Held → Held → Type 0
IsSpelled part old new = Respells part old.written new.written × Keeps old.told new.told

-- The part, before which so many lines of the input of this name stand, has a fault, or memory was wanting for it: nothing was written, and this was told.
abbrev pub IsRefused : List ℕ → List ℕ → ℕ → Bool → Held → Held → Type 0
IsRefused name part lines is_told old new = Keeps old.written new.written × TellsFaultOf name part lines is_told old.told new.told

-- What came of the part: under status 0 it was spelled, and under status 1 refused.
abbrev pub IsDone : List ℕ → List ℕ → ℕ → Ending → Held → Held → Type 0
IsDone name part lines e old new = ((e.status ≡ 0) × (e.is_told ≡ true) × IsSpelled part old new) ⊎ ((e.status ≡ 1) × IsRefused name part lines e.is_told old new)

-- This came of the part, and then the line between two parts was written.
abbrev pub IsPassed : List ℕ → List ℕ → ℕ → Ending → Held → Held → Type 0
IsPassed name part lines e old new = (done : Held) × IsDone name part lines e old done × Appends done.written new.written (codes "// -----\n") × Keeps done.told new.told

-- The parts in front of this rest of the input were done, each with the line behind it; so many lines stand there, and this came of the parts.
pub data ComesTo (name text : List ℕ) (start : Held) : List ℕ → ℕ → Ending → Held → Type 0 where
  nothing : ComesTo name text start text 0 well start
  part : {rest p behind : List ℕ} {lines : ℕ} {before here : Ending} {reached now : Held} → ComesTo name text start rest lines before reached → IsDivided rest p behind → IsPassed name p lines here reached now
      → ComesTo name text start behind (lines + length (lines_of p) + 1) (both before here) now

-- All parts of the input were done, and this came of them.
pub record Ends (name text : List ℕ) (e : Ending) (start end : Held) : Type 0 where
  pub last : List ℕ
  pub lines : ℕ
  pub before : Ending
  pub here : Ending
  pub reached : Held
  pub comes : ComesTo name text start last lines before reached
  pub is_last : IsOnePart last
  pub done : IsDone name last lines here reached end
  pub is : e ≡ both before here

-- This is the first part of the text.
abbrev pub IsFirstPart : List ℕ → List ℕ → Type 0
IsFirstPart text p = ((p ≡ text) × IsOnePart text) ⊎ ((behind : List ℕ) × IsDivided text p behind)

-- The output failed in the text of the first part of this rest of the input: the part is right, and a front part of that text was written.
abbrev pub FailsInText : List ℕ → Bool → Held → Held → Type 0
FailsInText rest is_told old new = (part : List ℕ) × IsFirstPart rest part × RespellsFront part old.written new.written × Keeps old.told new.told × (is_told ≡ true)

-- It failed in the line behind that part: the part was done, and a front part of the line was written.
abbrev pub FailsInLine : List ℕ → List ℕ → ℕ → Bool → Held → Held → Type 0
FailsInLine name rest lines is_told old new =
    (part : List ℕ) × (behind : List ℕ) × (e : Ending) × (done : Held) × IsDivided rest part behind × IsDone name part lines e old done × AppendsFront done.written new.written (codes "// -----\n") × Keeps done.told new.told × (is_told ≡ e.is_told)

-- It failed behind the last part: all parts were done, but the output couldn't be sent on.
abbrev pub FailsAtEnd : List ℕ → List ℕ → ℕ → Bool → Held → Held → Type 0
FailsAtEnd name rest lines is_told old new = (e : Ending) × IsOnePart rest × IsDone name rest lines e old new × (is_told ≡ e.is_told)

-- The parts in front of some rest of the input were done, and there the output failed. Whether each fault was told whole is said too.
pub record Stops (name text : List ℕ) (is_told : Bool) (start end : Held) : Type 0 where
  pub rest : List ℕ
  pub lines : ℕ
  pub before : Ending
  pub here : Bool
  pub reached : Held
  pub comes : ComesTo name text start rest lines before reached
  pub fails : FailsInText rest here reached end ⊎ (FailsInLine name rest lines here reached end ⊎ FailsAtEnd name rest lines here reached end)
  pub is : is_told ≡ before.is_told && here
