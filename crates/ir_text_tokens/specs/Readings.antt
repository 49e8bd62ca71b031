-- Reading from left to right, a byte at a time.
use Rattle.std.specs.Prelude.{◌≡◌, ℕ, ◌+◌, ◌-◌, ⊤, Bool, true, false, List, [], ◌∷◌, ◌++◌, length, take, drop, slice_get, Option, Some, None, Result, Ok, Err}
use Rattle.ir_text_tokens.specs.declared.token.Bracket.{Bracket}
use Rattle.ir_text_tokens.specs.declared.token.Kind.{Kind}
use Rattle.ir_text_tokens.specs.declared.token.Token.{Token}
use Rattle.ir_text_tokens.specs.declared.fault.Problem.{Problem}
use Rattle.ir_text_tokens.specs.declared.fault.Fault.{Fault}
use Rattle.ir_text_tokens.specs.declared.fault.Fault.TheVariants as faults
use Rattle.ir_text_tokens.specs.declared.reader_step.Mode.{Mode}
use Rattle.ir_text_tokens.specs.declared.reader_step.Mode.TheVariants as mode
use Rattle.ir_text_tokens.specs.declared.reader_step.Nesting.{Nesting}
use Rattle.ir_text_tokens.specs.declared.reader_step.Nesting.TheVariants as nesting
use Rattle.ir_text_tokens.specs.declared.reader_step.Step.TheVariants.{Go, Emit, Bad}
use Rattle.ir_text_tokens.specs.ByteClasses.{class_of_byte, class_ahead}
use Rattle.ir_text_tokens.specs.Faults.{fault}
use Rattle.ir_text_tokens.specs.ReaderSteps.{reader_step, start_behind, glued_behind, missing_at_end}

-- the last of the open brackets
abbrev pub innermost : List Bracket → Option Bracket
innermost open_ones = slice_get open_ones (length open_ones - 1)

-- the brackets that are open afterwards
abbrev pub renested : Nesting → List Bracket → List Bracket
renested nesting.Kept s = s
renested (nesting.Opened b) s = s ++ b ∷ []
renested nesting.Closed s = take (length s - 1) s

-- what was read before, and what is still read
abbrev pub with_front : List Token → Result (List Token) Fault → Result (List Token) Fault
with_front front (Ok ts) = Ok (front ++ ts)
with_front front (Err e) = Err e

-- the token with these parts
abbrev pub token : Kind → Bool → ℕ → ℕ → Token
token k glued start end = record { kind = k; glued = glued; start = start; end = end }

-- at the end of the text, which is this place
abbrev pub read_at_end : ℕ → Option Problem → Result (List Token) Fault
read_at_end at None = Ok []
read_at_end at (Some p) = Err (fault p at)

-- The tokens of a text that goes on at this place, in a token that began at start, in these brackets of a group.
unfoldable pub reading : ℕ → ℕ → Bool → Mode → List Bracket → List ℕ → Result (List Token) Fault
reading at start glued m s [] = read_at_end at (missing_at_end m)
reading at start glued m s (b ∷ rest) = elim (reader_step m (innermost s) (class_of_byte b) (class_ahead rest)) [
  | Go to how ↦ reading (at + 1) (start_behind to start at) (glued_behind to glued) to (renested how s) rest
  | Emit k ↦ with_front (token k glued start (at + 1) ∷ []) (reading (at + 1) (at + 1) true mode.Between [] rest)
  | Bad p ↦ Err (fault p at)
]

-- the tokens of a text, or the first fault in it
abbrev pub read_of : List ℕ → Result (List Token) Fault
read_of text = reading 0 0 false mode.Between [] text

-- What a function returned, seen by view, is what reading gives, unless memory ran out.
abbrev pub IsReading : {X Y : Type 0} → (X → Y) → Result X Fault → Result Y Fault → Type 0
IsReading view (Ok x) read = read ≡ Ok (view x)
IsReading view (Err faults.OutOfMemory) read = ⊤
IsReading view (Err e) read = read ≡ Err e

-- the tokens of a text up to its first fault, and that fault, if there is one
pub record Scan : Type 0 where
  pub tokens : List Token
  pub fault : Option Fault

-- no tokens
abbrev pub nothing_before : Option Fault → Scan
nothing_before o = record { tokens = []; fault = o }

-- a token, and what follows it
abbrev pub before : Token → Scan → Scan
before t s = record { tokens = t ∷ s.tokens; fault = s.fault }

-- at the end of the text, which is this place
abbrev pub fault_at_end : ℕ → Option Problem → Option Fault
fault_at_end at None = None
fault_at_end at (Some p) = Some (fault p at)

-- The same as reading, with the tokens in front of a fault.
unfoldable pub scanning : ℕ → ℕ → Bool → Mode → List Bracket → List ℕ → Scan
scanning at start glued m s [] = nothing_before (fault_at_end at (missing_at_end m))
scanning at start glued m s (b ∷ rest) = elim (reader_step m (innermost s) (class_of_byte b) (class_ahead rest)) [
  | Go to how ↦ scanning (at + 1) (start_behind to start at) (glued_behind to glued) to (renested how s) rest
  | Emit k ↦ before (token k glued start (at + 1)) (scanning (at + 1) (at + 1) true mode.Between [] rest)
  | Bad p ↦ nothing_before (Some (fault p at))
]

-- what is scanned of a text from a place on at which no token goes on, and one ends or not
abbrev pub scan_from : ℕ → Bool → List ℕ → Scan
scan_from at behind text = scanning at at behind mode.Between [] (drop at text)

-- all that is scanned of a text
abbrev pub scan_of : List ℕ → Scan
scan_of text = scanning 0 0 false mode.Between [] text

-- all tokens, or the fault
abbrev pub all_or_fault : List Token → Option Fault → Result (List Token) Fault
all_or_fault ts None = Ok ts
all_or_fault ts (Some f) = Err f

-- What the next token is of a text that goes on at this place, unless memory ran out.
abbrev pub IsNext : ℕ → Bool → List ℕ → Result (Option Token) Fault → Type 0
IsNext at behind text (Ok (Some t)) = scan_from at behind text ≡ before t (scan_from t.end true text)
IsNext at behind text (Ok None) = scan_from at behind text ≡ nothing_before None
IsNext at behind text (Err faults.OutOfMemory) = ⊤
IsNext at behind text (Err e) = scan_from at behind text ≡ nothing_before (Some e)
