-- One step of the reader's loop.
use Rattle.std.proofs.Common.{◌≡◌, ℕ, ◌+◌, Bool, true, List, [], ◌∷◌, ◌++◌, Option, None, Result, Ok, Err, refl, sym, ap, ◌∙◌, append_assoc}
use Rattle.ir_text_tokens.specs.declared.token.Bracket.{Bracket}
use Rattle.ir_text_tokens.specs.declared.token.Kind.{Kind}
use Rattle.ir_text_tokens.specs.declared.token.Token.{Token}
use Rattle.ir_text_tokens.specs.declared.fault.Fault.{Fault}
use Rattle.ir_text_tokens.specs.declared.fault.Problem.{Problem}
use Rattle.ir_text_tokens.specs.declared.reader_step.Mode.{Mode}
use Rattle.ir_text_tokens.specs.declared.reader_step.Mode.TheVariants as mode
use Rattle.ir_text_tokens.specs.declared.reader_step.Nesting.{Nesting}
use Rattle.ir_text_tokens.specs.declared.byte_class.Class.{Class}
use Rattle.ir_text_tokens.specs.declared.reader_step.Step.{Step}
use Rattle.ir_text_tokens.specs.declared.reader_step.Step.TheVariants.{Go, Emit, Bad}
use Rattle.ir_text_tokens.specs.ByteClasses.{class_of_byte, class_ahead}
use Rattle.ir_text_tokens.specs.Faults.{fault}
use Rattle.ir_text_tokens.specs.ReaderSteps.{reader_step, start_behind, glued_behind, missing_at_end}
use Rattle.ir_text_tokens.specs.Readings.{innermost, renested, with_front, token, reading}

pub regroup : (front : List Token) (t : Token) (read : Result (List Token) Fault) → with_front front (with_front (t ∷ []) read) ≡ with_front (front ++ t ∷ []) read
regroup front t (Ok ts) = ap (λ (x : List Token). Ok x) (sym (append_assoc front (t ∷ []) ts))
regroup front t (Err e) = refl

-- ---- what reading is, by what the first byte does

pub reading_goes : (at start : ℕ) (glued : Bool) (m : Mode) (s : List Bracket) (b : ℕ) (rest : List ℕ) (to : Mode) (how : Nesting) → reader_step m (innermost s) (class_of_byte b) (class_ahead rest) ≡ Go to how
    → reading at start glued m s (b ∷ rest) ≡ reading (at + 1) (start_behind to start at) (glued_behind to glued) to (renested how s) rest
unfolding reading
reading_goes at start glued m s b rest to how e = rw (reading, e) refl

pub reading_emits : (at start : ℕ) (glued : Bool) (m : Mode) (s : List Bracket) (b : ℕ) (rest : List ℕ) (k : Kind) → reader_step m (innermost s) (class_of_byte b) (class_ahead rest) ≡ Emit k
    → reading at start glued m s (b ∷ rest) ≡ with_front (token k glued start (at + 1) ∷ []) (reading (at + 1) (at + 1) true mode.Between [] rest)
unfolding reading
reading_emits at start glued m s b rest k e = rw (reading, e) refl

pub reading_stops : (at start : ℕ) (glued : Bool) (m : Mode) (s : List Bracket) (b : ℕ) (rest : List ℕ) (p : Problem) → reader_step m (innermost s) (class_of_byte b) (class_ahead rest) ≡ Bad p
    → reading at start glued m s (b ∷ rest) ≡ Err (fault p at)
unfolding reading
reading_stops at start glued m s b rest p e = rw (reading, e) refl

pub reading_ends : (at start : ℕ) (glued : Bool) (m : Mode) (s : List Bracket) → missing_at_end m ≡ None → reading at start glued m s [] ≡ Ok []
unfolding reading
reading_ends at start glued m s e = rw (reading, e) refl

pub step_is : (m : Mode) (last : Option Bracket) (s : List Bracket) (b : ℕ) (c n : Class) (rest : List ℕ) (r to : Step) → r ≡ reader_step m last c n → last ≡ innermost s → c ≡ class_of_byte b → n ≡ class_ahead rest → r ≡ to
    → reader_step m (innermost s) (class_of_byte b) (class_ahead rest) ≡ to
step_is m last s b c n rest r to e l f g h = rw (← l, ← f, ← g) (sym e ∙ h)
