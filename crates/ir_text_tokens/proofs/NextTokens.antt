-- What is scanned, by what the first byte does, and that it is what is read.
use Rattle.std.proofs.Common.{◌≡◌, ℕ, ◌+◌, ◌<◌, ◌≤◌, Bool, true, false, cond, List, [], ◌∷◌, ◌++◌, length, get_or, drop, Option, Some, None, Result, Ok, Err, IfSome, ◌&&◌, eqb, eq-eqb, ne_eqb, ⊎_elim, refl, sym, ap, subst, ◌∙◌, arith}
use Rattle.std.specs.Global.{Vec}
use Rattle.std.proofs.lemmas.Bool.{cases_lt, false≢true}
use Rattle.std.proofs.lemmas.List.{append-nil, drop_more}
use Rattle.ir_text_tokens.specs.declared.token.Bracket.{Bracket}
use Rattle.ir_text_tokens.specs.declared.token.Kind.{Kind}
use Rattle.ir_text_tokens.specs.declared.token.Token.{Token}
use Rattle.ir_text_tokens.specs.declared.fault.Fault.{Fault}
use Rattle.ir_text_tokens.specs.declared.fault.Fault.TheVariants as faults
use Rattle.ir_text_tokens.specs.declared.fault.Problem.{Problem}
use Rattle.ir_text_tokens.specs.declared.fault.Problem.TheVariants as problems
use Rattle.ir_text_tokens.specs.declared.reader_step.Mode.{Mode}
use Rattle.ir_text_tokens.specs.declared.reader_step.Mode.TheVariants as mode
use Rattle.ir_text_tokens.specs.declared.reader_step.Nesting.{Nesting}
use Rattle.ir_text_tokens.specs.declared.reader_step.Nesting.TheVariants as nesting
use Rattle.ir_text_tokens.specs.declared.byte_class.Class.{Class}
use Rattle.ir_text_tokens.specs.declared.byte_class.Class.TheVariants as is
use Rattle.ir_text_tokens.specs.declared.token.Kind.TheVariants as kinds
use Rattle.ir_text_tokens.specs.declared.reader_step.Step.{Step}
use Rattle.ir_text_tokens.specs.declared.reader_step.Step.TheVariants.{Go, Emit, Bad}
use Rattle.ir_text_tokens.specs.ByteClasses.{class_of_byte, class_ahead}
use Rattle.ir_text_tokens.specs.Faults.{fault}
use Rattle.ir_text_tokens.specs.ReaderSteps.{reader_step, start_at, start_behind, stays, glued_behind, missing_at_end}
use Rattle.ir_text_tokens.specs.Readings.{innermost, renested, with_front, token, reading, read_at_end, Scan, nothing_before, before, fault_at_end, scanning, scan_from, scan_of, all_or_fault, read_of, IsNext, IsReading}
use Rattle.ir_text_tokens.specs.Coverings.{IsWithin}
use Rattle.ir_text_tokens.proofs.ReadingSteps.{regroup, reading_goes, reading_emits, reading_stops}

-- ---- the first byte

scanning_goes : (at start : ℕ) (glued : Bool) (m : Mode) (s : List Bracket) (b : ℕ) (rest : List ℕ) (to : Mode) (how : Nesting) → reader_step m (innermost s) (class_of_byte b) (class_ahead rest) ≡ Go to how
    → scanning at start glued m s (b ∷ rest) ≡ scanning (at + 1) (start_behind to start at) (glued_behind to glued) to (renested how s) rest
unfolding scanning
scanning_goes at start glued m s b rest to how e = rw (scanning, e) refl

scanning_emits : (at start : ℕ) (glued : Bool) (m : Mode) (s : List Bracket) (b : ℕ) (rest : List ℕ) (k : Kind) → reader_step m (innermost s) (class_of_byte b) (class_ahead rest) ≡ Emit k
    → scanning at start glued m s (b ∷ rest) ≡ before (token k glued start (at + 1)) (scanning (at + 1) (at + 1) true mode.Between [] rest)
unfolding scanning
scanning_emits at start glued m s b rest k e = rw (scanning, e) refl

scanning_stops : (at start : ℕ) (glued : Bool) (m : Mode) (s : List Bracket) (b : ℕ) (rest : List ℕ) (p : Problem) → reader_step m (innermost s) (class_of_byte b) (class_ahead rest) ≡ Bad p
    → scanning at start glued m s (b ∷ rest) ≡ nothing_before (Some (fault p at))
unfolding scanning
scanning_stops at start glued m s b rest p e = rw (scanning, e) refl

scanning_ends : (at start : ℕ) (glued : Bool) (m : Mode) (s : List Bracket) (o : Option Problem) → missing_at_end m ≡ o → scanning at start glued m s [] ≡ nothing_before (fault_at_end at o)
unfolding scanning
scanning_ends at start glued m s o e = rw (scanning, e) refl

-- ---- what is scanned is what is read

read_end : (at : ℕ) (o : Option Problem) → read_at_end at o ≡ all_or_fault [] (fault_at_end at o)
read_end at None = refl
read_end at (Some p) = refl

in_front : (t : Token) (ts : List Token) (o : Option Fault) → with_front (t ∷ []) (all_or_fault ts o) ≡ all_or_fault (t ∷ ts) o
in_front t ts None = refl
in_front t ts (Some f) = refl

abbrev read_out : Scan → Result (List Token) Fault
read_out s = all_or_fault s.tokens s.fault

AreSame : List ℕ → Type 0
AreSame bytes = (at start : ℕ) (glued : Bool) (m : Mode) (s : List Bracket) → reading at start glued m s bytes ≡ read_out (scanning at start glued m s bytes)

same_step : (b : ℕ) (rest : List ℕ) (at start : ℕ) (glued : Bool) (m : Mode) (s : List Bracket) (st : Step) → AreSame rest → reader_step m (innermost s) (class_of_byte b) (class_ahead rest) ≡ st
    → reading at start glued m s (b ∷ rest) ≡ read_out (scanning at start glued m s (b ∷ rest))
unfolding AreSame
same_step b rest at start glued m s (Go to how) ih e =
    reading_goes at start glued m s b rest to how e ∙ ih (at + 1) (start_behind to start at) (glued_behind to glued) to (renested how s) ∙ ap read_out (sym (scanning_goes at start glued m s b rest to how e))
same_step b rest at start glued m s (Emit k) ih e =
    let t = token k glued start (at + 1) in
    let later = scanning (at + 1) (at + 1) true mode.Between [] rest in
    reading_emits at start glued m s b rest k e ∙ ap (with_front (t ∷ [])) (ih (at + 1) (at + 1) true mode.Between []) ∙ in_front t later.tokens later.fault ∙ ap read_out (sym (scanning_emits at start glued m s b rest k e))
same_step b rest at start glued m s (Bad p) ih e = reading_stops at start glued m s b rest p e ∙ ap read_out (sym (scanning_stops at start glued m s b rest p e))

same : (bytes : List ℕ) → AreSame bytes
unfolding AreSame reading
same [] at start glued m s = read_end at (missing_at_end m) ∙ ap read_out (sym (scanning_ends at start glued m s (missing_at_end m) refl))
same (b ∷ rest) at start glued m s = same_step b rest at start glued m s (reader_step m (innermost s) (class_of_byte b) (class_ahead rest)) (same rest) refl

pub scan_reads : (text : List ℕ) → read_of text ≡ all_or_fault (scan_of text).tokens (scan_of text).fault
unfolding AreSame
scan_reads text = same text 0 0 false mode.Between []

pub read_here : (at : ℕ) (behind : Bool) (text : List ℕ) → reading at at behind mode.Between [] (drop at text) ≡ read_out (scan_from at behind text)
unfolding AreSame
read_here at behind text = same (drop at text) at at behind mode.Between []

-- ---- the loop over the bytes of a token

pub next_goes : (at start : ℕ) (glued : Bool) (m : Mode) (s : List Bracket) (b : ℕ) (bytes rest : List ℕ) (to : Mode) (how : Nesting) (total : Scan) → bytes ≡ b ∷ rest → reader_step m (innermost s) (class_of_byte b) (class_ahead rest) ≡ Go to how
    → scanning at start glued m s bytes ≡ total → scanning (at + 1) (start_behind to start at) (glued_behind to glued) to (renested how s) rest ≡ total
next_goes at start glued m s b bytes rest to how total cut e h = sym (scanning_goes at start glued m s b rest to how e) ∙ ap (scanning at start glued m s) (sym cut) ∙ h

pub next_emits : (at start : ℕ) (glued : Bool) (m : Mode) (s : List Bracket) (b : ℕ) (bytes rest : List ℕ) (k : Kind) (total : Scan) → bytes ≡ b ∷ rest → reader_step m (innermost s) (class_of_byte b) (class_ahead rest) ≡ Emit k
    → scanning at start glued m s bytes ≡ total → total ≡ before (token k glued start (at + 1)) (scanning (at + 1) (at + 1) true mode.Between [] rest)
next_emits at start glued m s b bytes rest k total cut e h = sym h ∙ ap (scanning at start glued m s) cut ∙ scanning_emits at start glued m s b rest k e

-- a fault that was told is the one that is scanned
problem_next : (p : Problem) (at place : ℕ) (behind : Bool) (text : List ℕ) → scan_from at behind text ≡ nothing_before (Some (fault p place)) → IsNext at behind text (Err (fault p place))
problem_next problems.Character at place behind text e = e
problem_next problems.Escape at place behind text e = e
problem_next problems.OpenString at place behind text e = e
problem_next problems.OpenGroup at place behind text e = e
problem_next problems.Bracket at place behind text e = e

pub next_stops : (from : ℕ) (behind : Bool) (text : List ℕ) (at start : ℕ) (glued : Bool) (m : Mode) (s : List Bracket) (b : ℕ) (bytes rest : List ℕ) (p : Problem) → bytes ≡ b ∷ rest → reader_step m (innermost s) (class_of_byte b) (class_ahead rest) ≡ Bad p
    → scanning at start glued m s bytes ≡ scan_from from behind text → IsNext from behind text (Err (fault p at))
next_stops from behind text at start glued m s b bytes rest p cut e h = problem_next p from at behind text (sym h ∙ ap (scanning at start glued m s) cut ∙ scanning_stops at start glued m s b rest p e)

pub next_ends : (at start : ℕ) (glued : Bool) (m : Mode) (s : List Bracket) (bytes : List ℕ) (total : Scan) → bytes ≡ [] → missing_at_end m ≡ None → scanning at start glued m s bytes ≡ total → total ≡ nothing_before None
next_ends at start glued m s bytes total nothing e h = sym h ∙ ap (scanning at start glued m s) nothing ∙ scanning_ends at start glued m s None e

pub next_breaks_off : (from : ℕ) (behind : Bool) (text : List ℕ) (at start : ℕ) (glued : Bool) (m : Mode) (s : List Bracket) (p : Problem) (bytes : List ℕ) → bytes ≡ [] → missing_at_end m ≡ Some p
    → scanning at start glued m s bytes ≡ scan_from from behind text → IsNext from behind text (Err (fault p at))
next_breaks_off from behind text at start glued m s p bytes nothing e h = problem_next p from at behind text (sym h ∙ ap (scanning at start glued m s) nothing ∙ scanning_ends at start glued m s (Some p) e)

-- ---- bytes behind which the reader goes on as before

stays_goes : (m : Mode) (last : Option Bracket) (c n : Class) → stays m c n ≡ true → reader_step m last c n ≡ Go m nesting.Kept
stays_goes mode.Between last is.Newline n e = refl
stays_goes mode.Between last is.Blank n e = refl
stays_goes mode.Between last _ n e = absurd (false≢true e)
stays_goes mode.Word last c n e = ap (λ (b : Bool). cond b (Go mode.Word nesting.Kept) (Emit kinds.Word)) e
stays_goes (mode.Number s) last c is.Digit e = refl
stays_goes (mode.Number s) last c _ e = absurd (false≢true e)
stays_goes (mode.Name s) last c n e = ap (λ (b : Bool). cond b (Go (mode.Name s) nesting.Kept) (Emit (kinds.Name s))) e
stays_goes (mode.Quoted a) last is.Quote n e = absurd (false≢true e)
stays_goes (mode.Quoted a) last is.Backslash n e = absurd (false≢true e)
stays_goes (mode.Quoted a) last is.Newline n e = absurd (false≢true e)
stays_goes (mode.Quoted a) last _ n e = refl
stays_goes mode.Group last is.Quote n e = absurd (false≢true e)
stays_goes mode.Group last is.Dash n e = absurd (false≢true e)
stays_goes mode.Group last is.Less n e = absurd (false≢true e)
stays_goes mode.Group last is.Greater n e = absurd (false≢true e)
stays_goes mode.Group last (is.Open b) n e = absurd (false≢true e)
stays_goes mode.Group last (is.Close b) n e = absurd (false≢true e)
stays_goes mode.Group last _ n e = refl
stays_goes _ last c n e = absurd (false≢true e)

start_twice : (m : Mode) (start at : ℕ) → start_behind m (start_at m start at) at ≡ start_at m start (at + 1)
start_twice mode.Between start at = refl
start_twice mode.Comment start at = refl
start_twice _ start at = refl

glued_twice : (m : Mode) (glued : Bool) → glued_behind m (glued_behind m glued) ≡ glued_behind m glued
glued_twice mode.Between glued = refl
glued_twice _ glued = refl

pub start_is : (m : Mode) (start at : ℕ) → start_behind m start at ≡ start_at m start (at + 1)
start_is mode.Between start at = refl
start_is mode.Comment start at = refl
start_is _ start at = refl

and_no : (b : Bool) → (b && false) ≡ false
and_no true = refl
and_no false = refl

and_yes : (b : Bool) → (b && true) ≡ b
and_yes true = refl
and_yes false = refl

-- one byte more
passes_on : (text : List ℕ) (m : Mode) (at start : ℕ) (glued : Bool) (s : List Bracket) → at < length text → stays m (class_of_byte (get_or text at 0)) (class_ahead (drop (at + 1) text)) ≡ true
    → scanning at (start_at m start at) glued m s (drop at text) ≡ scanning (at + 1) (start_at m start (at + 1)) (glued_behind m glued) m s (drop (at + 1) text)
passes_on text m at start glued s lt e =
    let b = get_or text at 0 in
    let rest = drop (at + 1) text in
    ap (scanning at (start_at m start at) glued m s) (drop_more text at 0 lt)
    ∙ scanning_goes at (start_at m start at) glued m s b rest m nesting.Kept (stays_goes m (innermost s) (class_of_byte b) (class_ahead rest) e)
    ∙ ap (λ (x : ℕ). scanning (at + 1) x (glued_behind m glued) m s rest) (start_twice m start at)

-- several bytes
abbrev pub Passes : List ℕ → Mode → ℕ → ℕ → Type 0
Passes text m from to = (start : ℕ) (glued : Bool) (s : List Bracket) → from < to → scanning from (start_at m start from) glued m s (drop from text) ≡ scanning to (start_at m start to) (glued_behind m glued) m s (drop to text)

pub passes_more : (text : List ℕ) (m : Mode) (from at : ℕ) → from ≤ at → at < length text → stays m (class_of_byte (get_or text at 0)) (class_ahead (drop (at + 1) text)) ≡ true → Passes text m from at → Passes text m from (at + 1)
passes_more text m from at le lt e h = λ start glued s less.
    ⊎_elim (λ (l : from < at).
    h start glued s l ∙ passes_on text m at start (glued_behind m glued) s lt e ∙ ap (λ (g : Bool). scanning (at + 1) (start_at m start (at + 1)) g m s (drop (at + 1) text)) (glued_twice m glued))
    (λ (l : at ≤ from).
    let same : from ≡ at = omega (arith, l, le) in
    ap (λ (k : ℕ). scanning k (start_at m start k) glued m s (drop k text)) same ∙ passes_on text m at start glued s lt e) (cases_lt from at)

-- where none or several bytes are passed, and the token was glued to the one before it as the mode says
pub passed : (text : List ℕ) (m : Mode) (from to start : ℕ) (glued : Bool) (s : List Bracket) → from ≤ to → Passes text m from to
    → scanning from (start_at m start from) (glued_behind m glued) m s (drop from text) ≡ scanning to (start_at m start to) (glued_behind m glued) m s (drop to text)
passed text m from to start glued s le h =
    ⊎_elim (λ (l : from < to). h start (glued_behind m glued) s l ∙ ap (λ (g : Bool). scanning to (start_at m start to) g m s (drop to text)) (glued_twice m glued))
    (λ (l : to ≤ from). let same : from ≡ to = omega (arith, l, le) in ap (λ (k : ℕ). scanning k (start_at m start k) (glued_behind m glued) m s (drop k text)) same) (cases_lt from to)

-- blanks before a token
pub gap_passed : (text : List ℕ) (at to : ℕ) (behind glued : Bool) → at ≤ to → glued ≡ (behind && eqb to at) → Passes text mode.Between at to → scanning to to glued mode.Between [] (drop to text) ≡ scan_from at behind text
gap_passed text at to behind glued le e h =
    ⊎_elim (λ (l : at < to).
    let apart : to ≡ at → ⊥ = λ s. absurd (omega (arith, s, l)) in
    let off : glued ≡ false = e ∙ ap (λ (b : Bool). behind && b) (ne_eqb to at apart) ∙ and_no behind in
    ap (λ (g : Bool). scanning to to g mode.Between [] (drop to text)) off ∙ sym (h at behind [] l))
    (λ (l : to ≤ at).
    let same : to ≡ at = omega (arith, l, le) in
    let on : glued ≡ behind = e ∙ ap (λ (b : Bool). behind && b) (eq-eqb to at same) ∙ and_yes behind in
    ap (λ (g : Bool). scanning to to g mode.Between [] (drop to text)) on ∙ ap (λ (k : ℕ). scanning k k behind mode.Between [] (drop k text)) same) (cases_lt at to)

-- a token that goes on begins where it began, or at this place
pub begins : (m : Mode) (start from at : ℕ) → start ≤ from → from ≤ at → (start ≤ start_at m start at) × (start_at m start at ≤ at)
begins mode.Between start from at le more = (omega (arith, le, more), omega arith)
begins mode.Comment start from at le more = (omega (arith, le, more), omega arith)
begins _ start from at le more = (omega arith, omega (arith, le, more))

-- what the next token is, by cases
pub is_none : (o : Option Token) → ((t : Token) → o ≡ Some t → ⊥) → o ≡ None
is_none None h = refl
is_none (Some t) h = absurd (h t refl)

pub next_some : (at : ℕ) (behind : Bool) (text : List ℕ) (o : Option Token) (t : Token) → o ≡ Some t → IsNext at behind text (Ok o) → scan_from at behind text ≡ before t (scan_from t.end true text)
next_some at behind text o t e h = subst (λ (x : Option Token). IsNext at behind text (Ok x)) e h

pub next_none : (at : ℕ) (behind : Bool) (text : List ℕ) (o : Option Token) → o ≡ None → IsNext at behind text (Ok o) → scan_from at behind text ≡ nothing_before None
next_none at behind text o e h = subst (λ (x : Option Token). IsNext at behind text (Ok x)) e h

pub within_some : (text : List ℕ) (o : Option Token) (t : Token) → o ≡ Some t → IfSome o (IsWithin text) → IsWithin text t
within_some text o t e h = subst (λ (x : Option Token). IfSome x (IsWithin text)) e h

-- ---- the loop over the tokens of a text: what was read before, and what is still read, are one total

abbrev here : ℕ → Bool → List ℕ → Result (List Token) Fault
here at behind text = reading at at behind mode.Between [] (drop at text)

pub reads_on : (front : List Token) (at : ℕ) (behind : Bool) (text : List ℕ) (t : Token) (total : Result (List Token) Fault) → scan_from at behind text ≡ before t (scan_from t.end true text)
    → with_front front (here at behind text) ≡ total → with_front (front ++ t ∷ []) (here t.end true text) ≡ total
reads_on front at behind text t total e h =
    let later = scan_from t.end true text in
    let one : here at behind text ≡ with_front (t ∷ []) (here t.end true text) =
    read_here at behind text ∙ ap read_out e ∙ sym (in_front t later.tokens later.fault) ∙ ap (with_front (t ∷ [])) (sym (read_here t.end true text)) in
    sym (regroup front t (here t.end true text)) ∙ ap (with_front front) (sym one) ∙ h

pub reads_all : (front : List Token) (at : ℕ) (behind : Bool) (text : List ℕ) (total : Result (List Token) Fault) → scan_from at behind text ≡ nothing_before None
    → with_front front (here at behind text) ≡ total → total ≡ Ok front
reads_all front at behind text total e h = sym h ∙ ap (with_front front) (read_here at behind text ∙ ap read_out e) ∙ ap (λ (ts : List Token). Ok ts) (append-nil front)

fault_reads : (front : List Token) (at : ℕ) (behind : Bool) (text : List ℕ) (f : Fault) (total : Result (List Token) Fault) → scan_from at behind text ≡ nothing_before (Some f)
    → with_front front (here at behind text) ≡ total → total ≡ Err f
fault_reads front at behind text f total e h = sym h ∙ ap (with_front front) (read_here at behind text ∙ ap read_out e)

pub reads_fault : (front : List Token) (at : ℕ) (behind : Bool) (text : List ℕ) (f : Fault) (total : Result (List Token) Fault) → IsNext at behind text (Err f)
    → with_front front (here at behind text) ≡ total → IsReading {X = Vec Token} (λ v. v.items) (Err f) total
reads_fault front at behind text faults.OutOfMemory total e h = tt
reads_fault front at behind text faults.TooLong total e h = fault_reads front at behind text faults.TooLong total e h
reads_fault front at behind text (faults.Character p) total e h = fault_reads front at behind text (faults.Character p) total e h
reads_fault front at behind text (faults.Escape p) total e h = fault_reads front at behind text (faults.Escape p) total e h
reads_fault front at behind text (faults.OpenString p) total e h = fault_reads front at behind text (faults.OpenString p) total e h
reads_fault front at behind text (faults.OpenGroup p) total e h = fault_reads front at behind text (faults.OpenGroup p) total e h
reads_fault front at behind text (faults.Bracket p) total e h = fault_reads front at behind text (faults.Bracket p) total e h
