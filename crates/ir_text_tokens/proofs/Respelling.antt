-- What is spelled so is read: tokens that are all of a text, and the tokens of a spelling.
use Rattle.std.proofs.Common.{◌≡◌, ℕ, ◌+◌, ◌-◌, Bool, true, false, List, [], ◌∷◌, ◌++◌, length, take, drop, None, Result, Ok, refl, sym, ap, ◌∙◌, append_assoc, arith}
use Rattle.std.proofs.lemmas.List.{take_at, drop_at, length-append}
use Rattle.ir_text_tokens.specs.declared.byte_class.Class.{Class}
use Rattle.ir_text_tokens.specs.declared.byte_class.Class.TheVariants as is
use Rattle.ir_text_tokens.specs.declared.token.Bracket.{Bracket}
use Rattle.ir_text_tokens.specs.declared.token.Kind.{Kind}
use Rattle.ir_text_tokens.specs.declared.token.Token.{Token}
use Rattle.ir_text_tokens.specs.declared.fault.Fault.{Fault}
use Rattle.ir_text_tokens.specs.declared.reader_step.Mode.{Mode}
use Rattle.ir_text_tokens.specs.declared.reader_step.Mode.TheVariants as mode
use Rattle.ir_text_tokens.specs.declared.reader_step.Nesting.TheVariants as nesting
use Rattle.ir_text_tokens.specs.ByteClasses.{class_of_byte, class_ahead, blank}
use Rattle.ir_text_tokens.specs.ReaderSteps.{go, reader_step, start_behind, glued_behind, missing_at_end}
use Rattle.ir_text_tokens.specs.Readings.{innermost, renested, with_front, token, reading}
use Rattle.ir_text_tokens.specs.Coverings.{IsInside, IsOutside, ahead, Completes, Skips, is_empty, both, Parts, StandsAt, Covers, Lexeme, lexeme, lexemes, space, spelling, HaveSpelling, placed}
use Rattle.ir_text_tokens.specs.Endings.{ahead_append}
use Rattle.ir_text_tokens.proofs.ReadingSteps.{reading_goes, reading_emits, reading_ends}

pub inside_start : (m : Mode) (start at : ℕ) → IsInside m → start_behind m start at ≡ start
inside_start mode.Between start at h = absurd h
inside_start mode.Comment start at h = absurd h
inside_start _ start at h = refl

pub inside_glued : (m : Mode) (g : Bool) → IsInside m → glued_behind m g ≡ g
inside_glued mode.Between g h = absurd h
inside_glued mode.Comment g h = absurd h
inside_glued _ g h = refl

-- a token is read from its first byte to its last
pub token_read : (bytes after : List ℕ) (m : Mode) (s : List Bracket) (k : Kind) (at start : ℕ) (g : Bool) → Completes m s k bytes (class_ahead after)
    → reading at start g m s (bytes ++ after) ≡ with_front (token k g start (at + length bytes) ∷ []) (reading (at + length bytes) (at + length bytes) true mode.Between [] after)
unfolding Completes
token_read [] after m s k at start g h = absurd h
token_read (b ∷ []) after m s k at start g h = reading_emits at start g m s b after k h
token_read (b ∷ c ∷ bytes) after m s k at start g h =
    let place : at + length (b ∷ c ∷ bytes) ≡ (at + 1) + length (c ∷ bytes) = omega arith in
    let first : reading at start g m s (b ∷ ((c ∷ bytes) ++ after)) ≡ reading (at + 1) (start_behind h.0 start at) (glued_behind h.0 g) h.0 (renested h.1 s) ((c ∷ bytes) ++ after) = reading_goes at start g m s b ((c ∷ bytes) ++ after) h.0 h.1 h.2 in
    first ∙ rw (inside_start h.0 start at h.3, inside_glued h.0 g h.3, place) (token_read (c ∷ bytes) after h.0 (renested h.1 s) k (at + 1) start g h.4)

-- outside all tokens

pub outside_start : (m : Mode) (start at : ℕ) → IsOutside m → start_behind m start at ≡ at + 1
outside_start mode.Between start at h = refl
outside_start mode.Comment start at h = refl
outside_start _ start at h = absurd h

abbrev pub glue : Bool → List ℕ → Bool
glue g [] = g
glue g (b ∷ bytes) = false

pub glue_after : (via : Mode) (gap : List ℕ) (n : Class) (g : Bool) → IsOutside via → Skips via gap n mode.Between → glue (glued_behind via g) gap ≡ false
unfolding Skips
glue_after mode.Between [] n g out h = refl
glue_after mode.Between (b ∷ gap) n g out h = refl
glue_after mode.Comment [] n g out h = absurd cc
glue_after mode.Comment (b ∷ gap) n g out h = refl
glue_after _ gap n g out h = absurd out

-- behind blanks and comments, up to the end of the line of a comment
pub gap_read : (gap after : List ℕ) (m : Mode) (at : ℕ) (g : Bool) → Skips m gap (class_ahead after) mode.Between
    → reading at at g m [] (gap ++ after) ≡ reading (at + length gap) (at + length gap) (glue g gap) mode.Between [] after
unfolding Skips
gap_read [] after m at g h = let zero : at + length {A = ℕ} [] ≡ at = omega arith in rw (h, zero) refl
gap_read (b ∷ gap) after m at g h =
    let place : at + length (b ∷ gap) ≡ (at + 1) + length gap = omega arith in
    let e : reader_step m (innermost []) (class_of_byte b) (class_ahead (gap ++ after)) ≡ go h.0 = ap (λ (n : Class). reader_step m (innermost []) (class_of_byte b) n) (sym (ahead_append gap after)) ∙ h.1 in
    let first : reading at at g m [] (b ∷ (gap ++ after)) ≡ reading (at + 1) (start_behind h.0 at at) (glued_behind h.0 g) h.0 [] (gap ++ after) = reading_goes at at g m [] b (gap ++ after) h.0 nesting.Kept e in
    let second : reading (at + 1) (at + 1) (glued_behind h.0 g) h.0 [] (gap ++ after) ≡ reading ((at + 1) + length gap) ((at + 1) + length gap) (glue (glued_behind h.0 g) gap) mode.Between [] after = gap_read gap after h.0 (at + 1) (glued_behind h.0 g) h.3 in
    first ∙ rw (outside_start h.0 at at h.2, place) (second ∙ ap (λ (x : Bool). reading ((at + 1) + length gap) ((at + 1) + length gap) x mode.Between [] after) (glue_after h.0 gap (class_ahead after) g h.2 h.3))

pub ahead_nil : (bytes : List ℕ) → ahead bytes (class_ahead []) ≡ class_ahead bytes
ahead_nil [] = refl
ahead_nil (b ∷ bytes) = refl

pub outside_ended : (m : Mode) → IsOutside m → missing_at_end m ≡ None
outside_ended mode.Between h = refl
outside_ended mode.Comment h = refl
outside_ended _ h = absurd h

-- blanks and a comment at the end
last_read : (text : List ℕ) (m to : Mode) (at : ℕ) (g : Bool) → IsOutside m → IsOutside to → Skips m text (class_ahead []) to → reading at at g m [] text ≡ Ok []
unfolding Skips
last_read [] m to at g out out' h = reading_ends at at g m [] (outside_ended m out)
last_read (b ∷ text) m to at g out out' h =
    let e : reader_step m (innermost []) (class_of_byte b) (class_ahead text) ≡ go h.0 = ap (λ (n : Class). reader_step m (innermost []) (class_of_byte b) n) (sym (ahead_nil text)) ∙ h.1 in
    let first : reading at at g m [] (b ∷ text) ≡ reading (at + 1) (start_behind h.0 at at) (glued_behind h.0 g) h.0 [] text = reading_goes at at g m [] b text h.0 nesting.Kept e in
    first ∙ rw (outside_start h.0 at at h.2) (last_read text h.0 to (at + 1) (glued_behind h.0 g) h.2 out' h.3)

pub glue_is : (g : Bool) (gap : List ℕ) → glue g gap ≡ both g (is_empty gap)
glue_is true [] = refl
glue_is false [] = refl
glue_is true (b ∷ gap) = refl
glue_is false (b ∷ gap) = refl

abbrev pub front_of : Token → Result (List Token) Fault → Result (List Token) Fault
front_of t r = with_front (t ∷ []) r

one_read : (at : ℕ) (behind : Bool) (text : List ℕ) (p : Parts text) (t : Token) → StandsAt mode.Between at behind text p t → reading at at behind mode.Between [] text ≡ front_of t (reading t.end t.end true mode.Between [] p.after)
one_read at behind text p t h =
    let place = at + length p.gap in
    let g = both behind (is_empty p.gap) in
    let first : reading at at behind mode.Between [] text ≡ reading place place (glue behind p.gap) mode.Between [] (p.piece ++ p.after) = ap (λ (x : List ℕ). reading at at behind mode.Between [] x) p.whole ∙ gap_read p.gap (p.piece ++ p.after) mode.Between at behind h.blank in
    let second : reading place place g mode.Between [] (p.piece ++ p.after) ≡ front_of (token t.kind g place (place + length p.piece)) (reading (place + length p.piece) (place + length p.piece) true mode.Between [] p.after) = token_read p.piece p.after mode.Between [] t.kind place place g h.is_token in
    let end : t.end ≡ place + length p.piece = h.end ∙ ap (λ (x : ℕ). x + length p.piece) h.start in
    let same : token t.kind g place (place + length p.piece) ≡ t = rw (← end, ← h.start, ← h.glued) refl in
    first ∙ ap (λ (x : Bool). reading place place x mode.Between [] (p.piece ++ p.after)) (glue_is behind p.gap) ∙ second ∙ rw (same, ← end) refl

pub covers_read : (ts : List Token) (at : ℕ) (behind : Bool) (text : List ℕ) → Covers at behind text ts → reading at at behind mode.Between [] text ≡ Ok ts
unfolding Covers
covers_read [] at behind text h = last_read text mode.Between h.0 at behind tt h.1 h.2
covers_read (t ∷ ts) at behind text h = one_read at behind text h.0 t h.1 ∙ ap (λ (r : Result (List Token) Fault). front_of t r) (covers_read ts t.end true h.0.after h.2)

-- ---- the spelling

blank_class : class_of_byte 32 ≡ is.Blank
unfolding class_of_byte blank
blank_class = refl

-- a blank, or nothing, before a token
space_skips : (g : Bool) (after : List ℕ) → Skips mode.Between (space g) (class_ahead after) mode.Between
unfolding Skips
space_skips true after = refl
space_skips false after = (mode.Between, rw blank_class refl, tt, refl)

nothing_skips : Skips mode.Between [] (class_ahead []) mode.Between
unfolding Skips
nothing_skips = refl

space_glued : (behind g : Bool) → both behind g ≡ g → g ≡ both behind (is_empty (space g))
space_glued true true h = refl
space_glued true false h = refl
space_glued false true h = absurd cc
space_glued false false h = refl

pub spelling_covers : (xs : List Lexeme) (at : ℕ) (behind : Bool) → HaveSpelling behind xs → Covers at behind (spelling xs) (placed at xs)
unfolding Covers
spelling_covers [] at behind h = (mode.Between, tt, nothing_skips)
spelling_covers (x ∷ xs) at behind h = (
  record { gap = space x.glued; piece = x.text; after = spelling xs; whole = refl },
  record { blank = space_skips x.glued (x.text ++ spelling xs); start = refl; end = refl; glued = space_glued behind x.glued h.0; is_token = h.1 },
  spelling_covers xs ((at + length (space x.glued)) + length x.text) true h.2,
)

-- each token is the piece that its span names
pub lexemes_placed : (xs : List Lexeme) (front : List ℕ) (text : List ℕ) (at : ℕ) → text ≡ front ++ spelling xs → at ≡ length front → lexemes text (placed at xs) ≡ xs
lexemes_placed [] front text at e l = refl
lexemes_placed (x ∷ xs) front text at e l =
    let before = front ++ space x.glued in
    let start = at + length (space x.glued) in
    let cut : text ≡ before ++ (x.text ++ spelling xs) = e ∙ sym (append_assoc front (space x.glued) (x.text ++ spelling xs)) in
    let long : length before ≡ start = omega (arith, length-append front (space x.glued)) in
    let dropped : drop start text ≡ x.text ++ spelling xs = ap (drop start) cut ∙ drop_at before (x.text ++ spelling xs) start long in
    let size : (start + length x.text) - start ≡ length x.text = omega arith in
    let piece : take ((start + length x.text) - start) (drop start text) ≡ x.text = rw (size, dropped) (take_at x.text (spelling xs) (length x.text) refl) in
    let one : lexeme text (record { kind = x.kind; glued = x.glued; start = start; end = start + length x.text }) ≡ x = rw piece refl in
    let rest : lexemes text (placed (start + length x.text) xs) ≡ xs = lexemes_placed xs (before ++ x.text) text (start + length x.text) (cut ∙ sym (append_assoc before x.text (spelling xs))) (omega (arith, length-append before x.text)) in
    rw (one, rest) refl
