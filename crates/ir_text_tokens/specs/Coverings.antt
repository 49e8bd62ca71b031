-- Which texts are tokens, apart from reading and spelling.
use Rattle.std.specs.Prelude.{◌≡◌, ℕ, ◌+◌, ◌-◌, ◌<◌, ◌≤◌, ⊤, Bool, true, false, List, [], ◌∷◌, ◌++◌, length, map, take, drop, if◌then◌else◌, Result, Ok, Err}
use Rattle.std.specs.Global.{Vec}
use Rattle.ir_text_tokens.specs.declared.fault.Fault.{Fault}
use Rattle.ir_text_tokens.specs.declared.fault.Fault.TheVariants as faults
use Rattle.ir_text_tokens.specs.declared.byte_class.Class.{Class}
use Rattle.ir_text_tokens.specs.declared.token.Bracket.{Bracket}
use Rattle.ir_text_tokens.specs.declared.token.Kind.{Kind}
use Rattle.ir_text_tokens.specs.declared.token.Token.{Token}
use Rattle.ir_text_tokens.specs.declared.reader_step.Mode.{Mode}
use Rattle.ir_text_tokens.specs.declared.reader_step.Mode.TheVariants as mode
use Rattle.ir_text_tokens.specs.declared.reader_step.Nesting.{Nesting}
use Rattle.ir_text_tokens.specs.declared.reader_step.Step.TheVariants.{Go, Emit}
use Rattle.ir_text_tokens.specs.ByteClasses.{class_of_byte, class_ahead}
use Rattle.ir_text_tokens.specs.ReaderSteps.{go, reader_step}
use Rattle.ir_text_tokens.specs.Readings.{innermost, renested}

-- the mode is one in a token
abbrev pub IsInside : Mode → Type 0
IsInside mode.Between = ⊥
IsInside mode.Comment = ⊥
IsInside _ = ⊤

-- the mode is one outside all tokens
abbrev pub IsOutside : Mode → Type 0
IsOutside mode.Between = ⊤
IsOutside mode.Comment = ⊤
IsOutside _ = ⊥

-- the class of the first of these bytes, or of what follows them
abbrev pub ahead : List ℕ → Class → Class
ahead [] n = n
ahead (b ∷ bytes) n = class_of_byte b

-- From this mode on, in these brackets, the bytes are the rest of a token of this kind, where a byte of that class follows.
unfoldable pub Completes : Mode → List Bracket → Kind → List ℕ → Class → Type 0
Completes m s k [] n = ⊥
Completes m s k (b ∷ []) n = reader_step m (innermost s) (class_of_byte b) n ≡ Emit k
Completes m s k (b ∷ c ∷ bytes) n = (to : Mode) × (how : Nesting) × (reader_step m (innermost s) (class_of_byte b) (class_of_byte c) ≡ Go to how) × IsInside to × Completes to (renested how s) k (c ∷ bytes) n

-- The bytes are a token of this kind, where a byte of that class follows.
abbrev pub IsToken : Kind → List ℕ → Class → Type 0
IsToken k bytes n = Completes mode.Between [] k bytes n

-- From this mode on the bytes are blanks and comments, up to that mode.
unfoldable pub Skips : Mode → List ℕ → Class → Mode → Type 0
Skips m [] n to = m ≡ to
Skips m (b ∷ bytes) n to = (via : Mode) × (reader_step m (innermost []) (class_of_byte b) (ahead bytes n) ≡ go via) × IsOutside via × Skips via bytes n to

-- no bytes
abbrev pub is_empty : List ℕ → Bool
is_empty [] = true
is_empty (b ∷ bytes) = false

-- both hold
abbrev pub both : Bool → Bool → Bool
both true b = b
both false b = false

-- a text as a gap, a token, and what follows
pub record Parts (text : List ℕ) : Type 0 where
  pub gap : List ℕ
  pub piece : List ℕ
  pub after : List ℕ
  pub whole : text ≡ gap ++ (piece ++ after)

-- From this mode on the token stands in these parts of a text that begins at this place, behind a token or not.
pub record StandsAt (m : Mode) (at : ℕ) (behind : Bool) (text : List ℕ) (p : Parts text) (t : Token) : Type 0 where
  pub blank : Skips m p.gap (class_ahead (p.piece ++ p.after)) mode.Between
  pub start : t.start ≡ at + length p.gap
  pub end : t.end ≡ t.start + length p.piece
  pub glued : t.glued ≡ both behind (is_empty p.gap)
  pub is_token : IsToken t.kind p.piece (class_ahead p.after)

-- The tokens, with blanks and comments between them, are all of the text, which begins at this place.
unfoldable pub Covers : ℕ → Bool → List ℕ → List Token → Type 0
Covers at behind text [] = (to : Mode) × IsOutside to × Skips mode.Between text (class_ahead []) to
Covers at behind text (t ∷ ts) = (p : Parts text) × StandsAt mode.Between at behind text p t × Covers t.end true p.after ts

-- a token without its place
pub record Lexeme : Type 0 where
  pub kind : Kind
  pub glued : Bool
  pub text : List ℕ

-- the piece of the text that the token's span names
abbrev pub lexeme : List ℕ → Token → Lexeme
lexeme text t = record { kind = t.kind; glued = t.glued; text = take (t.end - t.start) (drop t.start text) }

-- the tokens with the pieces that their spans name
abbrev pub lexemes : List ℕ → List Token → List Lexeme
lexemes text ts = map (lexeme text) ts

-- a blank before each token that isn't glued to the one before it
abbrev pub space : Bool → List ℕ
space glued = if glued then [] else 32 ∷ []

-- a token behind its blank, if it has one
abbrev pub one_spelling : Lexeme → List ℕ
one_spelling x = space x.glued ++ x.text

-- the tokens one after another, each behind its blank, if it has one
abbrev pub spelling : List Lexeme → List ℕ
spelling [] = []
spelling (x ∷ xs) = space x.glued ++ (x.text ++ spelling xs)

-- What has a spelling: each is a token where the next follows, and only one behind another is glued.
abbrev pub HaveSpelling : Bool → List Lexeme → Type 0
HaveSpelling behind [] = ⊤
HaveSpelling behind (x ∷ xs) = (both behind x.glued ≡ x.glued) × IsToken x.kind x.text (class_ahead (spelling xs)) × HaveSpelling true xs

-- the tokens of that spelling, which begins at this place
abbrev pub placed : ℕ → List Lexeme → List Token
placed at [] = []
placed at (x ∷ xs) =
    let start = at + length (space x.glued) in
    record { kind = x.kind; glued = x.glued; start = start; end = start + length x.text } ∷ placed (start + length x.text) xs

-- the span of a token goes forward, within the text
pub record IsWithin (text : List ℕ) (t : Token) : Type 0 where
  pub forward : t.start < t.end
  pub within : t.end ≤ length text

-- The spans of the tokens go forward from that place on up to this end: each has a byte at least, and begins where the one before it ends, or behind that.
unfoldable pub GoForward : ℕ → ℕ → List Token → Type 0
GoForward end at [] = at ≤ end
GoForward end at (t ∷ ts) = (at ≤ t.start) × (t.start < t.end) × GoForward end t.end ts

-- What reading returned is these tokens again, unless memory ran out.
abbrev pub GivesAgain : List ℕ → Result (Vec Token) Fault → List Lexeme → Type 0
GivesAgain text (Ok v) xs = lexemes text v.items ≡ xs
GivesAgain text (Err faults.OutOfMemory) xs = ⊤
GivesAgain text (Err _) xs = ⊥
