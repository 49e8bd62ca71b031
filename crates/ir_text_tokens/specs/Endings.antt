-- Which byte ends every token that can end before it, and what the byte ahead of a text is.
use Rattle.std.proofs.Common.{◌≡◌, ℕ, Bool, true, false, cond, List, [], ◌∷◌, ◌++◌, Option, refl, ◌∙◌}
use Rattle.std.specs.Bool.{⊤}
use Rattle.ir_text_tokens.specs.declared.byte_class.Class.{Class}
use Rattle.ir_text_tokens.specs.declared.byte_class.Class.TheVariants as is
use Rattle.ir_text_tokens.specs.declared.token.Sign.{Sign}
use Rattle.ir_text_tokens.specs.declared.token.Bracket.{Bracket}
use Rattle.ir_text_tokens.specs.declared.token.Bracket.TheVariants as brackets
use Rattle.ir_text_tokens.specs.declared.token.Mark.TheVariants as marks
use Rattle.ir_text_tokens.specs.declared.token.Kind.{Kind}
use Rattle.ir_text_tokens.specs.declared.token.Kind.TheVariants as kinds
use Rattle.ir_text_tokens.specs.declared.reader_step.Mode.{Mode}
use Rattle.ir_text_tokens.specs.declared.reader_step.Mode.TheVariants as mode
use Rattle.ir_text_tokens.specs.declared.reader_step.Step.{Step}
use Rattle.ir_text_tokens.specs.declared.reader_step.Step.TheVariants.{Emit}
use Rattle.ir_text_tokens.specs.ByteClasses.{class_of_byte, class_ahead, blank}
use Rattle.ir_text_tokens.specs.ReaderSteps.{go, goes_on_word, goes_on_name, word_step, number_step, name_step, name_begins, lone_sign, sign_step, begin_step, closing_step, group_step, reader_step}
use Rattle.ir_text_tokens.specs.Readings.{innermost, renested}
use Rattle.ir_text_tokens.specs.Coverings.{ahead, Completes}

-- a byte of such a class ends every token that can end before it at all
unfoldable pub Calm : Class → Type 0
Calm is.Digit = ⊥
Calm is.HexLetter = ⊥
Calm is.EscapeLetter = ⊥
Calm is.Letter = ⊥
Calm is.Dash = ⊥
Calm is.Greater = ⊥
Calm is.Equals = ⊥
Calm _ = ⊤

chosen_emits : (b : Bool) (x y : Step) (k : Kind) → (x ≡ Emit k → ⊥) → cond b x y ≡ Emit k → y ≡ Emit k
chosen_emits true x y k f e = absurd (f e)
chosen_emits false x y k f e = e

goes_not : (m : Mode) (k : Kind) → go m ≡ Emit k → ⊥
goes_not m k e = cc

pub word_calm : (n : Class) → Calm n → word_step n ≡ Emit kinds.Word
unfolding Calm
word_calm is.Digit h = absurd h
word_calm is.HexLetter h = absurd h
word_calm is.EscapeLetter h = absurd h
word_calm is.Letter h = absurd h
word_calm _ h = refl

word_ends : (n n' : Class) (k : Kind) → Calm n' → word_step n ≡ Emit k → word_step n' ≡ Emit k
word_ends n n' k h e = word_calm n' h ∙ chosen_emits (goes_on_word n) (go mode.Word) (Emit kinds.Word) k (goes_not mode.Word k) e

number_calm : (s : Sign) (n : Class) → Calm n → number_step s n ≡ Emit (kinds.Name s)
unfolding Calm
number_calm s is.Digit h = absurd h
number_calm s _ h = refl

number_ends : (s : Sign) (n n' : Class) (k : Kind) → Calm n' → number_step s n ≡ Emit k → number_step s n' ≡ Emit k
number_ends s is.Digit n' k h e = absurd (goes_not (mode.Number s) k e)
number_ends s _ n' k h e = number_calm s n' h ∙ e

name_calm : (s : Sign) (n : Class) → Calm n → name_step s n ≡ Emit (kinds.Name s)
unfolding Calm
name_calm s is.Digit h = absurd h
name_calm s is.HexLetter h = absurd h
name_calm s is.EscapeLetter h = absurd h
name_calm s is.Letter h = absurd h
name_calm s is.Dash h = absurd h
name_calm s _ h = refl

name_ends : (s : Sign) (n n' : Class) (k : Kind) → Calm n' → name_step s n ≡ Emit k → name_step s n' ≡ Emit k
name_ends s n n' k h e = name_calm s n' h ∙ chosen_emits (goes_on_name n) (go (mode.Name s)) (Emit (kinds.Name s)) k (goes_not (mode.Name s) k) e

begins_not : (s : Sign) (n : Class) (k : Kind) → name_begins s n ≡ Emit k → ⊥
begins_not s is.Digit k e = goes_not (mode.Number s) k e
begins_not s _ k e = goes_not (mode.Name s) k e

sign_calm : (s : Sign) (n : Class) → Calm n → sign_step s n ≡ lone_sign s
unfolding Calm
sign_calm s is.Digit h = absurd h
sign_calm s is.HexLetter h = absurd h
sign_calm s is.EscapeLetter h = absurd h
sign_calm s is.Letter h = absurd h
sign_calm s is.Dash h = absurd h
sign_calm s _ h = refl

sign_ends : (s : Sign) (n n' : Class) (k : Kind) → Calm n' → sign_step s n ≡ Emit k → sign_step s n' ≡ Emit k
sign_ends s n n' k h e = sign_calm s n' h ∙ chosen_emits (goes_on_name n) (name_begins s n) (lone_sign s) k (begins_not s n k) e

dash_calm : (n : Class) → Calm n → begin_step is.Dash n ≡ Emit (kinds.Mark marks.Minus)
unfolding Calm
dash_calm is.Greater h = absurd h
dash_calm _ h = refl

dash_ends : (n n' : Class) (k : Kind) → Calm n' → begin_step is.Dash n ≡ Emit k → begin_step is.Dash n' ≡ Emit k
dash_ends is.Greater n' k h e = absurd (goes_not mode.Arrow k e)
dash_ends _ n' k h e = dash_calm n' h ∙ e

slash_not : (n : Class) (k : Kind) → begin_step is.Slash n ≡ Emit k → ⊥
slash_not is.Slash k e = cc
slash_not _ k e = cc

begin_ends : (c n n' : Class) (k : Kind) → Calm n' → begin_step c n ≡ Emit k → begin_step c n' ≡ Emit k
begin_ends is.Slash n n' k h e = absurd (slash_not n k e)
begin_ends is.Digit n n' k h e = word_ends n n' k h e
begin_ends is.HexLetter n n' k h e = word_ends n n' k h e
begin_ends is.EscapeLetter n n' k h e = word_ends n n' k h e
begin_ends is.Letter n n' k h e = word_ends n n' k h e
begin_ends (is.Sign s) n n' k h e = sign_ends s n n' k h e
begin_ends is.Dash n n' k h e = dash_ends n n' k h e
begin_ends _ n n' k h e = e

group_dash_not : (last : Option Bracket) (n : Class) (k : Kind) → group_step last is.Dash n ≡ Emit k → ⊥
group_dash_not last is.Greater k e = cc
group_dash_not last _ k e = cc

greater_calm : (last : Option Bracket) (n : Class) → Calm n → group_step last is.Greater n ≡ closing_step brackets.Angle last
unfolding Calm
greater_calm last is.Equals h = absurd h
greater_calm last _ h = refl

greater_ends : (last : Option Bracket) (n n' : Class) (k : Kind) → Calm n' → group_step last is.Greater n ≡ Emit k → group_step last is.Greater n' ≡ Emit k
greater_ends last is.Equals n' k h e = absurd (goes_not mode.Group k e)
greater_ends last _ n' k h e = greater_calm last n' h ∙ e

group_ends : (last : Option Bracket) (c n n' : Class) (k : Kind) → Calm n' → group_step last c n ≡ Emit k → group_step last c n' ≡ Emit k
group_ends last is.Dash n n' k h e = absurd (group_dash_not last n k e)
group_ends last is.Greater n n' k h e = greater_ends last n n' k h e
group_ends last _ n n' k h e = e

step_ends : (m : Mode) (last : Option Bracket) (c n n' : Class) (k : Kind) → Calm n' → reader_step m last c n ≡ Emit k → reader_step m last c n' ≡ Emit k
step_ends mode.Between last c n n' k h e = begin_ends c n n' k h e
step_ends mode.Word last c n n' k h e = word_ends n n' k h e
step_ends (mode.Number s) last c n n' k h e = number_ends s n n' k h e
step_ends (mode.Name s) last c n n' k h e = name_ends s n n' k h e
step_ends mode.Group last c n n' k h e = group_ends last c n n' k h e
step_ends _ last c n n' k h e = e

-- a token, whatever follows it, is one where such a byte follows
pub completes_calm : (piece : List ℕ) (m : Mode) (s : List Bracket) (k : Kind) (n n' : Class) → Calm n' → Completes m s k piece n → Completes m s k piece n'
unfolding Completes
completes_calm [] m s k n n' h l = absurd l
completes_calm (b ∷ []) m s k n n' h l = step_ends m (innermost s) (class_of_byte b) n n' k h l
completes_calm (b ∷ c ∷ piece) m s k n n' h l = (l.0, l.1, l.2, l.3, completes_calm (c ∷ piece) l.0 (renested l.1 s) k n n' h l.4)

pub other_calm : Calm is.Other
unfolding Calm
other_calm = tt

pub blank_calm : (rest : List ℕ) → Calm (class_ahead (32 ∷ rest))
unfolding Calm class_of_byte blank
blank_calm rest = tt

-- ---- the class ahead

pub ahead_append : (bytes after : List ℕ) → ahead bytes (class_ahead after) ≡ class_ahead (bytes ++ after)
ahead_append [] after = refl
ahead_append (b ∷ bytes) after = refl

pub first_same : (piece x y : List ℕ) (m : Mode) (s : List Bracket) (k : Kind) (n : Class) → Completes m s k piece n → class_ahead (piece ++ x) ≡ class_ahead (piece ++ y)
unfolding Completes
first_same [] x y m s k n h = absurd h
first_same (b ∷ piece) x y m s k n h = refl
