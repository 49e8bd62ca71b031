-- A number of a result begins with `#`, and so may follow any name.
use Rattle.std.proofs.Common.{◌≡◌, ℕ, Bool, true, false, cond, List, [], ◌∷◌, ◌++◌, subst, sym}
use Rattle.std.specs.Bool.{⊤}
use Rattle.ir_text_tokens.specs.declared.byte_class.Class.{Class}
use Rattle.ir_text_tokens.specs.declared.byte_class.Class.TheVariants as is
use Rattle.ir_text_tokens.specs.declared.token.Bracket.{Bracket}
use Rattle.ir_text_tokens.specs.declared.token.Bracket.TheVariants as brackets
use Rattle.ir_text_tokens.specs.declared.token.Mark.{Mark}
use Rattle.ir_text_tokens.specs.declared.token.Mark.TheVariants as marks
use Rattle.ir_text_tokens.specs.declared.token.Kind.{Kind}
use Rattle.ir_text_tokens.specs.declared.token.Kind.TheVariants as kinds
use Rattle.ir_text_tokens.specs.declared.reader_step.Mode.{Mode}
use Rattle.ir_text_tokens.specs.declared.reader_step.Mode.TheVariants as mode
use Rattle.ir_text_tokens.specs.declared.reader_step.Nesting.{Nesting}
use Rattle.ir_text_tokens.specs.declared.reader_step.Step.{Step}
use Rattle.ir_text_tokens.specs.declared.reader_step.Step.TheVariants.{Go, Emit}
use Rattle.ir_text_tokens.specs.ByteClasses.{class_of_byte, class_ahead}
use Rattle.ir_text_tokens.specs.ReaderSteps.{go, goes_on_word, word_step, begin_step}
use Rattle.ir_text_tokens.specs.Readings.{renested}
use Rattle.ir_text_tokens.specs.Coverings.{Completes, IsToken}
use Rattle.ir_text_tokens.specs.Endings.{Calm}
use Rattle.ir_text_tree.specs.declared.sort.Sort.TheVariants as s
use Rattle.ir_text_reader.specs.Pieces.{sort_of_mark, sort_of_word, sort_of}

-- ---- which kind is an attribute's name

abbrev IsName : Kind → Type 0
IsName (kinds.Name sign) = ⊤
IsName _ = ⊥

mark_not : (m : Mark) → sort_of_mark m ≡ s.Attribute → ⊥
mark_not (marks.Open brackets.Round) e = cc
mark_not (marks.Close brackets.Round) e = cc
mark_not (marks.Open brackets.Square) e = cc
mark_not (marks.Close brackets.Square) e = cc
mark_not (marks.Open brackets.Curly) e = cc
mark_not (marks.Close brackets.Curly) e = cc
mark_not marks.Comma e = cc
mark_not marks.Colon e = cc
mark_not marks.Equals e = cc
mark_not _ e = cc

word_not : (b : Bool) → sort_of_word b ≡ s.Attribute → ⊥
word_not true e = cc
word_not false e = cc

pub attribute_is_name : (k : Kind) (b : Bool) → sort_of k b ≡ s.Attribute → IsName k
attribute_is_name kinds.Word b e = absurd (word_not b e)
attribute_is_name (kinds.Name sign) b e = tt
attribute_is_name kinds.Quoted b e = absurd cc
attribute_is_name kinds.Group b e = absurd cc
attribute_is_name kinds.Arrow b e = absurd cc
attribute_is_name (kinds.Mark m) b e = absurd (mark_not m e)

-- ---- a name begins with its sign

-- a word stays a word, an arrow an arrow
abbrev NameFrom : Mode → Type 0
NameFrom mode.Word = ⊥
NameFrom mode.Arrow = ⊥
NameFrom _ = ⊤

abbrev StepMayName : Step → Type 0
StepMayName (Go to how) = NameFrom to
StepMayName (Emit k) = IsName k
StepMayName _ = ⊥

chosen_names : (b : Bool) (x y : Step) → (StepMayName x → ⊥) → (StepMayName y → ⊥) → StepMayName (cond b x y) → ⊥
chosen_names true x y f g h = f h
chosen_names false x y f g h = g h

word_names : (n : Class) → StepMayName (word_step n) → ⊥
word_names n = chosen_names (goes_on_word n) (go mode.Word) (Emit kinds.Word) (λ h. h) (λ h. h)

dash_names : (n : Class) → StepMayName (begin_step is.Dash n) → ⊥
dash_names is.Greater h = h
dash_names _ h = h

names_calm : (c n : Class) → StepMayName (begin_step c n) → Calm c
unfolding Calm
names_calm is.Digit n h = absurd (word_names n h)
names_calm is.HexLetter n h = absurd (word_names n h)
names_calm is.EscapeLetter n h = absurd (word_names n h)
names_calm is.Letter n h = absurd (word_names n h)
names_calm is.Dash n h = absurd (dash_names n h)
names_calm is.Greater n h = absurd h
names_calm is.Equals n h = absurd h
names_calm _ n h = tt

-- ---- what a mode may become

goes_to_word : (b : Bool) (to : Mode) (how : Nesting) → cond b (go mode.Word) (Emit kinds.Word) ≡ Go to how → to ≡ mode.Word
goes_to_word true to how e = cc
goes_to_word false to how e = absurd cc

word_stays : (p : List ℕ) (s : List Bracket) (k : Kind) (n : Class) → IsName k → Completes mode.Word s k p n → ⊥
unfolding Completes
word_stays [] s k n i h = h
word_stays (b ∷ []) s k n i h = word_names n (subst StepMayName (sym h) i)
word_stays (b ∷ c ∷ p) s k n i h =
    word_stays (c ∷ p) (renested h.1 s) k n i (subst (λ (m : Mode). Completes m (renested h.1 s) k (c ∷ p) n) (goes_to_word (goes_on_word (class_of_byte c)) h.0 h.1 h.2) h.4)

emits_not : (k : Kind) (to : Mode) (how : Nesting) → Emit k ≡ Go to how → ⊥
emits_not k to how e = cc

arrow_ends : (p : List ℕ) (s : List Bracket) (k : Kind) (n : Class) → IsName k → Completes mode.Arrow s k p n → ⊥
unfolding Completes
arrow_ends [] s k n i h = h
arrow_ends (b ∷ []) s k n i h = subst StepMayName (sym h) i
arrow_ends (b ∷ c ∷ p) s k n i h = emits_not kinds.Arrow h.0 h.1 h.2

name_from : (to : Mode) (p : List ℕ) (s : List Bracket) (k : Kind) (n : Class) → IsName k → Completes to s k p n → NameFrom to
name_from mode.Word p s k n i h = word_stays p s k n i h
name_from mode.Arrow p s k n i h = arrow_ends p s k n i h
name_from _ p s k n i h = tt

pub name_calm : (p : List ℕ) (k : Kind) (n : Class) (o : List ℕ) → IsName k → IsToken k p n → Calm (class_ahead (p ++ o))
unfolding Completes
name_calm [] k n o i l = absurd l
name_calm (b ∷ []) k n o i l = names_calm (class_of_byte b) n (subst StepMayName (sym l) i)
name_calm (b ∷ c ∷ p) k n o i l = names_calm (class_of_byte b) (class_of_byte c) (subst StepMayName (sym l.2) (name_from l.0 (c ∷ p) (renested l.1 []) k n i l.4))
