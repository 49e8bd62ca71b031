-- What a byte does to the reader: the table of the tokens.
use Rattle.std.specs.Prelude.{ℕ, ◌+◌, Bool, true, false, if◌then◌else◌, Option, Some, None}
use Rattle.ir_text_tokens.specs.declared.byte_class.Class.{Class}
use Rattle.ir_text_tokens.specs.declared.byte_class.Class.TheVariants as is
use Rattle.ir_text_tokens.specs.declared.token.Sign.{Sign}
use Rattle.ir_text_tokens.specs.declared.token.Sign.TheVariants as signs
use Rattle.ir_text_tokens.specs.declared.token.Bracket.{Bracket}
use Rattle.ir_text_tokens.specs.declared.token.Bracket.TheVariants as brackets
use Rattle.ir_text_tokens.specs.declared.token.Mark.TheVariants as marks
use Rattle.ir_text_tokens.specs.declared.token.Kind.TheVariants as kinds
use Rattle.ir_text_tokens.specs.declared.fault.Problem.{Problem}
use Rattle.ir_text_tokens.specs.declared.fault.Problem.TheVariants as problems
use Rattle.ir_text_tokens.specs.declared.reader_step.Around.{Around}
use Rattle.ir_text_tokens.specs.declared.reader_step.Around.TheVariants as around
use Rattle.ir_text_tokens.specs.declared.reader_step.Mode.{Mode}
use Rattle.ir_text_tokens.specs.declared.reader_step.Mode.TheVariants as mode
use Rattle.ir_text_tokens.specs.declared.reader_step.Nesting.TheVariants as nesting
use Rattle.ir_text_tokens.specs.declared.reader_step.Step.{Step}
use Rattle.ir_text_tokens.specs.declared.reader_step.Step.TheVariants.{Go, Emit, Bad}

-- the reader goes on there, in the same brackets
abbrev pub go : Mode → Step
go to = Go to nesting.Kept

-- a hexadecimal digit
abbrev pub is_hex : Class → Bool
is_hex is.Digit = true
is_hex is.HexLetter = true
is_hex _ = false

-- a byte of a word
abbrev pub goes_on_word : Class → Bool
goes_on_word is.Digit = true
goes_on_word is.HexLetter = true
goes_on_word is.EscapeLetter = true
goes_on_word is.Letter = true
goes_on_word _ = false

-- a byte of a name
abbrev pub goes_on_name : Class → Bool
goes_on_name is.Digit = true
goes_on_name is.HexLetter = true
goes_on_name is.EscapeLetter = true
goes_on_name is.Letter = true
goes_on_name is.Dash = true
goes_on_name _ = false

-- in a word, by what follows
abbrev pub word_step : Class → Step
word_step n = if goes_on_word n then go mode.Word else Emit kinds.Word

-- in a name of digits, by what follows
abbrev pub number_step : Sign → Class → Step
number_step s is.Digit = go (mode.Number s)
number_step s _ = Emit (kinds.Name s)

-- in another name, by what follows
abbrev pub name_step : Sign → Class → Step
name_step s n = if goes_on_name n then go (mode.Name s) else Emit (kinds.Name s)

-- a sign before its name
abbrev pub name_begins : Sign → Class → Step
name_begins s is.Digit = go (mode.Number s)
name_begins s _ = go (mode.Name s)

-- a sign without a name: those of values and blocks don't stand alone
abbrev pub lone_sign : Sign → Step
lone_sign signs.Value = Bad problems.Character
lone_sign signs.Block = Bad problems.Character
lone_sign s = Emit (kinds.Name s)

-- a sign, by what follows
abbrev pub sign_step : Sign → Class → Step
sign_step s n = if goes_on_name n then name_begins s n else lone_sign s

-- outside all tokens
abbrev pub begin_step : Class → Class → Step
begin_step is.Newline n = go mode.Between
begin_step is.Blank n = go mode.Between
begin_step is.Slash is.Slash = go mode.Comment
begin_step is.Slash _ = Bad problems.Character
begin_step is.Digit n = word_step n
begin_step is.HexLetter n = word_step n
begin_step is.EscapeLetter n = word_step n
begin_step is.Letter n = word_step n
begin_step (is.Sign s) n = sign_step s n
begin_step is.Quote n = go (mode.Quoted around.Nothing)
begin_step is.Dash is.Greater = go mode.Arrow
begin_step is.Dash _ = Emit (kinds.Mark marks.Minus)
begin_step is.Less n = go mode.Group
begin_step is.Equals n = Emit (kinds.Mark marks.Equals)
begin_step (is.Open b) n = Emit (kinds.Mark (marks.Open b))
begin_step (is.Close b) n = Emit (kinds.Mark (marks.Close b))
begin_step (is.Mark m) n = Emit (kinds.Mark m)
begin_step is.Greater n = Bad problems.Character
begin_step is.Backslash n = Bad problems.Character
begin_step is.Other n = Bad problems.Character

-- the brackets are of one sort
abbrev pub same_bracket : Bracket → Bracket → Bool
same_bracket brackets.Round brackets.Round = true
same_bracket brackets.Square brackets.Square = true
same_bracket brackets.Curly brackets.Curly = true
same_bracket brackets.Angle brackets.Angle = true
same_bracket _ _ = false

-- a bracket that closes no other closes the group, if it is `>`
abbrev pub group_end : Bracket → Step
group_end brackets.Angle = Emit kinds.Group
group_end _ = Bad problems.Bracket

-- a closing bracket in a group, where this is the last that was opened behind its first
abbrev pub closing_step : Bracket → Option Bracket → Step
closing_step b None = group_end b
closing_step b (Some a) = if same_bracket a b then Go mode.Group nesting.Closed else Bad problems.Bracket

-- in a group; the `>` of `->` and of `>=` closes nothing
abbrev pub group_step : Option Bracket → Class → Class → Step
group_step last is.Quote n = go (mode.Quoted around.Group)
group_step last is.Less n = Go mode.Group (nesting.Opened brackets.Angle)
group_step last (is.Open b) n = Go mode.Group (nesting.Opened b)
group_step last is.Dash is.Greater = go mode.GroupArrow
group_step last is.Dash _ = go mode.Group
group_step last is.Greater is.Equals = go mode.Group
group_step last is.Greater _ = closing_step brackets.Angle last
group_step last (is.Close b) n = closing_step b last
group_step last _ n = go mode.Group

-- the quote at the end of a string
abbrev pub quote_step : Around → Step
quote_step around.Nothing = Emit kinds.Quoted
quote_step around.Group = go mode.Group

-- in a string
abbrev pub string_step : Around → Class → Step
string_step a is.Quote = quote_step a
string_step a is.Backslash = go (mode.Escape a)
string_step a is.Newline = Bad problems.OpenString
string_step a _ = go (mode.Quoted a)

-- behind a backslash: a quote, a backslash, n, t, or two hexadecimal digits
abbrev pub escape_step : Around → Class → Step
escape_step a is.Quote = go (mode.Quoted a)
escape_step a is.Backslash = go (mode.Quoted a)
escape_step a is.EscapeLetter = go (mode.Quoted a)
escape_step a is.Digit = go (mode.Hex a)
escape_step a is.HexLetter = go (mode.Hex a)
escape_step a _ = Bad problems.Escape

-- behind the first of the two
abbrev pub hex_step : Around → Class → Step
hex_step a c = if is_hex c then go (mode.Quoted a) else Bad problems.Escape

-- in a comment
abbrev pub comment_step : Class → Step
comment_step is.Newline = go mode.Between
comment_step _ = go mode.Comment

-- what a byte of this class does where one of the next class follows; of the brackets in a group, behind its first, this is the last that is open
abbrev pub reader_step : Mode → Option Bracket → Class → Class → Step
reader_step mode.Between last c n = begin_step c n
reader_step mode.Comment last c n = comment_step c
reader_step mode.Word last c n = word_step n
reader_step (mode.Number s) last c n = number_step s n
reader_step (mode.Name s) last c n = name_step s n
reader_step mode.Arrow last c n = Emit kinds.Arrow
reader_step (mode.Quoted a) last c n = string_step a c
reader_step (mode.Escape a) last c n = escape_step a c
reader_step (mode.Hex a) last c n = hex_step a c
reader_step mode.Group last c n = group_step last c n
reader_step mode.GroupArrow last c n = go mode.Group

-- where the token begins in which the reader goes on behind the byte at this place
abbrev pub start_behind : Mode → ℕ → ℕ → ℕ
start_behind mode.Between start at = at + 1
start_behind mode.Comment start at = at + 1
start_behind _ start at = start

-- where the token begins in which the reader goes on from this place
abbrev pub start_at : Mode → ℕ → ℕ → ℕ
start_at mode.Between start at = at
start_at mode.Comment start at = at
start_at _ start at = start

-- a digit
abbrev pub is_digit : Class → Bool
is_digit is.Digit = true
is_digit _ = false

-- a blank, or the end of a line
abbrev pub is_gap : Class → Bool
is_gap is.Newline = true
is_gap is.Blank = true
is_gap _ = false

-- a byte of a string that stands for itself
abbrev pub is_plain : Class → Bool
is_plain is.Quote = false
is_plain is.Backslash = false
is_plain is.Newline = false
is_plain _ = true

-- a byte of a group that is no part of a bracket or a string
abbrev pub is_inner : Class → Bool
is_inner is.Quote = false
is_inner is.Dash = false
is_inner is.Less = false
is_inner is.Greater = false
is_inner (is.Open b) = false
is_inner (is.Close b) = false
is_inner _ = true

-- Behind a byte of this class, where one of the next class follows, the reader goes on as before.
abbrev pub stays : Mode → Class → Class → Bool
stays mode.Between c n = is_gap c
stays mode.Word c n = goes_on_word n
stays (mode.Number s) c n = is_digit n
stays (mode.Name s) c n = goes_on_name n
stays (mode.Quoted a) c n = is_plain c
stays mode.Group c n = is_inner c
stays _ c n = false

-- whether that token stands right behind another
abbrev pub glued_behind : Mode → Bool → Bool
glued_behind mode.Between glued = false
glued_behind _ glued = glued

-- what is missing where the text ends
abbrev pub missing_at_end : Mode → Option Problem
missing_at_end mode.Between = None
missing_at_end mode.Comment = None
missing_at_end (mode.Quoted a) = Some problems.OpenString
missing_at_end (mode.Escape a) = Some problems.OpenString
missing_at_end (mode.Hex a) = Some problems.OpenString
missing_at_end mode.Group = Some problems.OpenGroup
missing_at_end mode.GroupArrow = Some problems.OpenGroup
missing_at_end mode.Word = Some problems.Character
missing_at_end (mode.Number s) = Some problems.Character
missing_at_end (mode.Name s) = Some problems.Character
missing_at_end mode.Arrow = Some problems.Character
