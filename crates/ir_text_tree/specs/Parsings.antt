-- Reading tokens from left to right.
use Rattle.std.specs.Prelude.{◌≡◌, ℕ, zero, suc, ⊤, Bool, true, false, List, [], ◌∷◌, ◌++◌, Option, Some, None, Result, Ok, Err}
use Rattle.ir_text_tree.specs.declared.text_step.Bracket.{Bracket}
use Rattle.ir_text_tree.specs.declared.row.Part.{Part}
use Rattle.ir_text_tree.specs.declared.row.Part.TheVariants as parts
use Rattle.ir_text_tree.specs.declared.row.Row.{Row}
use Rattle.ir_text_tree.specs.declared.row.Span.{Span}
use Rattle.ir_text_tree.specs.declared.sort.Piece.{Piece}
use Rattle.ir_text_tree.specs.declared.fault.Fault.{Fault}
use Rattle.ir_text_tree.specs.declared.fault.Fault.TheVariants as faults
use Rattle.ir_text_tree.specs.declared.parsing.State.{State}
use Rattle.ir_text_tree.specs.declared.tree_step.Mode.{Mode}
use Rattle.ir_text_tree.specs.declared.tree_step.Mode.TheVariants as mode
use Rattle.ir_text_tree.specs.declared.tree_step.Action.{Action}
use Rattle.ir_text_tree.specs.declared.tree_step.Action.TheVariants as action
use Rattle.ir_text_tree.specs.declared.tree_step.Step.TheVariants.{Go, Bad}
use Rattle.ir_text_tree.specs.Rows.{row, span, joined}
use Rattle.ir_text_tree.specs.TextSteps.{innermost, renested}
use Rattle.ir_text_tree.specs.TreeSteps.{tree_step, is_whole, wanted}

-- at least one region is open
abbrev pub is_inside : ℕ → Bool
is_inside zero = false
is_inside (suc d) = true

-- the row of the text that ends before a token, if one does
abbrev pub ended_row : Option Part → Span → Option Row
ended_row None text = None
ended_row (Some part) text = Some (row part text)

-- the row of a token, if it has one, where that text goes on
abbrev pub token_row : Action → Span → Span → Option Row
token_row (action.Put part) token text = Some (row part token)
token_row (action.Join part) token text = Some (row part (joined text token))
token_row action.Open token text = Some (row parts.Open token)
token_row action.Close token text = Some (row parts.Close token)
token_row _ token text = None

-- the row, if there is one, in front of these
abbrev pub before_rows : Option Row → List Row → List Row
before_rows None rows = rows
before_rows (Some r) rows = r ∷ rows

-- the row, if there is one, as a list
abbrev pub listed : Option Row → List Row
listed r = before_rows r []

-- the text behind a token
abbrev pub text_behind : Action → Span → Span → Span
text_behind (action.Start n) token text = token
text_behind (action.Extend n) token text = joined text token
text_behind _ token text = text

-- the open brackets of the text behind a token
abbrev pub brackets_behind : Action → List Bracket → List Bracket
brackets_behind (action.Start n) bs = renested n []
brackets_behind (action.Extend n) bs = renested n bs
brackets_behind _ bs = bs

-- how many regions are open behind a token
abbrev pub depth_behind : Action → ℕ → ℕ
depth_behind action.Open d = suc d
depth_behind action.Close zero = zero
depth_behind action.Close (suc d) = d
depth_behind _ d = d

-- rows that were read before, and what is still read
abbrev pub behind_rows : List Row → Result (List Row) Fault → Result (List Row) Fault
behind_rows front (Ok rows) = Ok (front ++ rows)
behind_rows front (Err e) = Err e

-- a row, if there is one, and what is still read
abbrev pub behind_row : Option Row → Result (List Row) Fault → Result (List Row) Fault
behind_row r (Ok rows) = Ok (before_rows r rows)
behind_row r (Err e) = Err e

-- a type in no parentheses ends where the tokens end
abbrev pub last_row : Mode → Span → Option Row
last_row mode.Bare text = Some (row parts.OnlyResultType text)
last_row _ text = None

-- at the end of the tokens
abbrev pub parsed_at_end : ℕ → Mode → Bool → Span → Bool → Result (List Row) Fault
parsed_at_end end m inside text true = Ok (listed (last_row m text))
parsed_at_end end m inside text false = Err (faults.Expected (wanted m inside) end)

-- The rows of tokens that go on in this mode, in so many regions, in a text with these brackets; at that index the text ends.
unfoldable pub parsing : ℕ → Mode → ℕ → List Bracket → Span → List Piece → Result (List Row) Fault
parsing end m d bs text [] = parsed_at_end end m (is_inside d) text (is_whole m (is_inside d))
parsing end m d bs text (x ∷ xs) = elim (tree_step m (is_inside d) (innermost bs) x.sort) [
  | Go ended a to ↦ behind_row (ended_row ended text) (behind_row (token_row a x.span text) (parsing end to (depth_behind a d) (brackets_behind a bs) (text_behind a x.span text) xs))
  | Bad ↦ Err (faults.Expected (wanted m (is_inside d)) x.span.start)
]

-- the same from a state on
abbrev pub parsing_from : ℕ → State → List Bracket → List Piece → Result (List Row) Fault
parsing_from end st bs xs = parsing end st.mode st.depth bs st.text xs

-- The first token that can't stand where it stands, as a fault, if there is one in these.
unfoldable pub misplaced : Mode → ℕ → List Bracket → List Piece → Option Fault
misplaced m d bs [] = None
misplaced m d bs (x ∷ xs) = elim (tree_step m (is_inside d) (innermost bs) x.sort) [
  | Go ended a to ↦ misplaced to (depth_behind a d) (brackets_behind a bs) xs
  | Bad ↦ Some (faults.Expected (wanted m (is_inside d)) x.span.start)
]

-- the same from a state on
abbrev pub misplaced_from : State → List Bracket → List Piece → Option Fault
misplaced_from st bs xs = misplaced st.mode st.depth bs xs

-- before all tokens
abbrev pub start_state : State
start_state = record { mode = mode.Start; depth = 0; text = span 0 0 }

-- the first of all of these tokens that can't stand where it stands, as a fault, if there is one
abbrev pub first_misplaced : List Piece → Option Fault
first_misplaced xs = misplaced mode.Start 0 [] xs

-- The rows in front, the open brackets and the state before a token, and the rows, the brackets and what was returned behind it: nothing is lost of what is read of all tokens, unless memory ran out.
abbrev pub IsReadOn : List Row → List Bracket → State → Piece → List Row → List Bracket → Result State Fault → Type 0
IsReadOn front bs st x rows cs (Ok to) = (end : ℕ) (xs : List Piece) → (behind_rows front (parsing_from end st bs (x ∷ xs)) ≡ behind_rows rows (parsing_from end to cs xs)) × (misplaced_from st bs (x ∷ xs) ≡ misplaced_from to cs xs)
IsReadOn front bs st x rows cs (Err faults.OutOfMemory) = ⊤
IsReadOn front bs st x rows cs (Err e) = (end : ℕ) (xs : List Piece) → (parsing_from end st bs (x ∷ xs) ≡ Err e) × (misplaced_from st bs (x ∷ xs) ≡ Some e)

-- The rows in front and the state before the end of the tokens, and the rows and what was returned behind it.
abbrev pub IsReadOut : {X : Type 0} → ℕ → List Row → State → List Row → Result X Fault → Type 0
IsReadOut end front st rows (Ok u) = (bs : List Bracket) → behind_rows front (parsing_from end st bs []) ≡ Ok rows
IsReadOut end front st rows (Err faults.OutOfMemory) = ⊤
IsReadOut end front st rows (Err e) = (bs : List Bracket) → parsing_from end st bs [] ≡ Err e

-- the rows of all of these tokens of a text that ends at that index, or the first fault in them
abbrev pub rows_read : ℕ → List Piece → Result (List Row) Fault
rows_read end xs = parsing end mode.Start 0 [] (span 0 0) xs

-- What a function returned, seen by view, is what parsing gives, unless memory ran out.
abbrev pub IsParsing : {X Y : Type 0} → (X → Y) → Result X Fault → Result Y Fault → Type 0
IsParsing view (Ok x) read = read ≡ Ok (view x)
IsParsing view (Err faults.OutOfMemory) read = ⊤
IsParsing view (Err e) read = read ≡ Err e
