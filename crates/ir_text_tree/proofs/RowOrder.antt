-- Where the spans of tokens go forward, those of their rows do: only in a text, or behind a type in no parentheses, is a span held, and it ends where the last token ended, or before.
use Rattle.std.proofs.Common.{◌≡◌, ◌<◌, ◌≤◌, ℕ, Bool, true, false, List, [], ◌∷◌, Option, Some, None, Result, Ok, Err, IfOk, refl, sym, subst, ◌∙◌, arith}
use Rattle.std.specs.Bool.{⊤}
use Rattle.std.specs.Global.{Vec}
use Rattle.ir_text_tree.specs.declared.row.Part.{Part}
use Rattle.ir_text_tree.specs.declared.row.Row.{Row}
use Rattle.ir_text_tree.specs.declared.row.Span.{Span}
use Rattle.ir_text_tree.specs.declared.sort.Sort.{Sort}
use Rattle.ir_text_tree.specs.declared.sort.Sort.TheVariants as s
use Rattle.ir_text_tree.specs.declared.sort.Piece.{Piece}
use Rattle.ir_text_tree.specs.declared.fault.Fault.{Fault}
use Rattle.ir_text_tree.specs.declared.text_step.Bracket.{Bracket}
use Rattle.ir_text_tree.specs.declared.text_step.TextKind.{TextKind}
use Rattle.ir_text_tree.specs.declared.text_step.TextKind.TheVariants as kinds
use Rattle.ir_text_tree.specs.declared.text_step.Nesting.{Nesting}
use Rattle.ir_text_tree.specs.declared.tree_step.ResultsMode.{ResultsMode}
use Rattle.ir_text_tree.specs.declared.tree_step.ResultsMode.TheVariants as results
use Rattle.ir_text_tree.specs.declared.tree_step.OperandsMode.{OperandsMode}
use Rattle.ir_text_tree.specs.declared.tree_step.OperandsMode.TheVariants as operands
use Rattle.ir_text_tree.specs.declared.tree_step.PartsMode.{PartsMode}
use Rattle.ir_text_tree.specs.declared.tree_step.PartsMode.TheVariants as pieces
use Rattle.ir_text_tree.specs.declared.tree_step.EntriesMode.{EntriesMode}
use Rattle.ir_text_tree.specs.declared.tree_step.EntriesMode.TheVariants as entries
use Rattle.ir_text_tree.specs.declared.tree_step.TypesMode.{TypesMode}
use Rattle.ir_text_tree.specs.declared.tree_step.TypesMode.TheVariants as types
use Rattle.ir_text_tree.specs.declared.tree_step.LabelMode.{LabelMode}
use Rattle.ir_text_tree.specs.declared.tree_step.LabelMode.TheVariants as label
use Rattle.ir_text_tree.specs.declared.tree_step.Mode.{Mode}
use Rattle.ir_text_tree.specs.declared.tree_step.Mode.TheVariants as mode
use Rattle.ir_text_tree.specs.declared.tree_step.Action.{Action}
use Rattle.ir_text_tree.specs.declared.tree_step.Action.TheVariants as action
use Rattle.ir_text_tree.specs.declared.tree_step.Step.{Step}
use Rattle.ir_text_tree.specs.declared.tree_step.Step.TheVariants.{Go, Bad}
use Rattle.ir_text_tree.specs.TextSteps.{takes, innermost}
use Rattle.ir_text_tree.specs.TreeSteps.{results_step, operands_step, parts_step, entries_step, label_step, begun, types_step, stops_outside, stops, text_end, taken, body_step, after_step, bare_step, tree_step, is_whole}
use Rattle.ir_text_tree.specs.Parsings.{is_inside, ended_row, token_row, text_behind, brackets_behind, depth_behind, before_rows, listed, last_row, parsed_at_end, parsing, rows_read, IsParsing}
use Rattle.ir_text_tree.specs.Rows.{span, joined, GoForward, row_spans, piece_spans}
use Rattle.ir_text_tree.specs.Reading.{parsing_goes, parsing_stops, parsing_reads, rest_read}

-- ---- which modes hold the span of a text that goes on

abbrev HoldsText : Mode → Type 0
HoldsText mode.Bare = ⊤
HoldsText (mode.Text k) = ⊤
HoldsText _ = ⊥

abbrev HoldsNone : Mode → Type 0
HoldsNone mode.Bare = ⊥
HoldsNone (mode.Text k) = ⊥
HoldsNone _ = ⊤

never_both : (m : Mode) → HoldsNone m → HoldsText m → ⊥
never_both mode.Bare none h = none
never_both (mode.Text k) none h = none
never_both _ none h = h

-- an action that makes rows of tokens alone, or none
abbrev LeavesText : Action → Type 0
LeavesText (action.Start n) = ⊥
LeavesText (action.Extend n) = ⊥
LeavesText (action.Join part) = ⊥
LeavesText _ = ⊤

-- what a token may do, by whether a text ends before it
abbrev Fits : Mode → Option Part → Action → Mode → Type 0
Fits m None (action.Start n) to = ⊤
Fits m None (action.Extend n) to = HoldsText m
Fits m None (action.Join part) to = HoldsText m × HoldsNone to
Fits m None _ to = HoldsNone to
Fits m (Some part) a to = HoldsText m × LeavesText a × HoldsNone to

abbrev StepFits : Mode → Step → Type 0
StepFits m (Go ended a to) = Fits m ended a to
StepFits m Bad = ⊤

-- ---- each step of the table does

results_fit : (m : ResultsMode) (x : Sort) → StepFits (mode.Results m) (results_step m x)
results_fit results.Behind s.Colon = tt
results_fit results.Behind s.Comma = tt
results_fit results.Behind s.Equals = tt
results_fit results.Count s.Word = tt
results_fit results.Counted s.Comma = tt
results_fit results.Counted s.Equals = tt
results_fit results.Next s.Value = tt
results_fit results.Name s.Quoted = tt
results_fit _ _ = tt

operands_fit : (m : OperandsMode) (x : Sort) → StepFits (mode.Operands m) (operands_step m x)
operands_fit operands.Open s.OpenRound = tt
operands_fit operands.First s.Value = tt
operands_fit operands.First s.CloseRound = tt
operands_fit operands.Behind s.Attribute = tt
operands_fit operands.Behind s.Comma = tt
operands_fit operands.Behind s.CloseRound = tt
operands_fit operands.Indexed s.Comma = tt
operands_fit operands.Indexed s.CloseRound = tt
operands_fit operands.Next s.Value = tt
operands_fit _ _ = tt

parts_fit : (m : PartsMode) (x : Sort) → StepFits (mode.Parts m) (parts_step m x)
parts_fit pieces.Operands s.OpenSquare = tt
parts_fit pieces.Operands s.Group = tt
parts_fit pieces.Operands s.OpenRound = tt
parts_fit pieces.Operands s.OpenCurly = tt
parts_fit pieces.Operands s.Colon = tt
parts_fit pieces.NextSuccessor s.Block = tt
parts_fit pieces.Successor s.Comma = tt
parts_fit pieces.Successor s.CloseSquare = tt
parts_fit pieces.Successors s.Group = tt
parts_fit pieces.Successors s.OpenRound = tt
parts_fit pieces.Successors s.OpenCurly = tt
parts_fit pieces.Successors s.Colon = tt
parts_fit pieces.Properties s.OpenRound = tt
parts_fit pieces.Properties s.OpenCurly = tt
parts_fit pieces.Properties s.Colon = tt
parts_fit pieces.NextRegion s.OpenCurly = tt
parts_fit pieces.Region s.Comma = tt
parts_fit pieces.Region s.CloseRound = tt
parts_fit pieces.Regions s.OpenCurly = tt
parts_fit pieces.Regions s.Colon = tt
parts_fit _ _ = tt

entries_fit : (m : EntriesMode) (x : Sort) → StepFits (mode.Entries m) (entries_step m x)
entries_fit entries.First s.Word = tt
entries_fit entries.First s.Loc = tt
entries_fit entries.First s.Quoted = tt
entries_fit entries.First s.CloseCurly = tt
entries_fit entries.Next s.Word = tt
entries_fit entries.Next s.Loc = tt
entries_fit entries.Next s.Quoted = tt
entries_fit entries.Key s.Equals = tt
entries_fit entries.Key s.Comma = tt
entries_fit entries.Key s.CloseCurly = tt
entries_fit entries.Colon s.Colon = tt
entries_fit _ _ = tt

label_fits : (m : LabelMode) (x : Sort) → StepFits (mode.Label m) (label_step m x)
label_fits label.Behind s.OpenRound = tt
label_fits label.Behind s.Colon = tt
label_fits label.First s.Value = tt
label_fits label.First s.CloseRound = tt
label_fits label.Next s.Value = tt
label_fits label.Argument s.Colon = tt
label_fits label.Location s.OpenRound = tt
label_fits label.Located s.Comma = tt
label_fits label.Located s.CloseRound = tt
label_fits label.End s.Colon = tt
label_fits _ _ = tt

begun_fits : (m : Mode) (k : TextKind) (o : Option Nesting) → StepFits m (begun k o)
begun_fits m k (Some n) = tt
begun_fits m k None = tt

types_fit : (m : TypesMode) (x : Sort) → StepFits (mode.Types m) (types_step m x)
types_fit types.Open s.OpenRound = tt
types_fit types.FirstOperand s.CloseRound = tt
types_fit types.FirstOperand x = begun_fits (mode.Types types.FirstOperand) kinds.OperandType (takes kinds.OperandType None x)
types_fit types.Arrow s.Arrow = tt
types_fit types.Results s.OpenRound = tt
types_fit types.Results s.Word = tt
types_fit types.Results s.Type = tt
types_fit types.FirstResult s.CloseRound = tt
types_fit types.FirstResult x = begun_fits (mode.Types types.FirstResult) kinds.ResultType (takes kinds.ResultType None x)
types_fit types.Location s.OpenRound = tt
types_fit _ _ = tt

stop_fits : (k : TextKind) (x : Sort) → StepFits (mode.Text k) (text_end k (stops_outside k x))
stop_fits kinds.Value s.Comma = (tt, tt, tt)
stop_fits kinds.Value s.CloseCurly = (tt, tt, tt)
stop_fits kinds.OperandType s.Comma = (tt, tt, tt)
stop_fits kinds.OperandType s.CloseRound = (tt, tt, tt)
stop_fits kinds.ResultType s.Comma = (tt, tt, tt)
stop_fits kinds.ResultType s.CloseRound = (tt, tt, tt)
stop_fits kinds.Location s.CloseRound = (tt, tt, tt)
stop_fits kinds.ArgumentType s.Comma = (tt, tt, tt)
stop_fits kinds.ArgumentType s.CloseRound = (tt, tt, tt)
stop_fits kinds.ArgumentType s.Loc = (tt, tt, tt)
stop_fits kinds.ArgumentLocation s.CloseRound = (tt, tt, tt)
stop_fits _ _ = tt

end_fits : (k : TextKind) (last : Option Bracket) (x : Sort) → StepFits (mode.Text k) (text_end k (stops k last x))
end_fits k None x = stop_fits k x
end_fits k (Some b) x = tt

taken_fits : (k : TextKind) (o : Option Nesting) (other : Step) → StepFits (mode.Text k) other → StepFits (mode.Text k) (taken k o other)
taken_fits k (Some n) other h = tt
taken_fits k None other h = h

body_fits : (m : Mode) (inside : Bool) (x : Sort) → StepFits m (body_step inside x)
body_fits m inside s.Value = tt
body_fits m inside s.Quoted = tt
body_fits m true s.Block = tt
body_fits m true s.CloseCurly = tt
body_fits m _ _ = tt

after_fits : (inside : Bool) (x : Sort) → StepFits mode.After (after_step inside x)
after_fits inside s.Loc = tt
after_fits inside x = body_fits mode.After inside x

bare_fits : (inside : Bool) (x : Sort) → StepFits mode.Bare (bare_step inside x)
bare_fits inside s.Group = (tt, tt)
bare_fits inside s.Loc = (tt, tt, tt)
bare_fits inside s.Value = (tt, tt, tt)
bare_fits inside s.Quoted = (tt, tt, tt)
bare_fits true s.Block = (tt, tt, tt)
bare_fits true s.CloseCurly = (tt, tt, tt)
bare_fits _ _ = tt

step_fits : (m : Mode) (inside : Bool) (last : Option Bracket) (x : Sort) → StepFits m (tree_step m inside last x)
step_fits mode.Start inside last x = body_fits mode.Start inside x
step_fits mode.Body inside last x = body_fits mode.Body inside x
step_fits mode.After inside last x = after_fits inside x
step_fits mode.Bare inside last x = bare_fits inside x
step_fits (mode.Results m) inside last x = results_fit m x
step_fits (mode.Operands m) inside last x = operands_fit m x
step_fits (mode.Parts m) inside last x = parts_fit m x
step_fits (mode.Entries m) inside last x = entries_fit m x
step_fits (mode.Types m) inside last x = types_fit m x
step_fits (mode.Label m) inside last x = label_fits m x
step_fits (mode.Next k) inside last x = begun_fits (mode.Next k) k (takes k None x)
step_fits (mode.Text k) inside last x = taken_fits k (takes k last x) (text_end k (stops k last x)) (end_fits k last x)

-- ---- one token

-- The rows read so far end at low or before; the tokens read so far end at this place, and so does the text that goes on.
record Stands (m : Mode) (low : ℕ) (t : Span) (at : ℕ) : Type 0 where
  behind : low ≤ at
  from : HoldsText m → low ≤ t.start
  forward : HoldsText m → t.start < t.end
  to : HoldsText m → t.end ≤ at

stands_none : (m : Mode) (low : ℕ) (t : Span) (at : ℕ) → HoldsNone m → low ≤ at → Stands m low t at
stands_none m low t at none h = record { behind = h; from = λ x. absurd (never_both m none x); forward = λ x. absurd (never_both m none x); to = λ x. absurd (never_both m none x) }

stands_text : (m : Mode) (low : ℕ) (t : Span) (at : ℕ) → low ≤ t.start → t.start < t.end → t.end ≤ at → Stands m low t at
stands_text m low t at f g h = record { behind = omega (arith, f, g, h); from = λ x. f; forward = λ x. g; to = λ x. h }

-- behind a token, from the end of the rows on, the rows to come go forward
abbrev GoOn : Mode → ℕ → Span → ℕ → List Row → Type 0
GoOn to end t at rows = (low : ℕ) → Stands to low t at → GoForward end low (row_spans rows)

-- the row of a token, if it has one
token_goes : (end low at : ℕ) (t x : Span) (a : Action) (to : Mode) (rows : List Row) → LeavesText a → HoldsNone to → low ≤ at → at ≤ x.start → x.start < x.end
    → GoOn to end (text_behind a x t) x.end rows → GoForward end low (row_spans (before_rows (token_row a x t) rows))
unfolding GoForward
token_goes end low at t x action.Skip to rows l none b f g h = h low (stands_none to low t x.end none (omega (arith, b, f, g)))
token_goes end low at t x (action.Put part) to rows l none b f g h = (omega (arith, b, f), g, h x.end (stands_none to x.end t x.end none (omega arith)))
token_goes end low at t x action.Open to rows l none b f g h = (omega (arith, b, f), g, h x.end (stands_none to x.end t x.end none (omega arith)))
token_goes end low at t x action.Close to rows l none b f g h = (omega (arith, b, f), g, h x.end (stands_none to x.end t x.end none (omega arith)))
token_goes end low at t x (action.Start n) to rows l none b f g h = absurd l
token_goes end low at t x (action.Extend n) to rows l none b f g h = absurd l
token_goes end low at t x (action.Join part) to rows l none b f g h = absurd l

one_token : (end low at : ℕ) (m : Mode) (t x : Span) (ended : Option Part) (a : Action) (to : Mode) (rows : List Row) → Fits m ended a to → Stands m low t at → at ≤ x.start → x.start < x.end
    → GoOn to end (text_behind a x t) x.end rows → GoForward end low (row_spans (before_rows (ended_row ended t) (before_rows (token_row a x t) rows)))
unfolding GoForward
one_token end low at m t x (Some part) a to rows fit st f g h =
    (st.from fit.0, st.forward fit.0, token_goes end t.end at t x a to rows fit.1 fit.2 (st.to fit.0) f g h)
one_token end low at m t x None (action.Start n) to rows fit st f g h = h low (stands_text to low x x.end (omega (arith, st.behind, f)) g (omega arith))
one_token end low at m t x None (action.Extend n) to rows fit st f g h =
    h low (stands_text to low (joined t x) x.end (st.from fit) (omega (arith, st.forward fit, st.to fit, f, g)) (omega arith))
one_token end low at m t x None (action.Join part) to rows fit st f g h =
    (st.from fit.0, omega (arith, st.forward fit.0, st.to fit.0, f, g), h x.end (stands_none to x.end t x.end fit.1 (omega arith)))
one_token end low at m t x None action.Skip to rows fit st f g h = token_goes end low at t x action.Skip to rows tt fit st.behind f g h
one_token end low at m t x None (action.Put part) to rows fit st f g h = token_goes end low at t x (action.Put part) to rows tt fit st.behind f g h
one_token end low at m t x None action.Open to rows fit st f g h = token_goes end low at t x action.Open to rows tt fit st.behind f g h
one_token end low at m t x None action.Close to rows fit st f g h = token_goes end low at t x action.Close to rows tt fit st.behind f g h

-- ---- all tokens

abbrev fine : List Row → Result (List Row) Fault
fine out = Ok out

same : (a b : List Row) → fine a ≡ fine b → a ≡ b
same a b e = cc

AreOrdered : List Piece → Type 0
AreOrdered xs = (end : ℕ) (m : Mode) (d : ℕ) (bs : List Bracket) (t : Span) (low at : ℕ) (rows : List Row) → parsing end m d bs t xs ≡ Ok rows → GoForward end at (piece_spans xs) → Stands m low t at → GoForward end low (row_spans rows)

last_ordered : (end : ℕ) (m : Mode) (t : Span) (low at : ℕ) → at ≤ end → Stands m low t at → GoForward end low (row_spans (listed (last_row m t)))
unfolding GoForward
last_ordered end mode.Bare t low at le st = (st.from tt, st.forward tt, omega (arith, st.to tt, le))
last_ordered end _ t low at le st = omega (arith, st.behind, le)

end_ordered : (end : ℕ) (m : Mode) (i whole : Bool) (t : Span) (low at : ℕ) (rows : List Row) → parsed_at_end end m i t whole ≡ Ok rows → at ≤ end → Stands m low t at → GoForward end low (row_spans rows)
end_ordered end m i true t low at rows e le st = subst (λ (r : List Row). GoForward end low (row_spans r)) (same (listed (last_row m t)) rows e) (last_ordered end m t low at le st)
end_ordered end m i false t low at rows e le st = absurd cc

nil_ordered : AreOrdered []
unfolding AreOrdered parsing GoForward
nil_ordered end m d bs t low at rows e le st = end_ordered end m (is_inside d) (is_whole m (is_inside d)) t low at rows e le st

stops_not : (rows : List Row) (r : Result (List Row) Fault) (f : Fault) → r ≡ Err f → r ≡ Ok rows → ⊥
stops_not rows r f e h = cc

cons_step : (x : Piece) (xs : List Piece) (st : Step) (end : ℕ) (m : Mode) (d : ℕ) (bs : List Bracket) (t : Span) (low at : ℕ) (rows : List Row) → AreOrdered xs → tree_step m (is_inside d) (innermost bs) x.sort ≡ st → StepFits m st
    → parsing end m d bs t (x ∷ xs) ≡ Ok rows → GoForward end at (piece_spans (x ∷ xs)) → Stands m low t at → GoForward end low (row_spans rows)
unfolding AreOrdered GoForward
cons_step x xs (Go ended a to) end m d bs t low at rows ih e fit read forward st =
    let later = rest_read (parsing end to (depth_behind a d) (brackets_behind a bs) (text_behind a x.span t) xs) (ended_row ended t) (token_row a x.span t) rows (sym (parsing_goes end m d bs t x xs ended a to e) ∙ read) in
    let all = parsing_reads end m d bs t x xs ended a to later.0 e later.1 in
    let goes : GoOn to end (text_behind a x.span t) x.span.end later.0 = λ low stands. ih end to (depth_behind a d) (brackets_behind a bs) (text_behind a x.span t) low x.span.end later.0 later.1 forward.2 stands in
    subst (λ (r : List Row). GoForward end low (row_spans r)) (same (before_rows (ended_row ended t) (before_rows (token_row a x.span t) later.0)) rows (sym all ∙ read)) (one_token end low at m t x.span ended a to later.0 fit st forward.0 forward.1 goes)
cons_step x xs Bad end m d bs t low at rows ih e fit read forward st = absurd (stops_not rows _ _ (parsing_stops end m d bs t x xs e) read)

cons_ordered : (x : Piece) (xs : List Piece) → AreOrdered xs → AreOrdered (x ∷ xs)
unfolding AreOrdered
cons_ordered x xs ih end m d bs t low at rows read forward st = cons_step x xs (tree_step m (is_inside d) (innermost bs) x.sort) end m d bs t low at rows ih refl (step_fits m (is_inside d) (innermost bs) x.sort) read forward st

ordered : (xs : List Piece) → AreOrdered xs
ordered [] = nil_ordered
ordered (x ∷ xs) = cons_ordered x xs (ordered xs)

pub rows_ordered : (end : ℕ) (xs : List Piece) (rows : List Row) → rows_read end xs ≡ Ok rows → GoForward end 0 (piece_spans xs) → GoForward end 0 (row_spans rows)
unfolding AreOrdered
rows_ordered end xs rows read forward = ordered xs end mode.Start 0 [] (span 0 0) 0 0 rows read forward (stands_none mode.Start 0 (span 0 0) 0 tt (omega arith))

pub is_in_order : (end : ℕ) (xs : List Piece) (r : Result (Vec Row) Fault) → IsParsing (λ v. v.items) r (rows_read end xs) → GoForward end 0 (piece_spans xs) → IfOk r (λ v. GoForward end 0 (row_spans v.items))
is_in_order end xs (Ok v) given forward = rows_ordered end xs v.items given forward
is_in_order end xs (Err e) given forward = tt
