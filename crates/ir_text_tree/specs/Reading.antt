-- How tokens are read one by one: what is read from a mode on, by the step of the next token, and what the modes take.
use Rattle.std.proofs.Common.{◌≡◌, ℕ, zero, suc, Bool, true, false, List, [], ◌∷◌, ◌⊎◌, inl, inr, Option, Some, None, Result, Ok, Err, refl, sym, ap, ◌∙◌}
use Rattle.ir_text_tree.specs.declared.row.Part.{Part}
use Rattle.ir_text_tree.specs.declared.row.Part.TheVariants as parts
use Rattle.ir_text_tree.specs.declared.row.Row.{Row}
use Rattle.ir_text_tree.specs.declared.row.Span.{Span}
use Rattle.ir_text_tree.specs.declared.sort.Sort.{Sort}
use Rattle.ir_text_tree.specs.declared.sort.Sort.TheVariants as s
use Rattle.ir_text_tree.specs.declared.sort.Piece.{Piece}
use Rattle.ir_text_tree.specs.declared.fault.Fault.{Fault}
use Rattle.ir_text_tree.specs.declared.text_step.Bracket.{Bracket}
use Rattle.ir_text_tree.specs.declared.text_step.TextKind.{TextKind}
use Rattle.ir_text_tree.specs.declared.text_step.TextKind.TheVariants as kinds
use Rattle.ir_text_tree.specs.declared.text_step.Nesting.{Nesting}
use Rattle.ir_text_tree.specs.declared.text_step.Nesting.TheVariants as nesting
use Rattle.ir_text_tree.specs.declared.tree_step.ResultsMode.TheVariants as results
use Rattle.ir_text_tree.specs.declared.tree_step.OperandsMode.TheVariants as operands
use Rattle.ir_text_tree.specs.declared.tree_step.PartsMode.{PartsMode}
use Rattle.ir_text_tree.specs.declared.tree_step.PartsMode.TheVariants as pieces
use Rattle.ir_text_tree.specs.declared.tree_step.EntriesMode.TheVariants as entries
use Rattle.ir_text_tree.specs.declared.tree_step.TypesMode.TheVariants as types
use Rattle.ir_text_tree.specs.declared.tree_step.LabelMode.TheVariants as label
use Rattle.ir_text_tree.specs.declared.tree_step.Mode.{Mode}
use Rattle.ir_text_tree.specs.declared.tree_step.Mode.TheVariants as mode
use Rattle.ir_text_tree.specs.declared.tree_step.Action.{Action}
use Rattle.ir_text_tree.specs.declared.tree_step.Action.TheVariants as action
use Rattle.ir_text_tree.specs.declared.tree_step.Step.{Step}
use Rattle.ir_text_tree.specs.declared.tree_step.Step.TheVariants.{Go, Bad}
use Rattle.ir_text_tree.specs.TextSteps.{takes, part_of_text, innermost}
use Rattle.ir_text_tree.specs.TreeSteps.{skip, put, begin_text, stops_outside, text_end, taken, text_step, after_step, bare_step, tree_step, is_whole, parts_step}
use Rattle.ir_text_tree.specs.Parsings.{is_inside, ended_row, token_row, text_behind, brackets_behind, depth_behind, last_row, listed as one_row, parsing}
use Rattle.ir_text_tree.specs.Rows.{row}
use Rattle.ir_text_tree.specs.Trees.{IsKey, IsTypeName}
use Rattle.ir_text_tree.specs.declared.fault.Fault.TheVariants as faults
use Rattle.ir_text_tree.specs.TreeSteps.{wanted}
use Rattle.ir_text_tree.specs.Parsings.{before_rows, behind_row}

-- ---- one token

pub parsing_goes : (end : ℕ) (m : Mode) (d : ℕ) (bs : List Bracket) (t : Span) (x : Piece) (xs : List Piece) (ended : Option Part) (a : Action) (to : Mode)
    → tree_step m (is_inside d) (innermost bs) x.sort ≡ Go ended a to
    → parsing end m d bs t (x ∷ xs) ≡ behind_row (ended_row ended t) (behind_row (token_row a x.span t) (parsing end to (depth_behind a d) (brackets_behind a bs) (text_behind a x.span t) xs))
unfolding parsing
parsing_goes end m d bs t x xs ended a to e = rw (parsing, e) refl

pub parsing_stops : (end : ℕ) (m : Mode) (d : ℕ) (bs : List Bracket) (t : Span) (x : Piece) (xs : List Piece)
    → tree_step m (is_inside d) (innermost bs) x.sort ≡ Bad
    → parsing end m d bs t (x ∷ xs) ≡ Err (faults.Expected (wanted m (is_inside d)) x.span.start)
unfolding parsing
parsing_stops end m d bs t x xs e = rw (parsing, e) refl

pub parsing_done : (end : ℕ) (m : Mode) (d : ℕ) (bs : List Bracket) (t : Span) → is_whole m (is_inside d) ≡ true → parsing end m d bs t [] ≡ Ok (one_row (last_row m t))
unfolding parsing
parsing_done end m d bs t e = rw (parsing, e) refl

pub parsing_breaks_off : (end : ℕ) (m : Mode) (d : ℕ) (bs : List Bracket) (t : Span) → is_whole m (is_inside d) ≡ false → parsing end m d bs t [] ≡ Err (faults.Expected (wanted m (is_inside d)) end)
unfolding parsing
parsing_breaks_off end m d bs t e = rw (parsing, e) refl

-- where the rest is read, all is
pub parsing_reads : (end : ℕ) (m : Mode) (d : ℕ) (bs : List Bracket) (t : Span) (x : Piece) (xs : List Piece) (ended : Option Part) (a : Action) (to : Mode) (rows : List Row)
    → tree_step m (is_inside d) (innermost bs) x.sort ≡ Go ended a to
    → parsing end to (depth_behind a d) (brackets_behind a bs) (text_behind a x.span t) xs ≡ Ok rows
    → parsing end m d bs t (x ∷ xs) ≡ Ok (before_rows (ended_row ended t) (before_rows (token_row a x.span t) rows))
parsing_reads end m d bs t x xs ended a to rows e h =
    parsing_goes end m d bs t x xs ended a to e ∙ ap (λ (y : Result (List Row) Fault). behind_row (ended_row ended t) (behind_row (token_row a x.span t) y)) h

-- where all is read, the rest is
pub rest_read : (y : Result (List Row) Fault) (r q : Option Row) (out : List Row) → behind_row r (behind_row q y) ≡ Ok out → (rows : List Row) × (y ≡ Ok rows)
rest_read (Ok rows) r q out h = (rows, refl)
rest_read (Err e) r q out h = absurd cc

-- ---- what the modes take

-- what a token of this sort does there, whatever bracket is open
abbrev pub Steps : Mode → ℕ → Sort → Step → Type 0
Steps m d x st = (last : Option Bracket) → tree_step m (is_inside d) last x ≡ st

-- what a token does that ends a text
pub stop_step : (k : TextKind) (x : Sort) (to : Mode) → takes k None x ≡ None → stops_outside k x ≡ Some to → text_step k None x ≡ Go (Some (part_of_text k)) action.Skip to
stop_step k x to e f = ap (λ (o : Option Nesting). taken k o (text_end k (stops_outside k x))) e ∙ ap (text_end k) f

-- ---- results

abbrev pub after_count : Option Span → Mode
after_count None = mode.Results results.Behind
after_count (Some n) = mode.Results results.Counted

pub comma_behind : (c : Option Span) (d : ℕ) → Steps (after_count c) d s.Comma (skip (mode.Results results.Next))
comma_behind None d = λ last. refl
comma_behind (Some n) d = λ last. refl

pub equals_behind : (c : Option Span) (d : ℕ) → Steps (after_count c) d s.Equals (skip (mode.Results results.Name))
equals_behind None d = λ last. refl
equals_behind (Some n) d = λ last. refl

-- ---- where operations begin

pub record TakesBody (m : Mode) : Type 0 where
  pub value : (d : ℕ) → Steps m d s.Value (put parts.Result (mode.Results results.Behind))
  pub quoted : (d : ℕ) → Steps m d s.Quoted (put parts.Name (mode.Operands operands.Open))
  pub label : (d : ℕ) → Steps m (suc d) s.Block (put parts.Label (mode.Label label.Behind))
  pub close : (d : ℕ) → Steps m (suc d) s.CloseCurly (Go None action.Close (mode.Parts pieces.Region))

pub start_takes : TakesBody mode.Start
start_takes = record { value = λ d last. refl; quoted = λ d last. refl; label = λ d last. refl; close = λ d last. refl }

pub body_takes : TakesBody mode.Body
body_takes = record { value = λ d last. refl; quoted = λ d last. refl; label = λ d last. refl; close = λ d last. refl }

pub after_takes : TakesBody mode.After
after_takes = record { value = λ d last. refl; quoted = λ d last. refl; label = λ d last. refl; close = λ d last. refl }

-- behind an operation the tokens may end, too
pub record Rests (m : Mode) : Type 0 where
  pub takes : TakesBody m
  pub whole : is_whole m false ≡ true
  pub no_row : (t : Span) → last_row m t ≡ None

pub body_rests : Rests mode.Body
body_rests = record { takes = body_takes; whole = refl; no_row = λ t. refl }

pub after_rests : Rests mode.After
after_rests = record { takes = after_takes; whole = refl; no_row = λ t. refl }

-- ---- operands

abbrev pub after_index : Option Span → Mode
after_index None = mode.Operands operands.Behind
after_index (Some n) = mode.Operands operands.Indexed

pub comma_used : (i : Option Span) (d : ℕ) → Steps (after_index i) d s.Comma (skip (mode.Operands operands.Next))
comma_used None d = λ last. refl
comma_used (Some n) d = λ last. refl

pub round_used : (i : Option Span) (d : ℕ) → Steps (after_index i) d s.CloseRound (skip (mode.Parts pieces.Operands))
round_used None d = λ last. refl
round_used (Some n) d = λ last. refl

-- ---- between operands and attributes

pub record TakesTail (p : PartsMode) : Type 0 where
  pub curly : parts_step p s.OpenCurly ≡ skip (mode.Entries entries.First)
  pub colon : parts_step p s.Colon ≡ skip (mode.Types types.Open)

pub record TakesRegions (p : PartsMode) : Type 0 where
  pub round : parts_step p s.OpenRound ≡ skip (mode.Parts pieces.NextRegion)
  pub tail : TakesTail p

pub record TakesProperties (p : PartsMode) : Type 0 where
  pub group : parts_step p s.Group ≡ put parts.Properties (mode.Parts pieces.Properties)
  pub regions : TakesRegions p

pub operands_take : TakesProperties pieces.Operands
operands_take = record { group = refl; regions = record { round = refl; tail = record { curly = refl; colon = refl } } }

pub successors_take : TakesProperties pieces.Successors
successors_take = record { group = refl; regions = record { round = refl; tail = record { curly = refl; colon = refl } } }

pub properties_take : TakesRegions pieces.Properties
properties_take = record { round = refl; tail = record { curly = refl; colon = refl } }

pub regions_take : TakesTail pieces.Regions
regions_take = record { curly = refl; colon = refl }

-- ---- keys

pub key_next : (x : Sort) (d : ℕ) → IsKey x → Steps (mode.Entries entries.Next) d x (put parts.Key (mode.Entries entries.Key))
key_next s.Word d h = λ last. refl
key_next s.Loc d h = λ last. refl
key_next s.Quoted d h = λ last. refl
key_next _ d h = absurd h

pub key_first : (x : Sort) (d : ℕ) → IsKey x → Steps (mode.Entries entries.First) d x (put parts.Key (mode.Entries entries.Key))
key_first s.Word d h = λ last. refl
key_first s.Loc d h = λ last. refl
key_first s.Quoted d h = λ last. refl
key_first _ d h = absurd h

-- ---- types

pub first_operand : (x : Sort) (n : Nesting) (d : ℕ) → takes kinds.OperandType None x ≡ Some n → Steps (mode.Types types.FirstOperand) d x (begin_text kinds.OperandType x)
first_operand s.CloseRound n d h = absurd cc
first_operand _ n d h = λ last. refl

pub first_result : (x : Sort) (n : Nesting) (d : ℕ) → takes kinds.ResultType None x ≡ Some n → Steps (mode.Types types.FirstResult) d x (begin_text kinds.ResultType x)
first_result s.CloseRound n d h = absurd cc
first_result _ n d h = λ last. refl

-- ---- a type in no parentheses

-- what a token does behind an operation, and behind such a type
AfterCase : Bool → Sort → Type 0
AfterCase inside x = (after_step inside x ≡ Bad) ⊎ ((a : Action) × (to : Mode) × (after_step inside x ≡ Go None a to) × (bare_step inside x ≡ Go (Some parts.OnlyResultType) a to))

after_case : (inside : Bool) (x : Sort) → AfterCase inside x
unfolding AfterCase
after_case inside s.Loc = inr (action.Skip, mode.Types types.Location, refl, refl)
after_case inside s.Value = inr (action.Put parts.Result, mode.Results results.Behind, refl, refl)
after_case inside s.Quoted = inr (action.Put parts.Name, mode.Operands operands.Open, refl, refl)
after_case true s.Block = inr (action.Put parts.Label, mode.Label label.Behind, refl, refl)
after_case true s.CloseCurly = inr (action.Close, mode.Parts pieces.Region, refl, refl)
after_case true _ = inl refl
after_case false _ = inl refl

err_not_ok : (y : Result (List Row) Fault) (f : Fault) (rows : List Row) → y ≡ Err f → y ≡ Ok rows → ⊥
err_not_ok y f rows e h = cc

ok_same : (a b : List Row) → (let r : Result (List Row) Fault = Ok a in r) ≡ Ok b → a ≡ b
ok_same a b e = cc

pub bare_ends : (end d : ℕ) (rows : List Row) (bs : List Bracket) (t : Span) (xs : List Piece) → parsing end mode.After d bs t xs ≡ Ok rows → parsing end mode.Bare d bs t xs ≡ Ok (row parts.OnlyResultType t ∷ rows)
unfolding AfterCase
bare_ends end zero rows bs t [] h =
    let e = ok_same [] rows (sym (parsing_done end mode.After zero bs t refl) ∙ h) in
    parsing_done end mode.Bare zero bs t refl ∙ ap (λ (x : List Row). Ok (row parts.OnlyResultType t ∷ x)) e
bare_ends end (suc d) rows bs t [] h = absurd (err_not_ok _ _ rows (parsing_breaks_off end mode.After (suc d) bs t refl) h)
bare_ends end d rows bs t (x ∷ xs) h = elim (after_case (is_inside d) x.sort) [
  | inl e ↦ absurd (err_not_ok _ _ rows (parsing_stops end mode.After d bs t x xs e) h)
  | inr w ↦
      let got = rest_read (parsing end w.1 (depth_behind w.0 d) (brackets_behind w.0 bs) (text_behind w.0 x.span t) xs) (ended_row None t) (token_row w.0 x.span t) rows (sym (parsing_goes end mode.After d bs t x xs None w.0 w.1 w.2) ∙ h) in
      let whole = parsing_reads end mode.After d bs t x xs None w.0 w.1 got.0 w.2 got.1 in
      parsing_reads end mode.Bare d bs t x xs (Some parts.OnlyResultType) w.0 w.1 got.0 w.3 got.1
      ∙ ap (λ (y : List Row). Ok (row parts.OnlyResultType t ∷ y)) (ok_same _ rows (sym whole ∙ h))
]

pub name_step : (x : Sort) (inside : Bool) (last : Option Bracket) → IsTypeName x → tree_step (mode.Types types.Results) inside last x ≡ Go None (action.Start nesting.Kept) mode.Bare
name_step s.Word inside last h = refl
name_step s.Type inside last h = refl
name_step _ inside last h = absurd h
