-- The tokens of a tree are read as its rows.
use Rattle.std.proofs.Common.{◌≡◌, ℕ, zero, suc, true, List, [], ◌∷◌, Option, Some, None, Ok, refl, sym, ap, subst, ◌∙◌}
use Rattle.ir_text_tree.specs.declared.row.Part.{Part}
use Rattle.ir_text_tree.specs.declared.row.Part.TheVariants as parts
use Rattle.ir_text_tree.specs.declared.row.Row.{Row}
use Rattle.ir_text_tree.specs.declared.row.Span.{Span}
use Rattle.ir_text_tree.specs.declared.sort.Sort.{Sort}
use Rattle.ir_text_tree.specs.declared.sort.Sort.TheVariants as s
use Rattle.ir_text_tree.specs.declared.sort.Piece.{Piece}
use Rattle.ir_text_tree.specs.declared.text_step.Bracket.{Bracket}
use Rattle.ir_text_tree.specs.declared.text_step.TextKind.{TextKind}
use Rattle.ir_text_tree.specs.declared.text_step.TextKind.TheVariants as kinds
use Rattle.ir_text_tree.specs.declared.text_step.Nesting.{Nesting}
use Rattle.ir_text_tree.specs.declared.text_step.Nesting.TheVariants as nesting
use Rattle.ir_text_tree.specs.declared.tree_step.ResultsMode.TheVariants as results
use Rattle.ir_text_tree.specs.declared.tree_step.OperandsMode.TheVariants as operands
use Rattle.ir_text_tree.specs.declared.tree_step.PartsMode.{PartsMode}
use Rattle.ir_text_tree.specs.declared.tree_step.PartsMode.TheVariants as pieces
use Rattle.ir_text_tree.specs.declared.tree_step.EntriesMode.TheVariants as entries
use Rattle.ir_text_tree.specs.declared.tree_step.TypesMode.TheVariants as types
use Rattle.ir_text_tree.specs.declared.tree_step.LabelMode.TheVariants as label
use Rattle.ir_text_tree.specs.declared.tree_step.Mode.{Mode}
use Rattle.ir_text_tree.specs.declared.tree_step.Mode.TheVariants as mode
use Rattle.ir_text_tree.specs.declared.tree_step.Action.TheVariants as action
use Rattle.ir_text_tree.specs.declared.tree_step.Step.TheVariants.{Go}
use Rattle.ir_text_tree.specs.TextSteps.{takes, part_of_text, innermost, renested}
use Rattle.ir_text_tree.specs.TreeSteps.{skip, put, begun, begin_text, stops_outside, text_end, taken, stops, text_step, bare_step, tree_step}
use Rattle.ir_text_tree.specs.Parsings.{is_inside, listed as one_row, parsing}
use Rattle.ir_text_tree.specs.Rows.{row, span, joined}
use Rattle.ir_text_tree.specs.Trees.{Expected, mark, token, Matches, StaysText, span_through, Text, pieces_then, text_then, text_row, ResultName, Use, Entry, IsTypeName, ResultTypes, bare, listed, Head, Tail, Argument, Label, Body, Regions, done, op, block, none, one, HasNoBlocks, IsWholeText, count_then, more_results_then, results_then, index_then, more_uses_then, uses_then, more_successors_then, successors_then, properties_then, value_then, entry_then, more_entries_then, entries_then, attributes_then, more_types_then, types_then, group_then, result_types_then, location_then, signature_then, tail_then, argument_then, more_arguments_then, arguments_then, signed_then, label_then, body_then, regions_then, more_regions_then, maybe_row, maybe_text_row, result_rows, use_rows, successor_rows, entry_rows, attribute_rows, type_rows, bare_span, result_type_rows, signature_rows, tail_rows, argument_rows, signed_rows, label_rows, body_rows, region_rows}
use Rattle.ir_text_tree.specs.Reading.{parsing_reads, parsing_done, Steps, stop_step, after_count, comma_behind, equals_behind, TakesBody, start_takes, Rests, body_rests, after_rests, after_index, comma_used, round_used, TakesTail, TakesRegions, TakesProperties, operands_take, successors_take, properties_take, regions_take, key_next, key_first, first_operand, first_result, bare_ends, name_step}

-- From this mode on, in so many regions, tokens that fit are read as these rows.
record Follows (m : Mode) (d : ℕ) (es : List Expected) (rows : List Row) : Type 0 where
  read : (end : ℕ) (bs : List Bracket) (t : Span) (xs : List Piece) → Matches es xs → parsing end m d bs t xs ≡ Ok rows

-- ---- one token

skips_read : (end d : ℕ) (es : List Expected) (rows : List Row) (m : Mode) (x : Sort) (to : Mode) (bs : List Bracket) (t : Span) (xs : List Piece)
    → Steps m d x (skip to) → Follows to d es rows → Matches (mark x ∷ es) xs → parsing end m d bs t xs ≡ Ok rows
unfolding Matches
skips_read end d es rows m x to bs t [] e f h = absurd h
skips_read end d es rows m x to bs t (p ∷ ps) e f h =
    parsing_reads end m d bs t p ps None action.Skip to rows (ap (tree_step m (is_inside d) (innermost bs)) h.0 ∙ e (innermost bs)) (f.read end bs t ps h.1)

skips : {d : ℕ} {es : List Expected} {rows : List Row} (m : Mode) (x : Sort) (to : Mode) → Steps m d x (skip to) → Follows to d es rows → Follows m d (mark x ∷ es) rows
skips {d = d} {es = es} {rows = rows} m x to e f = record { read = λ end bs t xs h. skips_read end d es rows m x to bs t xs e f h }

puts_read : (end d : ℕ) (es : List Expected) (rows : List Row) (m : Mode) (x : Sort) (part : Part) (to : Mode) (at : Span) (bs : List Bracket) (t : Span) (xs : List Piece)
    → Steps m d x (put part to) → Follows to d es rows → Matches (token x at ∷ es) xs → parsing end m d bs t xs ≡ Ok (row part at ∷ rows)
unfolding Matches
puts_read end d es rows m x part to at bs t [] e f h = absurd h
puts_read end d es rows m x part to at bs t (p ∷ ps) e f h =
    parsing_reads end m d bs t p ps None (action.Put part) to rows (ap (tree_step m (is_inside d) (innermost bs)) h.0.0 ∙ e (innermost bs)) (f.read end bs t ps h.1)
    ∙ ap (λ (y : Span). Ok (row part y ∷ rows)) h.0.1

puts : {d : ℕ} {es : List Expected} {rows : List Row} (m : Mode) (x : Sort) (part : Part) (to : Mode) (at : Span) → Steps m d x (put part to) → Follows to d es rows → Follows m d (token x at ∷ es) (row part at ∷ rows)
puts {d = d} {es = es} {rows = rows} m x part to at e f = record { read = λ end bs t xs h. puts_read end d es rows m x part to at bs t xs e f h }

opens_read : (end d : ℕ) (es : List Expected) (rows : List Row) (at : Span) (bs : List Bracket) (t : Span) (xs : List Piece)
    → Follows mode.Body (suc d) es rows → Matches (token s.OpenCurly at ∷ es) xs → parsing end (mode.Parts pieces.NextRegion) d bs t xs ≡ Ok (row parts.Open at ∷ rows)
unfolding Matches
opens_read end d es rows at bs t [] f h = absurd h
opens_read end d es rows at bs t (p ∷ ps) f h =
    parsing_reads end (mode.Parts pieces.NextRegion) d bs t p ps None action.Open mode.Body rows (ap (tree_step (mode.Parts pieces.NextRegion) (is_inside d) (innermost bs)) h.0.0) (f.read end bs t ps h.1)
    ∙ ap (λ (y : Span). Ok (row parts.Open y ∷ rows)) h.0.1

opens : {d : ℕ} {es : List Expected} {rows : List Row} (at : Span) → Follows mode.Body (suc d) es rows → Follows (mode.Parts pieces.NextRegion) d (token s.OpenCurly at ∷ es) (row parts.Open at ∷ rows)
opens {d = d} {es = es} {rows = rows} at f = record { read = λ end bs t xs h. opens_read end d es rows at bs t xs f h }

shuts_read : (end d : ℕ) (es : List Expected) (rows : List Row) (m : Mode) (at : Span) (bs : List Bracket) (t : Span) (xs : List Piece)
    → Steps m (suc d) s.CloseCurly (Go None action.Close (mode.Parts pieces.Region)) → Follows (mode.Parts pieces.Region) d es rows → Matches (token s.CloseCurly at ∷ es) xs → parsing end m (suc d) bs t xs ≡ Ok (row parts.Close at ∷ rows)
unfolding Matches
shuts_read end d es rows m at bs t [] e f h = absurd h
shuts_read end d es rows m at bs t (p ∷ ps) e f h =
    parsing_reads end m (suc d) bs t p ps None action.Close (mode.Parts pieces.Region) rows (ap (tree_step m true (innermost bs)) h.0.0 ∙ e (innermost bs)) (f.read end bs t ps h.1)
    ∙ ap (λ (y : Span). Ok (row parts.Close y ∷ rows)) h.0.1

shuts : {d : ℕ} {es : List Expected} {rows : List Row} (m : Mode) (at : Span) → Steps m (suc d) s.CloseCurly (Go None action.Close (mode.Parts pieces.Region)) → Follows (mode.Parts pieces.Region) d es rows → Follows m (suc d) (token s.CloseCurly at ∷ es) (row parts.Close at ∷ rows)
shuts {d = d} {es = es} {rows = rows} m at e f = record { read = λ end bs t xs h. shuts_read end d es rows m at bs t xs e f h }

-- ---- texts

-- Behind a text outside all brackets, tokens that fit end it and are read as these rows.
record Ends (k : TextKind) (d : ℕ) (es : List Expected) (rows : List Row) : Type 0 where
  read : (end : ℕ) (t : Span) (xs : List Piece) → Matches es xs → parsing end (mode.Text k) d [] t xs ≡ Ok (row (part_of_text k) t ∷ rows)

ends_read : (end d : ℕ) (es : List Expected) (rows : List Row) (k : TextKind) (x : Sort) (to : Mode) (t : Span) (xs : List Piece)
    → takes k None x ≡ None → stops_outside k x ≡ Some to → Follows to d es rows → Matches (mark x ∷ es) xs → parsing end (mode.Text k) d [] t xs ≡ Ok (row (part_of_text k) t ∷ rows)
unfolding Matches
ends_read end d es rows k x to t [] e g f h = absurd h
ends_read end d es rows k x to t (p ∷ ps) e g f h =
    parsing_reads end (mode.Text k) d [] t p ps (Some (part_of_text k)) action.Skip to rows (ap (text_step k None) h.0 ∙ stop_step k x to e g) (f.read end [] t ps h.1)

ends : {d : ℕ} {es : List Expected} {rows : List Row} (k : TextKind) (x : Sort) (to : Mode) → takes k None x ≡ None → stops_outside k x ≡ Some to → Follows to d es rows → Ends k d (mark x ∷ es) rows
ends {d = d} {es = es} {rows = rows} k x to e g f = record { read = λ end t xs h. ends_read end d es rows k x to t xs e g f h }

text_goes_on : (end d : ℕ) (es : List Expected) (rows : List Row) (k : TextKind) (ps : List Piece) (bs : List Bracket) (t : Span) (xs : List Piece)
    → StaysText k bs ps → Ends k d es rows → Matches (pieces_then ps es) xs → parsing end (mode.Text k) d bs t xs ≡ Ok (row (part_of_text k) (span_through t ps) ∷ rows)
unfolding Matches StaysText
text_goes_on end d es rows k [] bs t xs st f h =
    subst (λ (b : List Bracket). parsing end (mode.Text k) d b t xs ≡ Ok (row (part_of_text k) t ∷ rows)) (sym st) (f.read end t xs h)
text_goes_on end d es rows k (p ∷ ps) bs t [] st f h = absurd h
text_goes_on end d es rows k (p ∷ ps) bs t (x ∷ xs) st f h =
    let n = st.0 in
    let e : text_step k (innermost bs) x.sort ≡ Go None (action.Extend n) (mode.Text k) =
    ap (text_step k (innermost bs)) h.0.0 ∙ ap (λ (o : Option Nesting). taken k o (text_end k (stops k (innermost bs) p.sort))) st.1 in
    let rest = text_goes_on end d es rows k ps (renested n bs) (joined t x.span) xs st.2 f h.1 in
    parsing_reads end (mode.Text k) d bs t x xs None (action.Extend n) (mode.Text k) (row (part_of_text k) (span_through (joined t x.span) ps) ∷ rows) e rest
    ∙ ap (λ (y : Span). Ok (row (part_of_text k) (span_through (joined t y) ps) ∷ rows)) h.0.1

text_read : (end d : ℕ) (es : List Expected) (rows : List Row) (k : TextKind) (m : Mode) (v : Text k) (bs : List Bracket) (t : Span) (xs : List Piece)
    → Steps m d v.first.sort (begin_text k v.first.sort) → Ends k d es rows → Matches (text_then v es) xs → parsing end m d bs t xs ≡ Ok (text_row v rows)
unfolding Matches StaysText
text_read end d es rows k m v bs t [] e f h = absurd h
text_read end d es rows k m v bs t (x ∷ xs) e f h =
    let n = v.is_text.0 in
    let g : tree_step m (is_inside d) (innermost bs) x.sort ≡ Go None (action.Start n) (mode.Text k) =
    ap (tree_step m (is_inside d) (innermost bs)) h.0.0 ∙ e (innermost bs) ∙ ap (begun k) v.is_text.1 in
    let rest = text_goes_on end d es rows k v.others (renested n []) x.span xs v.is_text.2 f h.1 in
    parsing_reads end m d bs t x xs None (action.Start n) (mode.Text k) (row (part_of_text k) (span_through x.span v.others) ∷ rows) g rest
    ∙ ap (λ (y : Span). Ok (row (part_of_text k) (span_through y v.others) ∷ rows)) h.0.1

text_follows : {d : ℕ} {es : List Expected} {rows : List Row} (k : TextKind) (m : Mode) (v : Text k) → Steps m d v.first.sort (begin_text k v.first.sort) → Ends k d es rows → Follows m d (text_then v es) (text_row v rows)
text_follows {d = d} {es = es} {rows = rows} k m v e f = record { read = λ end bs t xs h. text_read end d es rows k m v bs t xs e f h }

next_text : {d : ℕ} {es : List Expected} {rows : List Row} (k : TextKind) (v : Text k) → Ends k d es rows → Follows (mode.Next k) d (text_then v es) (text_row v rows)
next_text k v f = text_follows k (mode.Next k) v (λ last. refl) f

-- ---- results

count_follows : {d : ℕ} {es : List Expected} {rows : List Row} (c : Option Span) → Follows (after_count c) d es rows → Follows (mode.Results results.Behind) d (count_then c es) (maybe_row parts.Count c rows)
count_follows None f = f
count_follows (Some n) f = skips (mode.Results results.Behind) s.Colon (mode.Results results.Count) (λ last. refl) (puts (mode.Results results.Count) s.Word parts.Count (mode.Results results.Counted) n (λ last. refl) f)

more_results_follow : (d : ℕ) (es : List Expected) (rows : List Row) (c : Option Span) (rs : List ResultName) → Follows (mode.Results results.Name) d es rows → Follows (after_count c) d (more_results_then rs (mark s.Equals ∷ es)) (result_rows rs rows)
more_results_follow d es rows c [] f = skips (after_count c) s.Equals (mode.Results results.Name) (equals_behind c d) f
more_results_follow d es rows c (r ∷ rs) f =
    skips (after_count c) s.Comma (mode.Results results.Next) (comma_behind c d)
    (puts (mode.Results results.Next) s.Value parts.Result (mode.Results results.Behind) r.name (λ last. refl)
    (count_follows r.count (more_results_follow d es rows r.count rs f)))

results_follow : (d : ℕ) (es : List Expected) (rows : List Row) (m : Mode) (name : Span) (rs : List ResultName) → TakesBody m → Follows (mode.Operands operands.Open) d es rows
    → Follows m d (results_then rs (token s.Quoted name ∷ es)) (result_rows rs (row parts.Name name ∷ rows))
results_follow d es rows m name [] b f = puts m s.Quoted parts.Name (mode.Operands operands.Open) name (b.quoted d) f
results_follow d es rows m name (r ∷ rs) b f =
    puts m s.Value parts.Result (mode.Results results.Behind) r.name (b.value d)
    (count_follows r.count (more_results_follow d (token s.Quoted name ∷ es) (row parts.Name name ∷ rows) r.count rs
    (puts (mode.Results results.Name) s.Quoted parts.Name (mode.Operands operands.Open) name (λ last. refl) f)))

-- ---- operands

index_follows : {d : ℕ} {es : List Expected} {rows : List Row} (i : Option Span) → Follows (after_index i) d es rows → Follows (mode.Operands operands.Behind) d (index_then i es) (maybe_row parts.Index i rows)
index_follows None f = f
index_follows (Some n) f = puts (mode.Operands operands.Behind) s.Attribute parts.Index (mode.Operands operands.Indexed) n (λ last. refl) f

more_uses_follow : (d : ℕ) (es : List Expected) (rows : List Row) (i : Option Span) (us : List Use) → Follows (mode.Parts pieces.Operands) d es rows → Follows (after_index i) d (more_uses_then us (mark s.CloseRound ∷ es)) (use_rows us rows)
more_uses_follow d es rows i [] f = skips (after_index i) s.CloseRound (mode.Parts pieces.Operands) (round_used i d) f
more_uses_follow d es rows i (u ∷ us) f =
    skips (after_index i) s.Comma (mode.Operands operands.Next) (comma_used i d)
    (puts (mode.Operands operands.Next) s.Value parts.Operand (mode.Operands operands.Behind) u.name (λ last. refl)
    (index_follows u.index (more_uses_follow d es rows u.index us f)))

uses_follow : (d : ℕ) (es : List Expected) (rows : List Row) (us : List Use) → Follows (mode.Parts pieces.Operands) d es rows → Follows (mode.Operands operands.First) d (uses_then us es) (use_rows us rows)
uses_follow d es rows [] f = skips (mode.Operands operands.First) s.CloseRound (mode.Parts pieces.Operands) (λ last. refl) f
uses_follow d es rows (u ∷ us) f =
    puts (mode.Operands operands.First) s.Value parts.Operand (mode.Operands operands.Behind) u.name (λ last. refl)
    (index_follows u.index (more_uses_follow d es rows u.index us f))

-- ---- between operands and attributes

more_successors_follow : (d : ℕ) (es : List Expected) (rows : List Row) (bs : List Span) → Follows (mode.Parts pieces.Successors) d es rows → Follows (mode.Parts pieces.Successor) d (more_successors_then bs es) (successor_rows bs rows)
more_successors_follow d es rows [] f = skips (mode.Parts pieces.Successor) s.CloseSquare (mode.Parts pieces.Successors) (λ last. refl) f
more_successors_follow d es rows (b ∷ bs) f =
    skips (mode.Parts pieces.Successor) s.Comma (mode.Parts pieces.NextSuccessor) (λ last. refl)
    (puts (mode.Parts pieces.NextSuccessor) s.Block parts.Successor (mode.Parts pieces.Successor) b (λ last. refl) (more_successors_follow d es rows bs f))

successors_follow : (d : ℕ) (es : List Expected) (rows : List Row) (bs : List Span) → ((p : PartsMode) → TakesProperties p → Follows (mode.Parts p) d es rows) → Follows (mode.Parts pieces.Operands) d (successors_then bs es) (successor_rows bs rows)
successors_follow d es rows [] f = f pieces.Operands operands_take
successors_follow d es rows (b ∷ bs) f =
    skips (mode.Parts pieces.Operands) s.OpenSquare (mode.Parts pieces.NextSuccessor) (λ last. refl)
    (puts (mode.Parts pieces.NextSuccessor) s.Block parts.Successor (mode.Parts pieces.Successor) b (λ last. refl) (more_successors_follow d es rows bs (f pieces.Successors successors_take)))

properties_follow : (d : ℕ) (es : List Expected) (rows : List Row) (p : PartsMode) (o : Option Span) → TakesProperties p → ((q : PartsMode) → TakesRegions q → Follows (mode.Parts q) d es rows) → Follows (mode.Parts p) d (properties_then o es) (maybe_row parts.Properties o rows)
properties_follow d es rows p None g f = f p g.regions
properties_follow d es rows p (Some at) g f = puts (mode.Parts p) s.Group parts.Properties (mode.Parts pieces.Properties) at (λ last. g.group) (f pieces.Properties properties_take)

-- ---- attributes

abbrev AfterValue : Option (Text kinds.Value) → ℕ → List Expected → List Row → Type 0
AfterValue None d es rows = Follows (mode.Entries entries.Key) d es rows
AfterValue (Some v) d es rows = Ends kinds.Value d es rows

value_follows : (d : ℕ) (es : List Expected) (rows : List Row) (o : Option (Text kinds.Value)) → AfterValue o d es rows → Follows (mode.Entries entries.Key) d (value_then o es) (maybe_text_row o rows)
value_follows d es rows None f = f
value_follows d es rows (Some v) f = skips (mode.Entries entries.Key) s.Equals (mode.Next kinds.Value) (λ last. refl) (next_text kinds.Value v f)

value_comma : (d : ℕ) (es : List Expected) (rows : List Row) (o : Option (Text kinds.Value)) → Follows (mode.Entries entries.Next) d es rows → AfterValue o d (mark s.Comma ∷ es) rows
value_comma d es rows None f = skips (mode.Entries entries.Key) s.Comma (mode.Entries entries.Next) (λ last. refl) f
value_comma d es rows (Some v) f = ends kinds.Value s.Comma (mode.Entries entries.Next) refl refl f

value_curly : (d : ℕ) (es : List Expected) (rows : List Row) (o : Option (Text kinds.Value)) → Follows (mode.Entries entries.Colon) d es rows → AfterValue o d (mark s.CloseCurly ∷ es) rows
value_curly d es rows None f = skips (mode.Entries entries.Key) s.CloseCurly (mode.Entries entries.Colon) (λ last. refl) f
value_curly d es rows (Some v) f = ends kinds.Value s.CloseCurly (mode.Entries entries.Colon) refl refl f

more_entries_follow : (d : ℕ) (es : List Expected) (rows : List Row) (o : Option (Text kinds.Value)) (given : List Entry) → Follows (mode.Entries entries.Colon) d es rows → AfterValue o d (more_entries_then given es) (entry_rows given rows)
more_entries_follow d es rows o [] f = value_curly d es rows o f
more_entries_follow d es rows o (e ∷ given) f =
    value_comma d (entry_then e (more_entries_then given es)) (entry_rows (e ∷ given) rows) o
    (puts (mode.Entries entries.Next) e.key.sort parts.Key (mode.Entries entries.Key) e.key.span (key_next e.key.sort d e.is_key)
    (value_follows d (more_entries_then given es) (entry_rows given rows) e.value (more_entries_follow d es rows e.value given f)))

entries_follow : (d : ℕ) (es : List Expected) (rows : List Row) (given : List Entry) → Follows (mode.Entries entries.Colon) d es rows → Follows (mode.Entries entries.First) d (entries_then given es) (entry_rows given rows)
entries_follow d es rows [] f = skips (mode.Entries entries.First) s.CloseCurly (mode.Entries entries.Colon) (λ last. refl) f
entries_follow d es rows (e ∷ given) f =
    puts (mode.Entries entries.First) e.key.sort parts.Key (mode.Entries entries.Key) e.key.span (key_first e.key.sort d e.is_key)
    (value_follows d (more_entries_then given es) (entry_rows given rows) e.value (more_entries_follow d es rows e.value given f))

attributes_follow : (d : ℕ) (es : List Expected) (rows : List Row) (p : PartsMode) (o : Option (List Entry)) → TakesTail p → Follows (mode.Types types.Open) d es rows → Follows (mode.Parts p) d (attributes_then o (mark s.Colon ∷ es)) (attribute_rows o rows)
attributes_follow d es rows p None g f = skips (mode.Parts p) s.Colon (mode.Types types.Open) (λ last. g.colon) f
attributes_follow d es rows p (Some given) g f =
    skips (mode.Parts p) s.OpenCurly (mode.Entries entries.First) (λ last. g.curly)
    (entries_follow d (mark s.Colon ∷ es) rows given (skips (mode.Entries entries.Colon) s.Colon (mode.Types types.Open) (λ last. refl) f))

-- ---- types

more_types_follow : (d : ℕ) (es : List Expected) (rows : List Row) (k : TextKind) (to : Mode) (ts : List (Text k)) → takes k None s.Comma ≡ None → stops_outside k s.Comma ≡ Some (mode.Next k) → takes k None s.CloseRound ≡ None → stops_outside k s.CloseRound ≡ Some to
    → Follows to d es rows → Ends k d (more_types_then ts es) (type_rows ts rows)
more_types_follow d es rows k to [] a b e g f = ends k s.CloseRound to e g f
more_types_follow d es rows k to (t ∷ ts) a b e g f = ends k s.Comma (mode.Next k) a b (next_text k t (more_types_follow d es rows k to ts a b e g f))

operand_types_follow : (d : ℕ) (es : List Expected) (rows : List Row) (ts : List (Text kinds.OperandType)) → Follows (mode.Types types.Arrow) d es rows → Follows (mode.Types types.FirstOperand) d (types_then ts es) (type_rows ts rows)
unfolding StaysText
operand_types_follow d es rows [] f = skips (mode.Types types.FirstOperand) s.CloseRound (mode.Types types.Arrow) (λ last. refl) f
operand_types_follow d es rows (t ∷ ts) f =
    text_follows kinds.OperandType (mode.Types types.FirstOperand) t (first_operand t.first.sort t.is_text.0 d t.is_text.1)
    (more_types_follow d es rows kinds.OperandType (mode.Types types.Arrow) ts refl refl refl refl f)

result_types_follow : (d : ℕ) (es : List Expected) (rows : List Row) (ts : List (Text kinds.ResultType)) → Follows mode.After d es rows → Follows (mode.Types types.FirstResult) d (types_then ts es) (type_rows ts rows)
unfolding StaysText
result_types_follow d es rows [] f = skips (mode.Types types.FirstResult) s.CloseRound mode.After (λ last. refl) f
result_types_follow d es rows (t ∷ ts) f =
    text_follows kinds.ResultType (mode.Types types.FirstResult) t (first_result t.first.sort t.is_text.0 d t.is_text.1)
    (more_types_follow d es rows kinds.ResultType mode.After ts refl refl refl refl f)

-- ---- a type in no parentheses

-- the type's name was read, and is the text
bare_rest : (end d : ℕ) (es : List Expected) (rows : List Row) (g : Option Span) (bs : List Bracket) (t : Span) (xs : List Piece) → Follows mode.After d es rows → Matches (group_then g es) xs → parsing end mode.Bare d bs t xs ≡ Ok (row parts.OnlyResultType (bare_span t g) ∷ rows)
unfolding Matches
bare_rest end d es rows None bs t xs f h = bare_ends end d rows bs t xs (f.read end bs t xs h)
bare_rest end d es rows (Some at) bs t [] f h = absurd h
bare_rest end d es rows (Some at) bs t (x ∷ xs) f h =
    parsing_reads end mode.Bare d bs t x xs None (action.Join parts.OnlyResultType) mode.After rows (ap (bare_step (is_inside d)) h.0.0) (f.read end bs t xs h.1)
    ∙ ap (λ (y : Span). Ok (row parts.OnlyResultType (joined t y) ∷ rows)) h.0.1

bare_read : (end d : ℕ) (es : List Expected) (rows : List Row) (name : Piece) (g : Option Span) (bs : List Bracket) (t : Span) (xs : List Piece) → IsTypeName name.sort → Follows mode.After d es rows → Matches (token name.sort name.span ∷ group_then g es) xs → parsing end (mode.Types types.Results) d bs t xs ≡ Ok (row parts.OnlyResultType (bare_span name.span g) ∷ rows)
unfolding Matches
bare_read end d es rows name g bs t [] i f h = absurd h
bare_read end d es rows name g bs t (x ∷ xs) i f h =
    parsing_reads end (mode.Types types.Results) d bs t x xs None (action.Start nesting.Kept) mode.Bare (row parts.OnlyResultType (bare_span x.span g) ∷ rows)
    (ap (tree_step (mode.Types types.Results) (is_inside d) (innermost bs)) h.0.0 ∙ name_step name.sort (is_inside d) (innermost bs) i)
    (bare_rest end d es rows g [] x.span xs f h.1)
    ∙ ap (λ (y : Span). Ok (row parts.OnlyResultType (bare_span y g) ∷ rows)) h.0.1

types_follow : (d : ℕ) (es : List Expected) (rows : List Row) (rs : ResultTypes) → Follows mode.After d es rows → Follows (mode.Types types.Results) d (result_types_then rs es) (result_type_rows rs rows)
types_follow d es rows (bare name i g) f = record { read = λ end bs t xs h. bare_read end d es rows name g bs t xs i f h }
types_follow d es rows (listed ts) f = skips (mode.Types types.Results) s.OpenRound (mode.Types types.FirstResult) (λ last. refl) (result_types_follow d es rows ts f)

-- ---- behind the regions

location_follows : (d : ℕ) (es : List Expected) (rows : List Row) (o : Option (Text kinds.Location)) → ((m : Mode) → Rests m → Follows m d es rows) → Follows mode.After d (location_then o es) (maybe_text_row o rows)
location_follows d es rows None f = f mode.After after_rests
location_follows d es rows (Some l) f =
    skips mode.After s.Loc (mode.Types types.Location) (λ last. refl)
    (skips (mode.Types types.Location) s.OpenRound (mode.Next kinds.Location) (λ last. refl)
    (next_text kinds.Location l (ends kinds.Location s.CloseRound mode.Body refl refl (f mode.Body body_rests))))

tail_follows : (d : ℕ) (es : List Expected) (rows : List Row) (p : PartsMode) (t : Tail) → TakesTail p → ((m : Mode) → Rests m → Follows m d es rows) → Follows (mode.Parts p) d (tail_then t es) (tail_rows t rows)
tail_follows d es rows p t g f =
    let behind = location_follows d es rows t.location f in
    let typed = types_follow d (location_then t.location es) (maybe_text_row t.location rows) t.result_types behind in
    let given = result_types_then t.result_types (location_then t.location es) in
    let made = result_type_rows t.result_types (maybe_text_row t.location rows) in
    let arrow = skips (mode.Types types.Arrow) s.Arrow (mode.Types types.Results) (λ last. refl) typed in
    attributes_follow d (signature_then t.operand_types t.result_types t.location es) (signature_rows t.operand_types t.result_types t.location rows) p t.attributes g
    (skips (mode.Types types.Open) s.OpenRound (mode.Types types.FirstOperand) (λ last. refl) (operand_types_follow d (mark s.Arrow ∷ given) made t.operand_types arrow))

-- ---- blocks' heads

abbrev AfterArgument : Option (Text kinds.ArgumentLocation) → ℕ → List Expected → List Row → Type 0
AfterArgument None d es rows = Ends kinds.ArgumentType d es rows
AfterArgument (Some l) d es rows = Follows (mode.Label label.Located) d es rows

argument_follows : (d : ℕ) (es : List Expected) (rows : List Row) (t : Text kinds.ArgumentType) (o : Option (Text kinds.ArgumentLocation)) → AfterArgument o d es rows
    → Follows (mode.Label label.Argument) d (mark s.Colon ∷ text_then t (location_then o es)) (text_row t (maybe_text_row o rows))
argument_follows d es rows t None f = skips (mode.Label label.Argument) s.Colon (mode.Next kinds.ArgumentType) (λ last. refl) (next_text kinds.ArgumentType t f)
argument_follows d es rows t (Some l) f =
    skips (mode.Label label.Argument) s.Colon (mode.Next kinds.ArgumentType) (λ last. refl)
    (next_text kinds.ArgumentType t (ends kinds.ArgumentType s.Loc (mode.Label label.Location) refl refl
    (skips (mode.Label label.Location) s.OpenRound (mode.Next kinds.ArgumentLocation) (λ last. refl)
    (next_text kinds.ArgumentLocation l (ends kinds.ArgumentLocation s.CloseRound (mode.Label label.Located) refl refl f)))))

argument_comma : (d : ℕ) (es : List Expected) (rows : List Row) (o : Option (Text kinds.ArgumentLocation)) → Follows (mode.Label label.Next) d es rows → AfterArgument o d (mark s.Comma ∷ es) rows
argument_comma d es rows None f = ends kinds.ArgumentType s.Comma (mode.Label label.Next) refl refl f
argument_comma d es rows (Some l) f = skips (mode.Label label.Located) s.Comma (mode.Label label.Next) (λ last. refl) f

argument_round : (d : ℕ) (es : List Expected) (rows : List Row) (o : Option (Text kinds.ArgumentLocation)) → Follows (mode.Label label.End) d es rows → AfterArgument o d (mark s.CloseRound ∷ es) rows
argument_round d es rows None f = ends kinds.ArgumentType s.CloseRound (mode.Label label.End) refl refl f
argument_round d es rows (Some l) f = skips (mode.Label label.Located) s.CloseRound (mode.Label label.End) (λ last. refl) f

more_arguments_follow : (d : ℕ) (es : List Expected) (rows : List Row) (o : Option (Text kinds.ArgumentLocation)) (args : List Argument) → Follows mode.Body d es rows → AfterArgument o d (more_arguments_then args es) (argument_rows args rows)
more_arguments_follow d es rows o [] f = argument_round d (mark s.Colon ∷ es) rows o (skips (mode.Label label.End) s.Colon mode.Body (λ last. refl) f)
more_arguments_follow d es rows o (a ∷ args) f =
    argument_comma d (argument_then a (more_arguments_then args es)) (argument_rows (a ∷ args) rows) o
    (puts (mode.Label label.Next) s.Value parts.Argument (mode.Label label.Argument) a.name (λ last. refl)
    (argument_follows d (more_arguments_then args es) (argument_rows args rows) a.its_type a.location (more_arguments_follow d es rows a.location args f)))

arguments_follow : (d : ℕ) (es : List Expected) (rows : List Row) (args : List Argument) → Follows mode.Body d es rows → Follows (mode.Label label.First) d (arguments_then args es) (argument_rows args rows)
arguments_follow d es rows [] f = skips (mode.Label label.First) s.CloseRound (mode.Label label.End) (λ last. refl) (skips (mode.Label label.End) s.Colon mode.Body (λ last. refl) f)
arguments_follow d es rows (a ∷ args) f =
    puts (mode.Label label.First) s.Value parts.Argument (mode.Label label.Argument) a.name (λ last. refl)
    (argument_follows d (more_arguments_then args es) (argument_rows args rows) a.its_type a.location (more_arguments_follow d es rows a.location args f))

signed_follows : (d : ℕ) (es : List Expected) (rows : List Row) (o : Option (List Argument)) → Follows mode.Body d es rows → Follows (mode.Label label.Behind) d (signed_then o es) (signed_rows o rows)
signed_follows d es rows None f = skips (mode.Label label.Behind) s.Colon mode.Body (λ last. refl) f
signed_follows d es rows (Some args) f = skips (mode.Label label.Behind) s.OpenRound (mode.Label label.First) (λ last. refl) (arguments_follow d es rows args f)

label_follows : (d : ℕ) (es : List Expected) (rows : List Row) (m : Mode) (l : Label) → TakesBody m → Follows mode.Body (suc d) es rows → Follows m (suc d) (label_then l es) (label_rows l rows)
label_follows d es rows m l b f = puts m s.Block parts.Label (mode.Label label.Behind) l.name (b.label d) (signed_follows (suc d) es rows l.arguments f)

-- ---- operations

op_follows : (d : ℕ) (es : List Expected) (rows : List Row) (m : Mode) (h : Head) → TakesBody m → ((p : PartsMode) → TakesRegions p → Follows (mode.Parts p) d es rows)
    → Follows m d (results_then h.results (token s.Quoted h.name ∷ mark s.OpenRound ∷ uses_then h.operands (successors_then h.successors (properties_then h.properties es))))
    (result_rows h.results (row parts.Name h.name ∷ use_rows h.operands (successor_rows h.successors (maybe_row parts.Properties h.properties rows))))
op_follows d es rows m h b f =
    let one_es = properties_then h.properties es in
    let one_rows = maybe_row parts.Properties h.properties rows in
    let two_es = successors_then h.successors one_es in
    let two_rows = successor_rows h.successors one_rows in
    results_follow d (mark s.OpenRound ∷ uses_then h.operands two_es) (use_rows h.operands two_rows) m h.name h.results b
    (skips (mode.Operands operands.Open) s.OpenRound (mode.Operands operands.First) (λ last. refl)
    (uses_follow d two_es two_rows h.operands
    (successors_follow d one_es one_rows h.successors (λ p g. properties_follow d es rows p h.properties g f))))

mutual
  unfolding body_then body_rows

  body_follows : (b : Body) (d : ℕ) (es : List Expected) (rows : List Row) (m : Mode) → Rests m → ((q : Mode) → Rests q → Follows q (suc d) es rows) → Follows m (suc d) (body_then b es) (body_rows b rows)
  body_follows done d es rows m r f = f m r
  body_follows (op h rs t b) d es rows m r f =
      op_follows (suc d) (regions_then rs (tail_then t (body_then b es))) (region_rows rs (tail_rows t (body_rows b rows))) m h r.takes
      (λ p g. regions_follow rs (suc d) (tail_then t (body_then b es)) (tail_rows t (body_rows b rows)) p g
      (λ q i. tail_follows (suc d) (body_then b es) (body_rows b rows) q t i (λ n j. body_follows b d es rows n j f)))
  body_follows (block l b) d es rows m r f = label_follows d (body_then b es) (body_rows b rows) m l r.takes (body_follows b d es rows mode.Body body_rests f)

  regions_follow : (rs : Regions) (d : ℕ) (es : List Expected) (rows : List Row) (p : PartsMode) → TakesRegions p → ((q : PartsMode) → TakesTail q → Follows (mode.Parts q) d es rows) → Follows (mode.Parts p) d (regions_then rs es) (region_rows rs rows)
  regions_follow none d es rows p g f = f p g.tail
  regions_follow (one from b to rs) d es rows p g f =
      skips (mode.Parts p) s.OpenRound (mode.Parts pieces.NextRegion) (λ last. g.round)
      (opens from (body_follows b d (token s.CloseCurly to ∷ more_regions_then rs es) (row parts.Close to ∷ region_rows rs rows) mode.Body body_rests
      (λ q r. shuts q to (r.takes.close d) (more_regions_follow rs d es rows f))))

  more_regions_follow : (rs : Regions) (d : ℕ) (es : List Expected) (rows : List Row) → ((q : PartsMode) → TakesTail q → Follows (mode.Parts q) d es rows) → Follows (mode.Parts pieces.Region) d (more_regions_then rs es) (region_rows rs rows)
  more_regions_follow none d es rows f = skips (mode.Parts pieces.Region) s.CloseRound (mode.Parts pieces.Regions) (λ last. refl) (f pieces.Regions regions_take)
  more_regions_follow (one from b to rs) d es rows f =
      skips (mode.Parts pieces.Region) s.Comma (mode.Parts pieces.NextRegion) (λ last. refl)
      (opens from (body_follows b d (token s.CloseCurly to ∷ more_regions_then rs es) (row parts.Close to ∷ region_rows rs rows) mode.Body body_rests
      (λ q r. shuts q to (r.takes.close d) (more_regions_follow rs d es rows f))))

end_read : (end : ℕ) (m : Mode) (bs : List Bracket) (t : Span) (xs : List Piece) → Rests m → Matches [] xs → parsing end m zero bs t xs ≡ Ok []
unfolding Matches
end_read end m bs t [] r h = parsing_done end m zero bs t r.whole ∙ ap (λ (o : Option Row). Ok (one_row o)) (r.no_row t)
end_read end m bs t (x ∷ xs) r h = absurd h

end_follows : (m : Mode) → Rests m → Follows m zero [] []
end_follows m r = record { read = λ end bs t xs h. end_read end m bs t xs r h }

-- an operation outside all regions
top_op : (h : Head) (rs : Regions) (t : Tail) (b : Body) (m : Mode) → TakesBody m → ((n : Mode) → Rests n → Follows n zero (body_then b []) (body_rows b [])) → Follows m zero (body_then (op h rs t b) []) (body_rows (op h rs t b) [])
unfolding body_then body_rows
top_op h rs t b m g f =
    op_follows zero (regions_then rs (tail_then t (body_then b []))) (region_rows rs (tail_rows t (body_rows b []))) m h g
    (λ p i. regions_follow rs zero (tail_then t (body_then b [])) (tail_rows t (body_rows b [])) p i
    (λ q j. tail_follows zero (body_then b []) (body_rows b []) q t j f))

top_follows : (b : Body) (m : Mode) → HasNoBlocks b → Rests m → Follows m zero (body_then b []) (body_rows b [])
unfolding body_then body_rows
top_follows done m h r = end_follows m r
top_follows (op h rs t b) m free r = top_op h rs t b m r.takes (λ n j. top_follows b n free j)
top_follows (block l b) m h r = absurd h

whole_follows : (b : Body) → IsWholeText b → Follows mode.Start zero (body_then b []) (body_rows b [])
whole_follows done h = absurd h
whole_follows (op h rs t b) free = top_op h rs t b mode.Start start_takes (λ n j. top_follows b n free j)
whole_follows (block l b) h = absurd h

pub tree_read : (end : ℕ) (xs : List Piece) (b : Body) → IsWholeText b → Matches (body_then b []) xs → parsing end mode.Start 0 [] (span 0 0) xs ≡ Ok (body_rows b [])
tree_read end xs b h m = (whole_follows b h).read end [] (span 0 0) xs m
