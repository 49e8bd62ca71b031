-- Tokens that are read spell a tree.
use Rattle.std.proofs.Common.{◌≡◌, ℕ, zero, suc, Bool, false, List, [], ◌∷◌, length, Option, Some, None, Result, Ok, Err, refl, sym, ap, subst, ◌∙◌, arith}
use Rattle.std.specs.Bool.{⊤}
use Rattle.ir_text_tree.specs.declared.row.Row.{Row}
use Rattle.ir_text_tree.specs.declared.row.Span.{Span}
use Rattle.ir_text_tree.specs.declared.sort.Sort.{Sort}
use Rattle.ir_text_tree.specs.declared.sort.Sort.TheVariants as s
use Rattle.ir_text_tree.specs.declared.sort.Piece.{Piece}
use Rattle.ir_text_tree.specs.declared.fault.Fault.{Fault}
use Rattle.ir_text_tree.specs.declared.text_step.Bracket.{Bracket}
use Rattle.ir_text_tree.specs.declared.text_step.TextKind.{TextKind}
use Rattle.ir_text_tree.specs.declared.text_step.TextKind.TheVariants as kinds
use Rattle.ir_text_tree.specs.declared.text_step.Nesting.{Nesting}
use Rattle.ir_text_tree.specs.declared.tree_step.ResultsMode.{ResultsMode}
use Rattle.ir_text_tree.specs.declared.tree_step.ResultsMode.TheVariants as results
use Rattle.ir_text_tree.specs.declared.tree_step.OperandsMode.{OperandsMode}
use Rattle.ir_text_tree.specs.declared.tree_step.OperandsMode.TheVariants as operands
use Rattle.ir_text_tree.specs.declared.tree_step.PartsMode.{PartsMode}
use Rattle.ir_text_tree.specs.declared.tree_step.PartsMode.TheVariants as pieces
use Rattle.ir_text_tree.specs.declared.tree_step.EntriesMode.{EntriesMode}
use Rattle.ir_text_tree.specs.declared.tree_step.EntriesMode.TheVariants as entries
use Rattle.ir_text_tree.specs.declared.tree_step.TypesMode.{TypesMode}
use Rattle.ir_text_tree.specs.declared.tree_step.TypesMode.TheVariants as types
use Rattle.ir_text_tree.specs.declared.tree_step.LabelMode.{LabelMode}
use Rattle.ir_text_tree.specs.declared.tree_step.LabelMode.TheVariants as label
use Rattle.ir_text_tree.specs.declared.tree_step.Mode.{Mode}
use Rattle.ir_text_tree.specs.declared.tree_step.Mode.TheVariants as mode
use Rattle.ir_text_tree.specs.declared.tree_step.Step.{Step}
use Rattle.ir_text_tree.specs.declared.tree_step.Step.TheVariants.{Go, Bad}
use Rattle.ir_text_tree.specs.TextSteps.{takes, innermost}
use Rattle.ir_text_tree.specs.TreeSteps.{results_step, operands_step, parts_step, entries_step, label_step, begun, types_step, stops_outside, stops, text_end, taken, body_step, after_step, behind_type, bare_step, tree_step, is_whole}
use Rattle.ir_text_tree.specs.Parsings.{is_inside, ended_row, token_row, text_behind, brackets_behind, depth_behind, parsing}
use Rattle.ir_text_tree.specs.Rows.{span}
use Rattle.ir_text_tree.specs.Trees.{Expected, mark, token, Matches, StaysText, Text, pieces_then, text_then, ResultName, Use, IsKey, Entry, ResultTypes, bare, listed, Head, Tail, Argument, Label, Body, Regions, done, op, block, none, one, HasNoBlocks, IsWholeText, count_then, result_then, more_results_then, index_then, use_then, more_uses_then, uses_then, more_successors_then, successors_then, properties_then, value_then, entry_then, more_entries_then, entries_then, attributes_then, more_types_then, types_then, group_then, result_types_then, location_then, argument_then, more_arguments_then, arguments_then, signed_then, tail_then, body_then, regions_then, more_regions_then}
use Rattle.ir_text_tree.specs.Reading.{parsing_goes, parsing_stops, parsing_breaks_off, rest_read}

-- ---- what is still to come

-- Behind an open region: its end, the regions behind it, the rest of its operation, and what stands behind that.
record Level : Type 0 where
  close : Span
  regions : Regions
  tail : Tail
  body : Body

abbrev ending : List Level → List Expected
ending [] = []
ending (l ∷ ls) = token s.CloseCurly l.close ∷ more_regions_then l.regions (tail_then l.tail (body_then l.body (ending ls)))

-- outside all regions no block has a head
abbrev IsOuter : List Level → Body → Type 0
IsOuter [] b = HasNoBlocks b
IsOuter (l ∷ ls) b = IsOuter ls l.body

-- in so many regions, what stands behind an operation
record Around (d : ℕ) : Type 0 where
  body : Body
  levels : List Level
  size : length levels ≡ d
  outer : IsOuter levels body

abbrev around_then : {d : ℕ} → Around d → List Expected
around_then a = body_then a.body (ending a.levels)

-- an operation from its location on
record Rest (d : ℕ) : Type 0 where
  location : Option (Text kinds.Location)
  around : Around d

abbrev rest_then : {d : ℕ} → Rest d → List Expected
rest_then r = location_then r.location (around_then r.around)

-- from its result types on
record Typed (d : ℕ) : Type 0 where
  result_types : ResultTypes
  rest : Rest d

abbrev typed_then : {d : ℕ} → Typed d → List Expected
typed_then y = result_types_then y.result_types (rest_then y.rest)

-- from its types on
record Signed (d : ℕ) : Type 0 where
  operand_types : List (Text kinds.OperandType)
  typed : Typed d

abbrev signed_op_then : {d : ℕ} → Signed d → List Expected
signed_op_then y = mark s.OpenRound ∷ types_then y.operand_types (mark s.Arrow ∷ typed_then y.typed)

-- from its attributes on
record Attributed (d : ℕ) : Type 0 where
  attributes : Option (List Entry)
  signed : Signed d

abbrev attributed_then : {d : ℕ} → Attributed d → List Expected
attributed_then y = attributes_then y.attributes (mark s.Colon ∷ signed_op_then y.signed)

-- from its regions on
record Regioned (d : ℕ) : Type 0 where
  regions : Regions
  attributed : Attributed d

abbrev regioned_then : {d : ℕ} → Regioned d → List Expected
regioned_then y = regions_then y.regions (attributed_then y.attributed)

-- from its properties on
record Propertied (d : ℕ) : Type 0 where
  properties : Option Span
  regioned : Regioned d

abbrev propertied_then : {d : ℕ} → Propertied d → List Expected
propertied_then y = properties_then y.properties (regioned_then y.regioned)

-- from its successors on
record Succeeded (d : ℕ) : Type 0 where
  successors : List Span
  propertied : Propertied d

abbrev succeeded_then : {d : ℕ} → Succeeded d → List Expected
succeeded_then y = successors_then y.successors (propertied_then y.propertied)

-- from its operands on
record Operated (d : ℕ) : Type 0 where
  operands : List Use
  succeeded : Succeeded d

abbrev operated_then : {d : ℕ} → Operated d → List Expected
operated_then y = uses_then y.operands (succeeded_then y.succeeded)

-- from its name on
record Named (d : ℕ) : Type 0 where
  name : Span
  operated : Operated d

abbrev named_then : {d : ℕ} → Named d → List Expected
named_then y = token s.Quoted y.name ∷ mark s.OpenRound ∷ operated_then y.operated

-- behind a text of a kind
abbrev Behind : TextKind → ℕ → Type 0
Behind kinds.Value d = List Entry × Signed d
Behind kinds.OperandType d = List (Text kinds.OperandType) × Typed d
Behind kinds.ResultType d = List (Text kinds.ResultType) × Rest d
Behind kinds.Location d = Around d
Behind kinds.ArgumentType d = Option (Text kinds.ArgumentLocation) × List Argument × Around d
Behind kinds.ArgumentLocation d = List Argument × Around d

abbrev behind_then : (k : TextKind) (d : ℕ) → Behind k d → List Expected
behind_then kinds.Value d c = more_entries_then c.0 (mark s.Colon ∷ signed_op_then c.1)
behind_then kinds.OperandType d c = more_types_then c.0 (mark s.Arrow ∷ typed_then c.1)
behind_then kinds.ResultType d c = more_types_then c.0 (rest_then c.1)
behind_then kinds.Location d c = mark s.CloseRound ∷ around_then c
behind_then kinds.ArgumentType d c = location_then c.0 (more_arguments_then c.1 (around_then c.2))
behind_then kinds.ArgumentLocation d c = mark s.CloseRound ∷ more_arguments_then c.0 (around_then c.1)

-- ---- what the tokens are, from a mode on

abbrev InResults : ResultsMode → ℕ → List Piece → Type 0
InResults results.Behind d xs = (c : Option Span) × (rs : List ResultName) × (n : Named d) × Matches (count_then c (more_results_then rs (mark s.Equals ∷ named_then n))) xs
InResults results.Count d xs = (c : Span) × (rs : List ResultName) × (n : Named d) × Matches (token s.Word c ∷ more_results_then rs (mark s.Equals ∷ named_then n)) xs
InResults results.Counted d xs = (rs : List ResultName) × (n : Named d) × Matches (more_results_then rs (mark s.Equals ∷ named_then n)) xs
InResults results.Next d xs = (r : ResultName) × (rs : List ResultName) × (n : Named d) × Matches (result_then r (more_results_then rs (mark s.Equals ∷ named_then n))) xs
InResults results.Name d xs = (n : Named d) × Matches (named_then n) xs

abbrev InOperands : OperandsMode → ℕ → List Piece → Type 0
InOperands operands.Open d xs = (y : Operated d) × Matches (mark s.OpenRound ∷ operated_then y) xs
InOperands operands.First d xs = (y : Operated d) × Matches (operated_then y) xs
InOperands operands.Behind d xs = (i : Option Span) × (us : List Use) × (y : Succeeded d) × Matches (index_then i (more_uses_then us (mark s.CloseRound ∷ succeeded_then y))) xs
InOperands operands.Indexed d xs = (us : List Use) × (y : Succeeded d) × Matches (more_uses_then us (mark s.CloseRound ∷ succeeded_then y)) xs
InOperands operands.Next d xs = (u : Use) × (us : List Use) × (y : Succeeded d) × Matches (use_then u (more_uses_then us (mark s.CloseRound ∷ succeeded_then y))) xs

abbrev InParts : PartsMode → ℕ → List Piece → Type 0
InParts pieces.Operands d xs = (y : Succeeded d) × Matches (succeeded_then y) xs
InParts pieces.NextSuccessor d xs = (b : Span) × (bs : List Span) × (y : Propertied d) × Matches (token s.Block b ∷ more_successors_then bs (propertied_then y)) xs
InParts pieces.Successor d xs = (bs : List Span) × (y : Propertied d) × Matches (more_successors_then bs (propertied_then y)) xs
InParts pieces.Successors d xs = (y : Propertied d) × Matches (propertied_then y) xs
InParts pieces.Properties d xs = (y : Regioned d) × Matches (regioned_then y) xs
InParts pieces.NextRegion d xs = (from : Span) × (b : Body) × (to : Span) × (rs : Regions) × (y : Attributed d) × Matches (token s.OpenCurly from ∷ body_then b (token s.CloseCurly to ∷ more_regions_then rs (attributed_then y))) xs
InParts pieces.Region d xs = (rs : Regions) × (y : Attributed d) × Matches (more_regions_then rs (attributed_then y)) xs
InParts pieces.Regions d xs = (y : Attributed d) × Matches (attributed_then y) xs

abbrev InEntries : EntriesMode → ℕ → List Piece → Type 0
InEntries entries.First d xs = (es : List Entry) × (y : Signed d) × Matches (entries_then es (mark s.Colon ∷ signed_op_then y)) xs
InEntries entries.Next d xs = (e : Entry) × (es : List Entry) × (y : Signed d) × Matches (entry_then e (more_entries_then es (mark s.Colon ∷ signed_op_then y))) xs
InEntries entries.Key d xs = (v : Option (Text kinds.Value)) × (es : List Entry) × (y : Signed d) × Matches (value_then v (more_entries_then es (mark s.Colon ∷ signed_op_then y))) xs
InEntries entries.Colon d xs = (y : Signed d) × Matches (mark s.Colon ∷ signed_op_then y) xs

abbrev InTypes : TypesMode → ℕ → List Piece → Type 0
InTypes types.Open d xs = (y : Signed d) × Matches (signed_op_then y) xs
InTypes types.FirstOperand d xs = (ts : List (Text kinds.OperandType)) × (y : Typed d) × Matches (types_then ts (mark s.Arrow ∷ typed_then y)) xs
InTypes types.Arrow d xs = (y : Typed d) × Matches (mark s.Arrow ∷ typed_then y) xs
InTypes types.Results d xs = (y : Typed d) × Matches (typed_then y) xs
InTypes types.FirstResult d xs = (ts : List (Text kinds.ResultType)) × (y : Rest d) × Matches (types_then ts (rest_then y)) xs
InTypes types.Location d xs = (l : Text kinds.Location) × (a : Around d) × Matches (mark s.OpenRound ∷ text_then l (mark s.CloseRound ∷ around_then a)) xs

abbrev InLabel : LabelMode → ℕ → List Piece → Type 0
InLabel label.Behind d xs = (o : Option (List Argument)) × (a : Around d) × Matches (signed_then o (around_then a)) xs
InLabel label.First d xs = (args : List Argument) × (a : Around d) × Matches (arguments_then args (around_then a)) xs
InLabel label.Next d xs = (g : Argument) × (args : List Argument) × (a : Around d) × Matches (argument_then g (more_arguments_then args (around_then a))) xs
InLabel label.Argument d xs = (t : Text kinds.ArgumentType) × (o : Option (Text kinds.ArgumentLocation)) × (args : List Argument) × (a : Around d) × Matches (mark s.Colon ∷ text_then t (location_then o (more_arguments_then args (around_then a)))) xs
InLabel label.Location d xs = (l : Text kinds.ArgumentLocation) × (args : List Argument) × (a : Around d) × Matches (mark s.OpenRound ∷ text_then l (mark s.CloseRound ∷ more_arguments_then args (around_then a))) xs
InLabel label.Located d xs = (args : List Argument) × (a : Around d) × Matches (more_arguments_then args (around_then a)) xs
InLabel label.End d xs = (a : Around d) × Matches (mark s.Colon ∷ around_then a) xs

abbrev InBody : ℕ → List Piece → Type 0
InBody d xs = (a : Around d) × Matches (around_then a) xs

abbrev InAfter : ℕ → List Piece → Type 0
InAfter d xs = (r : Rest d) × Matches (rest_then r) xs

abbrev InBare : ℕ → List Piece → Type 0
InBare d xs = (g : Option Span) × (r : Rest d) × Matches (group_then g (rest_then r)) xs

abbrev InNext : TextKind → ℕ → List Piece → Type 0
InNext k d xs = (t : Text k) × (c : Behind k d) × Matches (text_then t (behind_then k d c)) xs

abbrev InText : TextKind → ℕ → List Bracket → List Piece → Type 0
InText k d bs xs = (ps : List Piece) × StaysText k bs ps × (c : Behind k d) × Matches (pieces_then ps (behind_then k d c)) xs

-- the beginning is a case of its own
abbrev Remains : Mode → ℕ → List Bracket → List Piece → Type 0
Remains mode.Start d bs xs = ⊤
Remains mode.Body d bs xs = InBody d xs
Remains mode.After d bs xs = InAfter d xs
Remains mode.Bare d bs xs = InBare d xs
Remains (mode.Results m) d bs xs = InResults m d xs
Remains (mode.Operands m) d bs xs = InOperands m d xs
Remains (mode.Parts m) d bs xs = InParts m d xs
Remains (mode.Entries m) d bs xs = InEntries m d xs
Remains (mode.Types m) d bs xs = InTypes m d xs
Remains (mode.Label m) d bs xs = InLabel m d xs
Remains (mode.Next k) d bs xs = InNext k d xs
Remains (mode.Text k) d bs xs = InText k d bs xs

-- If the tokens behind one are what remains there, then R.
abbrev LeadsBack : Step → ℕ → List Bracket → List Piece → Type 0 → Type 0
LeadsBack (Go ended a to) d bs ps R = Remains to (depth_behind a d) (brackets_behind a bs) ps → R
LeadsBack Bad d bs ps R = ⊤

abbrev piece : Sort → Span → Piece
piece x at = record { sort = x; span = at }

-- ---- one token more in front

results_back : (m : ResultsMode) (x : Sort) (d : ℕ) (bs : List Bracket) (at : Span) (ps : List Piece) → LeadsBack (results_step m x) d bs ps (InResults m d (piece x at ∷ ps))
unfolding Matches
results_back results.Behind s.Colon d bs at ps = λ h. (Some h.0, h.1, h.2, (refl, h.3))
results_back results.Behind s.Comma d bs at ps = λ h. (None, h.0 ∷ h.1, h.2, (refl, h.3))
results_back results.Behind s.Equals d bs at ps = λ h. (None, [], h.0, (refl, h.1))
results_back results.Count s.Word d bs at ps = λ h. (at, h.0, h.1, ((refl, refl), h.2))
results_back results.Counted s.Comma d bs at ps = λ h. (h.0 ∷ h.1, h.2, (refl, h.3))
results_back results.Counted s.Equals d bs at ps = λ h. ([], h.0, (refl, h.1))
results_back results.Next s.Value d bs at ps = λ h. (record { name = at; count = h.0 }, h.1, h.2, ((refl, refl), h.3))
results_back results.Name s.Quoted d bs at ps = λ h. (record { name = at; operated = h.0 }, ((refl, refl), h.1))
results_back _ _ d bs at ps = tt

operands_back : (m : OperandsMode) (x : Sort) (d : ℕ) (bs : List Bracket) (at : Span) (ps : List Piece) → LeadsBack (operands_step m x) d bs ps (InOperands m d (piece x at ∷ ps))
unfolding Matches
operands_back operands.Open s.OpenRound d bs at ps = λ h. (h.0, (refl, h.1))
operands_back operands.First s.Value d bs at ps = λ h. (record { operands = record { name = at; index = h.0 } ∷ h.1; succeeded = h.2 }, ((refl, refl), h.3))
operands_back operands.First s.CloseRound d bs at ps = λ h. (record { operands = []; succeeded = h.0 }, (refl, h.1))
operands_back operands.Behind s.Attribute d bs at ps = λ h. (Some at, h.0, h.1, ((refl, refl), h.2))
operands_back operands.Behind s.Comma d bs at ps = λ h. (None, h.0 ∷ h.1, h.2, (refl, h.3))
operands_back operands.Behind s.CloseRound d bs at ps = λ h. (None, [], h.0, (refl, h.1))
operands_back operands.Indexed s.Comma d bs at ps = λ h. (h.0 ∷ h.1, h.2, (refl, h.3))
operands_back operands.Indexed s.CloseRound d bs at ps = λ h. ([], h.0, (refl, h.1))
operands_back operands.Next s.Value d bs at ps = λ h. (record { name = at; index = h.0 }, h.1, h.2, ((refl, refl), h.3))
operands_back _ _ d bs at ps = tt

-- a region's body, behind which its region ends
region_back : (d : ℕ) (at : Span) (ps : List Piece) (b : Body) (levels : List Level) → length levels ≡ suc d → IsOuter levels b → Matches (body_then b (ending levels)) ps → InParts pieces.NextRegion d (piece s.OpenCurly at ∷ ps)
unfolding Matches
region_back d at ps b [] size outer h = absurd (omega (arith, size))
region_back d at ps b (l ∷ ls) size outer h =
    let less : length ls ≡ d = omega (arith, size) in
    let around : Around d = record { body = l.body; levels = ls; size = less; outer = outer } in
    let rest : Rest d = record { location = l.tail.location; around = around } in
    let typed : Typed d = record { result_types = l.tail.result_types; rest = rest } in
    let signed : Signed d = record { operand_types = l.tail.operand_types; typed = typed } in
    (at, b, l.close, l.regions, record { attributes = l.tail.attributes; signed = signed }, ((refl, refl), h))

-- from one of four places on
colon_attributes : {d : ℕ} → Signed d → Attributed d
colon_attributes y = record { attributes = None; signed = y }

curly_attributes : {d : ℕ} → List Entry → Signed d → Attributed d
curly_attributes es y = record { attributes = Some es; signed = y }

no_regions : {d : ℕ} → Attributed d → Regioned d
no_regions y = record { regions = none; attributed = y }

some_regions : {d : ℕ} → Span → Body → Span → Regions → Attributed d → Regioned d
some_regions from b to rs y = record { regions = one from b to rs; attributed = y }

no_properties : {d : ℕ} → Regioned d → Propertied d
no_properties y = record { properties = None; regioned = y }

some_properties : {d : ℕ} → Span → Regioned d → Propertied d
some_properties at y = record { properties = Some at; regioned = y }

no_successors : {d : ℕ} → Propertied d → Succeeded d
no_successors y = record { successors = []; propertied = y }

some_successors : {d : ℕ} → List Span → Propertied d → Succeeded d
some_successors bs y = record { successors = bs; propertied = y }

parts_back : (m : PartsMode) (x : Sort) (d : ℕ) (bs : List Bracket) (at : Span) (ps : List Piece) → LeadsBack (parts_step m x) d bs ps (InParts m d (piece x at ∷ ps))
unfolding Matches body_then colon_attributes curly_attributes no_regions some_regions no_properties some_properties no_successors some_successors
parts_back pieces.Operands s.OpenSquare d bs at ps = λ h. (some_successors (h.0 ∷ h.1) h.2, (refl, h.3))
parts_back pieces.Operands s.Group d bs at ps = λ h. (no_successors (some_properties at h.0), ((refl, refl), h.1))
parts_back pieces.Operands s.OpenRound d bs at ps = λ h. (no_successors (no_properties (some_regions h.0 h.1 h.2 h.3 h.4)), (refl, h.5))
parts_back pieces.Operands s.OpenCurly d bs at ps = λ h. (no_successors (no_properties (no_regions (curly_attributes h.0 h.1))), (refl, h.2))
parts_back pieces.Operands s.Colon d bs at ps = λ h. (no_successors (no_properties (no_regions (colon_attributes h.0))), (refl, h.1))
parts_back pieces.NextSuccessor s.Block d bs at ps = λ h. (at, h.0, h.1, ((refl, refl), h.2))
parts_back pieces.Successor s.Comma d bs at ps = λ h. (h.0 ∷ h.1, h.2, (refl, h.3))
parts_back pieces.Successor s.CloseSquare d bs at ps = λ h. ([], h.0, (refl, h.1))
parts_back pieces.Successors s.Group d bs at ps = λ h. (some_properties at h.0, ((refl, refl), h.1))
parts_back pieces.Successors s.OpenRound d bs at ps = λ h. (no_properties (some_regions h.0 h.1 h.2 h.3 h.4), (refl, h.5))
parts_back pieces.Successors s.OpenCurly d bs at ps = λ h. (no_properties (no_regions (curly_attributes h.0 h.1)), (refl, h.2))
parts_back pieces.Successors s.Colon d bs at ps = λ h. (no_properties (no_regions (colon_attributes h.0)), (refl, h.1))
parts_back pieces.Properties s.OpenRound d bs at ps = λ h. (some_regions h.0 h.1 h.2 h.3 h.4, (refl, h.5))
parts_back pieces.Properties s.OpenCurly d bs at ps = λ h. (no_regions (curly_attributes h.0 h.1), (refl, h.2))
parts_back pieces.Properties s.Colon d bs at ps = λ h. (no_regions (colon_attributes h.0), (refl, h.1))
parts_back pieces.NextRegion s.OpenCurly d bs at ps = λ h. region_back d at ps h.0.body h.0.levels h.0.size h.0.outer h.1
parts_back pieces.Region s.Comma d bs at ps = λ h. (one h.0 h.1 h.2 h.3, h.4, (refl, h.5))
parts_back pieces.Region s.CloseRound d bs at ps = λ h. (none, h.0, (refl, h.1))
parts_back pieces.Regions s.OpenCurly d bs at ps = λ h. (curly_attributes h.0 h.1, (refl, h.2))
parts_back pieces.Regions s.Colon d bs at ps = λ h. (colon_attributes h.0, (refl, h.1))
parts_back _ _ d bs at ps = tt

entry_back : (x : Sort) → IsKey x → (at : Span) → Option (Text kinds.Value) → Entry
entry_back x i at v = record { key = piece x at; is_key = i; value = v }

entries_back : (m : EntriesMode) (x : Sort) (d : ℕ) (bs : List Bracket) (at : Span) (ps : List Piece) → LeadsBack (entries_step m x) d bs ps (InEntries m d (piece x at ∷ ps))
unfolding Matches entry_back
entries_back entries.First s.Word d bs at ps = λ h. (entry_back s.Word tt at h.0 ∷ h.1, h.2, ((refl, refl), h.3))
entries_back entries.First s.Loc d bs at ps = λ h. (entry_back s.Loc tt at h.0 ∷ h.1, h.2, ((refl, refl), h.3))
entries_back entries.First s.Quoted d bs at ps = λ h. (entry_back s.Quoted tt at h.0 ∷ h.1, h.2, ((refl, refl), h.3))
entries_back entries.First s.CloseCurly d bs at ps = λ h. ([], h.0, (refl, h.1))
entries_back entries.Next s.Word d bs at ps = λ h. (entry_back s.Word tt at h.0, h.1, h.2, ((refl, refl), h.3))
entries_back entries.Next s.Loc d bs at ps = λ h. (entry_back s.Loc tt at h.0, h.1, h.2, ((refl, refl), h.3))
entries_back entries.Next s.Quoted d bs at ps = λ h. (entry_back s.Quoted tt at h.0, h.1, h.2, ((refl, refl), h.3))
entries_back entries.Key s.Equals d bs at ps = λ h. (Some h.0, h.1.0, h.1.1, (refl, h.2))
entries_back entries.Key s.Comma d bs at ps = λ h. (None, h.0 ∷ h.1, h.2, (refl, h.3))
entries_back entries.Key s.CloseCurly d bs at ps = λ h. (None, [], h.0, (refl, h.1))
entries_back entries.Colon s.Colon d bs at ps = λ h. (h.0, (refl, h.1))
entries_back _ _ d bs at ps = tt

label_back : (m : LabelMode) (x : Sort) (d : ℕ) (bs : List Bracket) (at : Span) (ps : List Piece) → LeadsBack (label_step m x) d bs ps (InLabel m d (piece x at ∷ ps))
unfolding Matches
label_back label.Behind s.OpenRound d bs at ps = λ h. (Some h.0, h.1, (refl, h.2))
label_back label.Behind s.Colon d bs at ps = λ h. (None, h.0, (refl, h.1))
label_back label.First s.Value d bs at ps = λ h. (record { name = at; its_type = h.0; location = h.1 } ∷ h.2, h.3, ((refl, refl), h.4))
label_back label.First s.CloseRound d bs at ps = λ h. ([], h.0, (refl, h.1))
label_back label.Next s.Value d bs at ps = λ h. (record { name = at; its_type = h.0; location = h.1 }, h.2, h.3, ((refl, refl), h.4))
label_back label.Argument s.Colon d bs at ps = λ h. (h.0, h.1.0, h.1.1, h.1.2, (refl, h.2))
label_back label.Location s.OpenRound d bs at ps = λ h. (h.0, h.1.0, h.1.1, (refl, h.2))
label_back label.Located s.Comma d bs at ps = λ h. (h.0 ∷ h.1, h.2, (refl, h.3))
label_back label.Located s.CloseRound d bs at ps = λ h. ([], h.0, (refl, h.1))
label_back label.End s.Colon d bs at ps = λ h. (h.0, (refl, h.1))
label_back _ _ d bs at ps = tt

-- the first token of a text
begun_back : (k : TextKind) (o : Option Nesting) (x : Sort) (d : ℕ) (bs : List Bracket) (at : Span) (ps : List Piece) (R : Type 0) → takes k None x ≡ o → ((t : Text k) (c : Behind k d) → Matches (text_then t (behind_then k d c)) (piece x at ∷ ps) → R) → LeadsBack (begun k o) d bs ps R
unfolding Matches StaysText
begun_back k (Some n) x d bs at ps R e make = λ h. make (record { first = piece x at; others = h.0; is_text = (n, e, h.1) }) h.2 ((refl, refl), h.3)
begun_back k None x d bs at ps R e make = tt

types_back : (m : TypesMode) (x : Sort) (d : ℕ) (bs : List Bracket) (at : Span) (ps : List Piece) → LeadsBack (types_step m x) d bs ps (InTypes m d (piece x at ∷ ps))
unfolding Matches
types_back types.Open s.OpenRound d bs at ps = λ h. (record { operand_types = h.0; typed = h.1 }, (refl, h.2))
types_back types.FirstOperand s.CloseRound d bs at ps = λ h. ([], h.0, (refl, h.1))
types_back types.FirstOperand x d bs at ps = begun_back kinds.OperandType (takes kinds.OperandType None x) x d bs at ps (InTypes types.FirstOperand d (piece x at ∷ ps)) refl (λ t c h. (t ∷ c.0, c.1, h))
types_back types.Arrow s.Arrow d bs at ps = λ h. (h.0, (refl, h.1))
types_back types.Results s.OpenRound d bs at ps = λ h. (record { result_types = listed h.0; rest = h.1 }, (refl, h.2))
types_back types.Results s.Word d bs at ps = λ h. (record { result_types = bare (piece s.Word at) tt h.0; rest = h.1 }, ((refl, refl), h.2))
types_back types.Results s.Type d bs at ps = λ h. (record { result_types = bare (piece s.Type at) tt h.0; rest = h.1 }, ((refl, refl), h.2))
types_back types.FirstResult s.CloseRound d bs at ps = λ h. ([], h.0, (refl, h.1))
types_back types.FirstResult x d bs at ps = begun_back kinds.ResultType (takes kinds.ResultType None x) x d bs at ps (InTypes types.FirstResult d (piece x at ∷ ps)) refl (λ t c h. (t ∷ c.0, c.1, h))
types_back types.Location s.OpenRound d bs at ps = λ h. (h.0, h.1, (refl, h.2))
types_back _ _ d bs at ps = tt

-- ---- texts

stop_back : (k : TextKind) (x : Sort) (d : ℕ) (at : Span) (ps : List Piece) → LeadsBack (text_end k (stops_outside k x)) d [] ps (InText k d [] (piece x at ∷ ps))
unfolding Matches StaysText
stop_back kinds.Value s.Comma d at ps = λ h. ([], refl, (h.0 ∷ h.1, h.2), (refl, h.3))
stop_back kinds.Value s.CloseCurly d at ps = λ h. ([], refl, ([], h.0), (refl, h.1))
stop_back kinds.OperandType s.Comma d at ps = λ h. ([], refl, (h.0 ∷ h.1.0, h.1.1), (refl, h.2))
stop_back kinds.OperandType s.CloseRound d at ps = λ h. ([], refl, ([], h.0), (refl, h.1))
stop_back kinds.ResultType s.Comma d at ps = λ h. ([], refl, (h.0 ∷ h.1.0, h.1.1), (refl, h.2))
stop_back kinds.ResultType s.CloseRound d at ps = λ h. ([], refl, ([], h.0), (refl, h.1))
stop_back kinds.Location s.CloseRound d at ps = λ h. ([], refl, h.0, (refl, h.1))
stop_back kinds.ArgumentType s.Comma d at ps = λ h. ([], refl, (None, h.0 ∷ h.1, h.2), (refl, h.3))
stop_back kinds.ArgumentType s.CloseRound d at ps = λ h. ([], refl, (None, [], h.0), (refl, h.1))
stop_back kinds.ArgumentType s.Loc d at ps = λ h. ([], refl, (Some h.0, h.1, h.2), (refl, h.3))
stop_back kinds.ArgumentLocation s.CloseRound d at ps = λ h. ([], refl, (h.0, h.1), (refl, h.2))
stop_back _ _ d at ps = tt

end_back : (k : TextKind) (x : Sort) (d : ℕ) (bs : List Bracket) (at : Span) (ps : List Piece) → LeadsBack (text_end k (stops k (innermost bs) x)) d bs ps (InText k d bs (piece x at ∷ ps))
end_back k x d [] at ps = stop_back k x d at ps
end_back k x d (b ∷ bs) at ps = tt

taken_back : (k : TextKind) (o : Option Nesting) (x : Sort) (d : ℕ) (bs : List Bracket) (at : Span) (ps : List Piece) (other : Step) → takes k (innermost bs) x ≡ o → LeadsBack other d bs ps (InText k d bs (piece x at ∷ ps)) → LeadsBack (taken k o other) d bs ps (InText k d bs (piece x at ∷ ps))
unfolding Matches StaysText
taken_back k (Some n) x d bs at ps other e l = λ h. (piece x at ∷ h.0, (n, e, h.1), h.2, ((refl, refl), h.3))
taken_back k None x d bs at ps other e l = l

-- ---- where operations begin

-- an operation in front
op_around : {d : ℕ} → List ResultName → Named d → Around d
op_around rs n =
    let p = n.operated.succeeded.propertied in
    let y = p.regioned.attributed in
    let r = y.signed.typed.rest in
    let head : Head = record { results = rs; name = n.name; operands = n.operated.operands; successors = n.operated.succeeded.successors; properties = p.properties } in
    let tail : Tail = record { attributes = y.attributes; operand_types = y.signed.operand_types; result_types = y.signed.typed.result_types; location = r.location } in
    record { body = op head p.regioned.regions tail r.around.body; levels = r.around.levels; size = r.around.size; outer = op_outer head p.regioned.regions tail r.around.body r.around.levels r.around.outer }
  where
    op_outer : (h : Head) (rs : Regions) (t : Tail) (b : Body) (levels : List Level) → IsOuter levels b → IsOuter levels (op h rs t b)
    op_outer h rs t b [] outer = outer
    op_outer h rs t b (l ∷ ls) outer = outer

-- a block's head in front, in a region
block_around : (d : ℕ) (l : Label) (b : Body) (levels : List Level) → length levels ≡ suc d → IsOuter levels b → (at : Around (suc d)) × (around_then at ≡ body_then (block l b) (ending levels))
block_around d l b [] size outer = absurd (omega (arith, size))
block_around d l b (v ∷ vs) size outer = (record { body = block l b; levels = v ∷ vs; size = size; outer = outer }, refl)

-- a region's end in front
close_around : {d : ℕ} → Span → Regions → Attributed d → Around (suc d)
close_around at rs y =
    let r = y.signed.typed.rest in
    let tail : Tail = record { attributes = y.attributes; operand_types = y.signed.operand_types; result_types = y.signed.typed.result_types; location = r.location } in
    let level : Level = record { close = at; regions = rs; tail = tail; body = r.around.body } in
    record { body = done; levels = level ∷ r.around.levels; size = ap suc r.around.size; outer = r.around.outer }

label_in_body : (d : ℕ) (at : Span) (ps : List Piece) (o : Option (List Argument)) (a : Around (suc d)) → Matches (signed_then o (around_then a)) ps → InBody (suc d) (piece s.Block at ∷ ps)
unfolding Matches body_then
label_in_body d at ps o a h =
    let l : Label = record { name = at; arguments = o } in
    let w = block_around d l a.body a.levels a.size a.outer in
    (w.0, subst (λ (es : List Expected). Matches es (piece s.Block at ∷ ps)) (sym w.1) ((refl, refl), h))

body_back : (d : ℕ) (x : Sort) (bs : List Bracket) (at : Span) (ps : List Piece) → LeadsBack (body_step (is_inside d) x) d bs ps (InBody d (piece x at ∷ ps))
unfolding Matches body_then op_around close_around
body_back d s.Value bs at ps = λ h. (op_around (record { name = at; count = h.0 } ∷ h.1) h.2, ((refl, refl), h.3))
body_back d s.Quoted bs at ps = λ h. (op_around [] (record { name = at; operated = h.0 }), ((refl, refl), h.1))
body_back (suc d) s.Block bs at ps = λ h. label_in_body d at ps h.0 h.1 h.2
body_back (suc d) s.CloseCurly bs at ps = λ h. (close_around at h.0 h.1, ((refl, refl), h.2))
body_back zero _ bs at ps = tt
body_back (suc d) _ bs at ps = tt

no_location : {d : ℕ} → Around d → Rest d
no_location a = record { location = None; around = a }

-- what leads to one thing leads to what follows from it
leads_on : (st : Step) (d : ℕ) (bs : List Bracket) (ps : List Piece) (R Q : Type 0) → (R → Q) → LeadsBack st d bs ps R → LeadsBack st d bs ps Q
leads_on (Go ended a to) d bs ps R Q f l = λ h. f (l h)
leads_on Bad d bs ps R Q f l = tt

type_leads : (st : Step) (d : ℕ) (bs : List Bracket) (ps : List Piece) (R Q : Type 0) → (R → Q) → LeadsBack st d bs ps R → LeadsBack (behind_type st) d bs ps Q
type_leads (Go ended a to) d bs ps R Q f l = λ h. f (l h)
type_leads Bad d bs ps R Q f l = tt

in_after : (d : ℕ) (xs : List Piece) → InBody d xs → InAfter d xs
in_after d xs h = (record { location = None; around = h.0 }, h.1)

in_bare : (d : ℕ) (xs : List Piece) → InAfter d xs → InBare d xs
in_bare d xs h = (None, h.0, h.1)

after_back : (d : ℕ) (x : Sort) (bs : List Bracket) (at : Span) (ps : List Piece) → LeadsBack (after_step (is_inside d) x) d bs ps (InAfter d (piece x at ∷ ps))
unfolding Matches
after_back d s.Loc bs at ps = λ h. (record { location = Some h.0; around = h.1 }, (refl, h.2))
after_back d x bs at ps = leads_on (body_step (is_inside d) x) d bs ps (InBody d (piece x at ∷ ps)) (InAfter d (piece x at ∷ ps)) (in_after d (piece x at ∷ ps)) (body_back d x bs at ps)

bare_back : (d : ℕ) (x : Sort) (bs : List Bracket) (at : Span) (ps : List Piece) → LeadsBack (bare_step (is_inside d) x) d bs ps (InBare d (piece x at ∷ ps))
unfolding Matches
bare_back d s.Group bs at ps = λ h. (Some at, h.0, ((refl, refl), h.1))
bare_back d x bs at ps = type_leads (after_step (is_inside d) x) d bs ps (InAfter d (piece x at ∷ ps)) (InBare d (piece x at ∷ ps)) (in_bare d (piece x at ∷ ps)) (after_back d x bs at ps)

nothing_back : (st : Step) (d : ℕ) (bs : List Bracket) (ps : List Piece) → LeadsBack st d bs ps ⊤
nothing_back (Go ended a to) d bs ps = λ h. tt
nothing_back Bad d bs ps = tt

back : (m : Mode) (x : Sort) (d : ℕ) (bs : List Bracket) (at : Span) (ps : List Piece) → LeadsBack (tree_step m (is_inside d) (innermost bs) x) d bs ps (Remains m d bs (piece x at ∷ ps))
back mode.Start x d bs at ps = nothing_back (body_step (is_inside d) x) d bs ps
back mode.Body x d bs at ps = body_back d x bs at ps
back mode.After x d bs at ps = after_back d x bs at ps
back mode.Bare x d bs at ps = bare_back d x bs at ps
back (mode.Results m) x d bs at ps = results_back m x d bs at ps
back (mode.Operands m) x d bs at ps = operands_back m x d bs at ps
back (mode.Parts m) x d bs at ps = parts_back m x d bs at ps
back (mode.Entries m) x d bs at ps = entries_back m x d bs at ps
back (mode.Types m) x d bs at ps = types_back m x d bs at ps
back (mode.Label m) x d bs at ps = label_back m x d bs at ps
back (mode.Next k) x d bs at ps = begun_back k (takes k None x) x d bs at ps (InNext k d (piece x at ∷ ps)) refl (λ t c h. (t, c, h))
back (mode.Text k) x d bs at ps = taken_back k (takes k (innermost bs) x) x d bs at ps (text_end k (stops k (innermost bs) x)) refl (end_back k x d bs at ps)

-- ---- the loop

IsFound : List Piece → Type 0
IsFound xs = (end : ℕ) (m : Mode) (d : ℕ) (bs : List Bracket) (t : Span) (out : List Row) → parsing end m d bs t xs ≡ Ok out → Remains m d bs xs

err_not_ok : (y : Result (List Row) Fault) (f : Fault) (rows : List Row) → y ≡ Err f → y ≡ Ok rows → ⊥
err_not_ok y f rows e h = cc

-- a mode in which the tokens don't end
never : (end : ℕ) (m : Mode) (d : ℕ) (bs : List Bracket) (t : Span) (out : List Row) → ((inside : Bool) → is_whole m inside ≡ false) → parsing end m d bs t [] ≡ Ok out → ⊥
never end m d bs t out e r = err_not_ok _ _ out (parsing_breaks_off end m d bs t (e (is_inside d))) r

nothing_around : Around zero
nothing_around = record { body = done; levels = []; size = refl; outer = tt }

found_nil : IsFound []
unfolding IsFound Matches body_then nothing_around
found_nil end mode.Start d bs t out r = tt
found_nil end mode.Body zero bs t out r = (nothing_around, tt)
found_nil end mode.After zero bs t out r = (record { location = None; around = nothing_around }, tt)
found_nil end mode.Bare zero bs t out r = (None, record { location = None; around = nothing_around }, tt)
found_nil end mode.Body (suc d) bs t out r = absurd (err_not_ok _ _ out (parsing_breaks_off end mode.Body (suc d) bs t refl) r)
found_nil end mode.After (suc d) bs t out r = absurd (err_not_ok _ _ out (parsing_breaks_off end mode.After (suc d) bs t refl) r)
found_nil end mode.Bare (suc d) bs t out r = absurd (err_not_ok _ _ out (parsing_breaks_off end mode.Bare (suc d) bs t refl) r)
found_nil end (mode.Results m) d bs t out r = absurd (never end (mode.Results m) d bs t out (λ i. refl) r)
found_nil end (mode.Operands m) d bs t out r = absurd (never end (mode.Operands m) d bs t out (λ i. refl) r)
found_nil end (mode.Parts m) d bs t out r = absurd (never end (mode.Parts m) d bs t out (λ i. refl) r)
found_nil end (mode.Entries m) d bs t out r = absurd (never end (mode.Entries m) d bs t out (λ i. refl) r)
found_nil end (mode.Types m) d bs t out r = absurd (never end (mode.Types m) d bs t out (λ i. refl) r)
found_nil end (mode.Label m) d bs t out r = absurd (never end (mode.Label m) d bs t out (λ i. refl) r)
found_nil end (mode.Next k) d bs t out r = absurd (never end (mode.Next k) d bs t out (λ i. refl) r)
found_nil end (mode.Text k) d bs t out r = absurd (never end (mode.Text k) d bs t out (λ i. refl) r)

-- one token in front, by what it does
leads : (end : ℕ) (m : Mode) (d : ℕ) (bs : List Bracket) (t : Span) (x : Piece) (xs : List Piece) (out : List Row) (R : Type 0) (st : Step) → IsFound xs → tree_step m (is_inside d) (innermost bs) x.sort ≡ st → LeadsBack st d bs xs R → parsing end m d bs t (x ∷ xs) ≡ Ok out → R
unfolding IsFound
leads end m d bs t x xs out R (Go ended a to) ih e l r =
    let later = rest_read (parsing end to (depth_behind a d) (brackets_behind a bs) (text_behind a x.span t) xs) (ended_row ended t) (token_row a x.span t) out (sym (parsing_goes end m d bs t x xs ended a to e) ∙ r) in
    l (ih end to (depth_behind a d) (brackets_behind a bs) (text_behind a x.span t) later.0 later.1)
leads end m d bs t x xs out R Bad ih e l r = absurd (err_not_ok _ _ out (parsing_stops end m d bs t x xs e) r)

found_cons : (x : Piece) (xs : List Piece) → IsFound xs → IsFound (x ∷ xs)
unfolding IsFound
found_cons x xs ih end m d bs t out r = leads end m d bs t x xs out (Remains m d bs (x ∷ xs)) (tree_step m (is_inside d) (innermost bs) x.sort) ih refl (back m x.sort d bs x.span xs) r

found : (xs : List Piece) → IsFound xs
found [] = found_nil
found (x ∷ xs) = found_cons x xs (found xs)

-- ---- the first token

abbrev IsTree : List Piece → Type 0
IsTree xs = (b : Body) × IsWholeText b × Matches (body_then b []) xs

top_tree : (h : Head) (rs : Regions) (t : Tail) (b : Body) (levels : List Level) (xs : List Piece) → length levels ≡ zero → IsOuter levels b → Matches (body_then (op h rs t b) (ending levels)) xs → IsTree xs
top_tree h rs t b [] xs size outer m = (op h rs t b, outer, m)
top_tree h rs t b (l ∷ ls) xs size outer m = absurd (omega (arith, size))

named_tree : (rs : List ResultName) (n : Named zero) (xs : List Piece) → Matches (around_then (op_around rs n)) xs → IsTree xs
unfolding op_around
named_tree rs n xs m =
    let p = n.operated.succeeded.propertied in
    let y = p.regioned.attributed in
    let r = y.signed.typed.rest in
    let head : Head = record { results = rs; name = n.name; operands = n.operated.operands; successors = n.operated.succeeded.successors; properties = p.properties } in
    let tail : Tail = record { attributes = y.attributes; operand_types = y.signed.operand_types; result_types = y.signed.typed.result_types; location = r.location } in
    top_tree head p.regioned.regions tail r.around.body r.around.levels xs r.around.size r.around.outer m

start_back : (x : Sort) (at : Span) (ps : List Piece) → LeadsBack (body_step false x) zero [] ps (IsTree (piece x at ∷ ps))
unfolding Matches body_then op_around
start_back s.Value at ps = λ h. named_tree (record { name = at; count = h.0 } ∷ h.1) h.2 (piece s.Value at ∷ ps) ((refl, refl), h.3)
start_back s.Quoted at ps = λ h. named_tree [] (record { name = at; operated = h.0 }) (piece s.Quoted at ∷ ps) ((refl, refl), h.1)
start_back _ at ps = tt

pub tree_found : (end : ℕ) (xs : List Piece) (out : List Row) → parsing end mode.Start 0 [] (span 0 0) xs ≡ Ok out → IsTree xs
tree_found end [] out r = absurd (never end mode.Start 0 [] (span 0 0) out (λ i. refl) r)
tree_found end (x ∷ xs) out r = leads end mode.Start 0 [] (span 0 0) x xs out (IsTree (x ∷ xs)) (body_step false x.sort) (found xs) refl (start_back x.sort x.span xs) r
