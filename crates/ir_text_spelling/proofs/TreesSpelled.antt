-- The text of a tree's rows is that of the tree, part by part: if what follows has its text, so has all.
use Rattle.std.proofs.Common.{◌≡◌, ℕ, zero, suc, ◌++◌, Bool, false, List, [], ◌∷◌, Option, Some, None, refl, sym, ap, ◌∙◌, append_assoc}
use Rattle.std.proofs.lemmas.List.{append-nil}
use Rattle.std.specs.Prelude.{⊤, codes, drop, if◌then◌else◌}
use Rattle.ir_text_tree.specs.declared.row.Part.{Part}
use Rattle.ir_text_tree.specs.declared.row.Part.TheVariants as parts
use Rattle.ir_text_tree.specs.declared.row.Row.{Row}
use Rattle.ir_text_tree.specs.declared.row.Span.{Span}
use Rattle.ir_text_tree.specs.declared.text_step.TextKind.TheVariants as kinds
use Rattle.ir_text_tree.specs.Rows.{row}
use Rattle.ir_text_tree.specs.Trees.{Text, text_span, ResultName, Use, Entry, ResultTypes, bare, listed, Head, Tail, Argument, Body, Regions, done, op, block, none, one, maybe_row, maybe_text_row, result_rows, use_rows, successor_rows, entry_rows, attribute_rows, type_rows, bare_span, result_type_rows, tail_rows, argument_rows, signed_rows, body_rows, region_rows, tree_rows, text_row}
use Rattle.ir_text_spelling.specs.Marks.{is_result, is_successor, is_close, is_entry, is_operand_type, is_result_type, is_joined, joint, closing, to_results, to_only_result, to_location, to_line_end, opening, around, depth_behind, levels, blanks}
use Rattle.ir_text_spelling.specs.Spellings.{piece, spelled, rows_spelled}
use Rattle.ir_text_spelling.specs.TreeTexts.{piece_then, text_then, count_then, more_results_then, results_then, index_then, more_uses_then, uses_then, more_successors_then, successors_then, properties_then, value_then, more_entries_then, entries_then, attributes_then, more_types_then, types_then, result_types_then, location_then, signature_then, tail_then, more_arguments_then, arguments_then, signed_then, body_then, regions_then, more_regions_then, tree_text}

-- ---- which part may be the last before what follows

abbrev InOperands : Part → Type 0
InOperands parts.Name = ⊤
InOperands parts.Operand = ⊤
InOperands parts.Index = ⊤
InOperands _ = ⊥

abbrev InSuccessors : Part → Type 0
InSuccessors parts.Successor = ⊤
InSuccessors p = InOperands p

abbrev InProperties : Part → Type 0
InProperties parts.Properties = ⊤
InProperties p = InSuccessors p

abbrev InRegions : Part → Type 0
InRegions parts.Close = ⊤
InRegions p = InProperties p

abbrev InEntries : Part → Type 0
InEntries parts.Key = ⊤
InEntries parts.Value = ⊤
InEntries p = InRegions p

abbrev InOperandTypes : Part → Type 0
InOperandTypes parts.OperandType = ⊤
InOperandTypes p = InEntries p

abbrev InTypes : Part → Type 0
InTypes parts.ResultType = ⊤
InTypes parts.OnlyResultType = ⊤
InTypes p = InOperandTypes p

-- a line may end behind it
abbrev EndsLine : Part → Type 0
EndsLine parts.Result = ⊥
EndsLine parts.Count = ⊥
EndsLine parts.Argument = ⊥
EndsLine _ = ⊤

-- in so many regions, behind the mark that closes the list of any such part, the rows have this text
record Leads (text : List ℕ) (d : ℕ) (S : Part → Type 0) (rows : List Row) (es : List ℕ) : Type 0 where
  from : (p : Part) → S p → spelled text d (Some p) rows ≡ closing p ++ es

-- in so many regions, behind the end of the line of any such part, the rows have this text
record Ends (text : List ℕ) (d : ℕ) (rows : List Row) (es : List ℕ) : Type 0 where
  from : (p : Part) → EndsLine p → spelled text d (Some p) rows ≡ closing p ++ (to_line_end p ++ es)

-- ---- one part

opened : (text : List ℕ) (d : ℕ) (p next : Part) (at : Span) (rest : List Row) (es : List ℕ) → is_joined p next ≡ false → spelled text (depth_behind next d) (Some next) rest ≡ es
    → spelled text d (Some p) (row next at ∷ rest) ≡ closing p ++ (opening p next ++ (blanks (levels d next) ++ (piece text at ++ es)))
unfolding spelled
opened text d p next at rest es e h =
    let led = opening p next ++ blanks (levels d next) in
    ap (λ (b : Bool). (if b then joint p next else (closing p ++ led)) ++ (piece text at ++ spelled text (depth_behind next d) (Some next) rest)) e
    ∙ ap (λ (ys : List ℕ). (closing p ++ led) ++ (piece text at ++ ys)) h
    ∙ append_assoc (closing p) led (piece text at ++ es)
    ∙ ap (λ (ys : List ℕ). closing p ++ ys) (append_assoc (opening p next) (blanks (levels d next)) (piece text at ++ es))

no_result : (p : Part) → EndsLine p → is_result p ≡ false
no_result parts.Result h = absurd h
no_result parts.Count h = absurd h
no_result _ h = refl

name_line : (text : List ℕ) (d : ℕ) (at : Span) (rest : List Row) (es : List ℕ) → spelled text d (Some parts.Name) rest ≡ es → Ends text d (row parts.Name at ∷ rest) (blanks d ++ (piece text at ++ es))
name_line text d at rest es h = record { from = λ p l. opened text d p parts.Name at rest es (no_result p l) h }

result_line : (text : List ℕ) (d : ℕ) (at : Span) (rest : List Row) (es : List ℕ) → spelled text d (Some parts.Result) rest ≡ es → Ends text d (row parts.Result at ∷ rest) (blanks d ++ (piece text at ++ es))
result_line text d at rest es h = record { from = λ p l. opened text d p parts.Result at rest es (no_result p l) h }

label_line : (text : List ℕ) (d : ℕ) (at : Span) (rest : List Row) (es : List ℕ) → spelled text d (Some parts.Label) rest ≡ es → Ends text d (row parts.Label at ∷ rest) (blanks (around d) ++ (piece text at ++ es))
label_line text d at rest es h = record { from = λ p l. opened text d p parts.Label at rest es refl h }

close_line : (text : List ℕ) (d : ℕ) (at : Span) (rest : List Row) (es : List ℕ) → spelled text (around d) (Some parts.Close) rest ≡ es → Ends text d (row parts.Close at ∷ rest) (blanks (around d) ++ (piece text at ++ es))
close_line text d at rest es h = record { from = λ p l. opened text d p parts.Close at rest es refl h }

-- ---- operands, successors, properties

-- what follows a part, from either of two
abbrev FromBoth : List ℕ → ℕ → Part → Part → List Row → List ℕ → Type 0
FromBoth text d p q rows es = (spelled text d (Some p) rows ≡ es) × (spelled text d (Some q) rows ≡ es)

use_tail : (text : List ℕ) (d : ℕ) (o : Option Span) (rows : List Row) (es : List ℕ) → FromBoth text d parts.Operand parts.Index rows es → spelled text d (Some parts.Operand) (maybe_row parts.Index o rows) ≡ index_then text o es
unfolding spelled
use_tail text d None rows es h = h.0
use_tail text d (Some n) rows es h = ap (λ (ys : List ℕ). piece text n ++ ys) h.1

uses_more : (text : List ℕ) (d : ℕ) (us : List Use) (rows : List Row) (es : List ℕ) → Leads text d InOperands rows es → FromBoth text d parts.Operand parts.Index (use_rows us rows) (more_uses_then text us es)
unfolding spelled
uses_more text d [] rows es f = (f.from parts.Operand tt, f.from parts.Index tt)
uses_more text d (u ∷ us) rows es f =
    let t = ap (λ (ys : List ℕ). codes ", " ++ (piece text u.name ++ ys)) (use_tail text d u.index (use_rows us rows) (more_uses_then text us es) (uses_more text d us rows es f)) in
    (t, t)

uses : (text : List ℕ) (d : ℕ) (us : List Use) (rows : List Row) (es : List ℕ) → Leads text d InOperands rows es → spelled text d (Some parts.Name) (use_rows us rows) ≡ uses_then text us es
unfolding spelled
uses text d [] rows es f = f.from parts.Name tt
uses text d (u ∷ us) rows es f = ap (λ (ys : List ℕ). codes "(" ++ (piece text u.name ++ ys)) (use_tail text d u.index (use_rows us rows) (more_uses_then text us es) (uses_more text d us rows es f))

from_operands : (p : Part) → InOperands p → InSuccessors p
from_operands parts.Successor h = tt
from_operands _ h = h

no_successor : (p : Part) → InOperands p → is_successor p ≡ false
no_successor parts.Successor h = absurd h
no_successor _ h = refl

successors_more : (text : List ℕ) (d : ℕ) (bs : List Span) (rows : List Row) (es : List ℕ) → Leads text d InSuccessors rows es → spelled text d (Some parts.Successor) (successor_rows bs rows) ≡ more_successors_then text bs es
unfolding spelled
successors_more text d [] rows es f = f.from parts.Successor tt
successors_more text d (b ∷ bs) rows es f = ap (λ (ys : List ℕ). codes ", " ++ (piece text b ++ ys)) (successors_more text d bs rows es f)

successors : (text : List ℕ) (d : ℕ) (bs : List Span) (rows : List Row) (es : List ℕ) → Leads text d InSuccessors rows es → Leads text d InOperands (successor_rows bs rows) (successors_then text bs es)
successors text d [] rows es f = record { from = λ p h. f.from p (from_operands p h) }
successors text d (b ∷ bs) rows es f = record { from = λ p h. opened text d p parts.Successor b (successor_rows bs rows) (more_successors_then text bs es) (no_successor p h) (successors_more text d bs rows es f) }

from_successors : (p : Part) → InSuccessors p → InProperties p
from_successors parts.Properties h = tt
from_successors _ h = h

properties : (text : List ℕ) (d : ℕ) (o : Option Span) (rows : List Row) (es : List ℕ) → Leads text d InProperties rows es → Leads text d InSuccessors (maybe_row parts.Properties o rows) (properties_then text o es)
properties text d None rows es f = record { from = λ p h. f.from p (from_successors p h) }
properties text d (Some at) rows es f = record { from = λ p h. opened text d p parts.Properties at rows es refl (f.from parts.Properties tt) }

-- ---- attributes

from_regions : (p : Part) → InRegions p → InEntries p
from_regions parts.Key h = tt
from_regions parts.Value h = tt
from_regions _ h = h

no_entry : (p : Part) → InRegions p → is_entry p ≡ false
no_entry parts.Key h = absurd h
no_entry parts.Value h = absurd h
no_entry _ h = refl

entry_tail : (text : List ℕ) (d : ℕ) (o : Option (Text kinds.Value)) (rows : List Row) (es : List ℕ) → FromBoth text d parts.Key parts.Value rows es → spelled text d (Some parts.Key) (maybe_text_row o rows) ≡ value_then text o es
unfolding spelled
entry_tail text d None rows es h = h.0
entry_tail text d (Some v) rows es h = ap (λ (ys : List ℕ). codes " = " ++ (piece text (text_span v) ++ ys)) h.1

entries_more : (text : List ℕ) (d : ℕ) (entries : List Entry) (rows : List Row) (es : List ℕ) → Leads text d InEntries rows es → FromBoth text d parts.Key parts.Value (entry_rows entries rows) (more_entries_then text entries es)
unfolding spelled
entries_more text d [] rows es f = (f.from parts.Key tt, f.from parts.Value tt)
entries_more text d (e ∷ entries) rows es f =
    let t = ap (λ (ys : List ℕ). codes ", " ++ (piece text e.key.span ++ ys)) (entry_tail text d e.value (entry_rows entries rows) (more_entries_then text entries es) (entries_more text d entries rows es f)) in
    (t, t)

entries : (text : List ℕ) (d : ℕ) (all : List Entry) (rows : List Row) (es : List ℕ) → Leads text d InEntries rows es → Leads text d InRegions (entry_rows all rows) (entries_then text all es)
entries text d [] rows es f = record { from = λ p h. f.from p (from_regions p h) }
entries text d (e ∷ others) rows es f = record {
  from = λ p h. opened text d p parts.Key e.key.span (maybe_text_row e.value (entry_rows others rows)) (value_then text e.value (more_entries_then text others es)) (no_entry p h)
      (entry_tail text d e.value (entry_rows others rows) (more_entries_then text others es) (entries_more text d others rows es f));
}

attributes : (text : List ℕ) (d : ℕ) (o : Option (List Entry)) (rows : List Row) (es : List ℕ) → Leads text d InEntries rows es → Leads text d InRegions (attribute_rows o rows) (attributes_then text o es)
attributes text d None rows es f = record { from = λ p h. f.from p (from_regions p h) }
attributes text d (Some all) rows es f = entries text d all rows es f

-- ---- types and locations, where marks stand in for what is missing

abbrev to_types_end : Part → List ℕ
to_types_end parts.ResultType = []
to_types_end parts.OnlyResultType = []
to_types_end parts.OperandType = codes " -> ()"
to_types_end _ = codes " : () -> ()"

line_end_is : (p : Part) (es : List ℕ) → InTypes p → to_line_end p ++ es ≡ to_types_end p ++ (codes "\n" ++ es)
line_end_is parts.Open es h = absurd h
line_end_is parts.Location es h = absurd h
line_end_is parts.Label es h = absurd h
line_end_is parts.ArgumentType es h = absurd h
line_end_is parts.ArgumentLocation es h = absurd h
line_end_is _ es h = refl

location_is : (p : Part) (es : List ℕ) → to_location p ++ es ≡ to_types_end p ++ (codes " loc(" ++ es)
location_is parts.ResultType es = refl
location_is parts.OnlyResultType es = refl
location_is parts.OperandType es = refl
location_is _ es = refl

results_are : (p : Part) (es : List ℕ) → InOperandTypes p → to_types_end p ++ es ≡ to_only_result p ++ (codes "()" ++ es)
results_are parts.ResultType es h = absurd h
results_are parts.OnlyResultType es h = absurd h
results_are parts.OperandType es h = refl
results_are _ es h = refl

list_is : (p : Part) (es : List ℕ) → to_results p ++ es ≡ to_only_result p ++ (codes "(" ++ es)
list_is parts.OperandType es = refl
list_is _ es = refl

operands_are : (p : Part) (es : List ℕ) → InEntries p → to_only_result p ++ es ≡ codes " : (" ++ (codes ") -> " ++ es)
operands_are parts.OperandType es h = absurd h
operands_are _ es h = refl

ends_line : (p : Part) → InTypes p → EndsLine p
ends_line parts.Result h = absurd h
ends_line parts.Count h = absurd h
ends_line parts.Argument h = absurd h
ends_line _ h = tt

from_entries : (p : Part) → InEntries p → InOperandTypes p
from_entries parts.OperandType h = tt
from_entries _ h = h

from_operand_types : (p : Part) → InOperandTypes p → InTypes p
from_operand_types parts.ResultType h = tt
from_operand_types parts.OnlyResultType h = tt
from_operand_types _ h = h

no_operand_type : (p : Part) → InEntries p → is_operand_type p ≡ false
no_operand_type parts.OperandType h = absurd h
no_operand_type _ h = refl

no_result_type : (p : Part) → InOperandTypes p → is_result_type p ≡ false
no_result_type parts.ResultType h = absurd h
no_result_type _ h = refl

location : (text : List ℕ) (d : ℕ) (o : Option (Text kinds.Location)) (rows : List Row) (es : List ℕ) (p : Part) → InTypes p → Ends text d rows es → spelled text d (Some p) (maybe_text_row o rows) ≡ closing p ++ (to_types_end p ++ location_then text o (codes "\n" ++ es))
location text d None rows es p h f = f.from p (ends_line p h) ∙ ap (λ (ys : List ℕ). closing p ++ ys) (line_end_is p es h)
location text d (Some l) rows es p h f =
    let behind = codes ")" ++ (codes "\n" ++ es) in
    opened text d p parts.Location (text_span l) rows behind refl (f.from parts.Location tt) ∙ ap (λ (ys : List ℕ). closing p ++ ys) (location_is p (piece text (text_span l) ++ behind))

result_types_more : (text : List ℕ) (d : ℕ) (ts : List (Text kinds.ResultType)) (o : Option (Text kinds.Location)) (rows : List Row) (es : List ℕ) → Ends text d rows es
    → spelled text d (Some parts.ResultType) (type_rows ts (maybe_text_row o rows)) ≡ more_types_then text ts (codes ")" ++ location_then text o (codes "\n" ++ es))
unfolding spelled
result_types_more text d [] o rows es f = location text d o rows es parts.ResultType tt f
result_types_more text d (t ∷ ts) o rows es f = ap (λ (ys : List ℕ). codes ", " ++ (piece text (text_span t) ++ ys)) (result_types_more text d ts o rows es f)

result_types : (text : List ℕ) (d : ℕ) (rs : ResultTypes) (o : Option (Text kinds.Location)) (rows : List Row) (es : List ℕ) (p : Part) → InOperandTypes p → Ends text d rows es
    → spelled text d (Some p) (result_type_rows rs (maybe_text_row o rows)) ≡ closing p ++ (to_only_result p ++ result_types_then text rs (location_then text o (codes "\n" ++ es)))
result_types text d (bare name is group) o rows es p h f = opened text d p parts.OnlyResultType (bare_span name.span group) (maybe_text_row o rows) (location_then text o (codes "\n" ++ es)) refl (location text d o rows es parts.OnlyResultType tt f)
result_types text d (listed []) o rows es p h f = location text d o rows es p (from_operand_types p h) f ∙ ap (λ (ys : List ℕ). closing p ++ ys) (results_are p (location_then text o (codes "\n" ++ es)) h)
result_types text d (listed (t ∷ ts)) o rows es p h f =
    let others = more_types_then text ts (codes ")" ++ location_then text o (codes "\n" ++ es)) in
    opened text d p parts.ResultType (text_span t) (type_rows ts (maybe_text_row o rows)) others (no_result_type p h) (result_types_more text d ts o rows es f)
    ∙ ap (λ (ys : List ℕ). closing p ++ ys) (list_is p (piece text (text_span t) ++ others))

operand_types_more : (text : List ℕ) (d : ℕ) (ts : List (Text kinds.OperandType)) (rows : List Row) (es : List ℕ) → (spelled text d (Some parts.OperandType) rows ≡ codes ") -> " ++ es)
    → spelled text d (Some parts.OperandType) (type_rows ts rows) ≡ more_types_then text ts (codes ") -> " ++ es)
unfolding spelled
operand_types_more text d [] rows es h = h
operand_types_more text d (t ∷ ts) rows es h = ap (λ (ys : List ℕ). codes ", " ++ (piece text (text_span t) ++ ys)) (operand_types_more text d ts rows es h)

operand_types : (text : List ℕ) (d : ℕ) (ts : List (Text kinds.OperandType)) (rows : List Row) (es : List ℕ) → ((p : Part) → InOperandTypes p → spelled text d (Some p) rows ≡ closing p ++ (to_only_result p ++ es))
    → Leads text d InEntries (type_rows ts rows) (codes " : (" ++ types_then text ts (codes ") -> " ++ es))
operand_types text d [] rows es g = record { from = λ p h. g p (from_entries p h) ∙ ap (λ (ys : List ℕ). closing p ++ ys) (operands_are p es h) }
operand_types text d (t ∷ ts) rows es g = record { from = λ p h. opened text d p parts.OperandType (text_span t) (type_rows ts rows) (more_types_then text ts (codes ") -> " ++ es)) (no_operand_type p h) (operand_types_more text d ts rows es (g parts.OperandType tt)) }

tail : (text : List ℕ) (d : ℕ) (t : Tail) (rows : List Row) (es : List ℕ) → Ends text d rows es → Leads text d InRegions (tail_rows t rows) (tail_then text t es)
tail text d t rows es f =
    let results = result_type_rows t.result_types (maybe_text_row t.location rows) in
    let written = result_types_then text t.result_types (location_then text t.location (codes "\n" ++ es)) in
    attributes text d t.attributes (type_rows t.operand_types results) (signature_then text t es) (operand_types text d t.operand_types results written (λ p h. result_types text d t.result_types t.location rows es p h f))

-- ---- heads of blocks

location_tail : (text : List ℕ) (d : ℕ) (o : Option (Text kinds.ArgumentLocation)) (rows : List Row) (es : List ℕ) → spelled text d (Some parts.ArgumentType) rows ≡ es → spelled text d (Some parts.ArgumentLocation) rows ≡ codes ")" ++ es
    → spelled text d (Some parts.ArgumentType) (maybe_text_row o rows) ≡ location_then text o es
unfolding spelled
location_tail text d None rows es h g = h
location_tail text d (Some l) rows es h g = ap (λ (ys : List ℕ). codes " loc(" ++ (piece text (text_span l) ++ ys)) g

argument_tail : (text : List ℕ) (d : ℕ) (a : Argument) (rows : List Row) (es : List ℕ) → spelled text d (Some parts.ArgumentType) rows ≡ es → spelled text d (Some parts.ArgumentLocation) rows ≡ codes ")" ++ es
    → spelled text d (Some parts.Argument) (text_row a.its_type (maybe_text_row a.location rows)) ≡ codes ": " ++ text_then text a.its_type (location_then text a.location es)
unfolding spelled
argument_tail text d a rows es h g = ap (λ (ys : List ℕ). codes ": " ++ (piece text (text_span a.its_type) ++ ys)) (location_tail text d a.location rows es h g)

arguments_more : (text : List ℕ) (d : ℕ) (args : List Argument) (rows : List Row) (es : List ℕ) → Ends text d rows es
    → (spelled text d (Some parts.ArgumentType) (argument_rows args rows) ≡ more_arguments_then text args (codes ":\n" ++ es)) × (spelled text d (Some parts.ArgumentLocation) (argument_rows args rows) ≡ codes ")" ++ more_arguments_then text args (codes ":\n" ++ es))
unfolding spelled
arguments_more text d [] rows es f = (f.from parts.ArgumentType tt, f.from parts.ArgumentLocation tt)
arguments_more text d (a ∷ args) rows es f =
    let later = arguments_more text d args rows es f in
    let t = argument_tail text d a (argument_rows args rows) (more_arguments_then text args (codes ":\n" ++ es)) later.0 later.1 in
    (ap (λ (ys : List ℕ). codes ", " ++ (piece text a.name ++ ys)) t, ap (λ (ys : List ℕ). codes "), " ++ (piece text a.name ++ ys)) t)

arguments : (text : List ℕ) (d : ℕ) (args : List Argument) (rows : List Row) (es : List ℕ) → Ends text d rows es → spelled text d (Some parts.Label) (argument_rows args rows) ≡ arguments_then text args (codes ":\n" ++ es)
unfolding spelled
arguments text d [] rows es f = f.from parts.Label tt
arguments text d (a ∷ args) rows es f =
    let later = arguments_more text d args rows es f in
    ap (λ (ys : List ℕ). codes "(" ++ (piece text a.name ++ ys)) (argument_tail text d a (argument_rows args rows) (more_arguments_then text args (codes ":\n" ++ es)) later.0 later.1)

signed : (text : List ℕ) (d : ℕ) (o : Option (List Argument)) (rows : List Row) (es : List ℕ) → Ends text d rows es → spelled text d (Some parts.Label) (signed_rows o rows) ≡ signed_then text o (codes ":\n" ++ es)
signed text d None rows es f = f.from parts.Label tt
signed text d (Some args) rows es f = arguments text d args rows es f

-- ---- results, and the name of an operation

result_tail : (text : List ℕ) (d : ℕ) (o : Option Span) (rows : List Row) (es : List ℕ) → FromBoth text d parts.Result parts.Count rows es → spelled text d (Some parts.Result) (maybe_row parts.Count o rows) ≡ count_then text o es
unfolding spelled
result_tail text d None rows es h = h.0
result_tail text d (Some n) rows es h = ap (λ (ys : List ℕ). codes ":" ++ (piece text n ++ ys)) h.1

results_more : (text : List ℕ) (d : ℕ) (rs : List ResultName) (name : Span) (rows : List Row) (es : List ℕ) → spelled text d (Some parts.Name) rows ≡ es
    → FromBoth text d parts.Result parts.Count (result_rows rs (row parts.Name name ∷ rows)) (more_results_then text rs (piece text name ++ es))
unfolding spelled
results_more text d [] name rows es h =
    let t = ap (λ (ys : List ℕ). codes " = " ++ (piece text name ++ ys)) h in
    (t, t)
results_more text d (r ∷ rs) name rows es h =
    let t = ap (λ (ys : List ℕ). codes ", " ++ (piece text r.name ++ ys)) (result_tail text d r.count (result_rows rs (row parts.Name name ∷ rows)) (more_results_then text rs (piece text name ++ es)) (results_more text d rs name rows es h)) in
    (t, t)

results : (text : List ℕ) (d : ℕ) (rs : List ResultName) (name : Span) (rows : List Row) (es : List ℕ) → spelled text d (Some parts.Name) rows ≡ es → Ends text d (result_rows rs (row parts.Name name ∷ rows)) (blanks d ++ results_then text rs (piece text name ++ es))
results text d [] name rows es h = name_line text d name rows es h
results text d (r ∷ rs) name rows es h = result_line text d r.name (maybe_row parts.Count r.count (result_rows rs (row parts.Name name ∷ rows))) (count_then text r.count (more_results_then text rs (piece text name ++ es)))
    (result_tail text d r.count (result_rows rs (row parts.Name name ∷ rows)) (more_results_then text rs (piece text name ++ es)) (results_more text d rs name rows es h))

head : (text : List ℕ) (d : ℕ) (h : Head) (rows : List Row) (es : List ℕ) → Leads text d InProperties rows es
    → Ends text d (result_rows h.results (row parts.Name h.name ∷ use_rows h.operands (successor_rows h.successors (maybe_row parts.Properties h.properties rows))))
    (blanks d ++ results_then text h.results (piece_then text h.name (uses_then text h.operands (successors_then text h.successors (properties_then text h.properties es)))))
head text d h rows es f =
    let with_properties = maybe_row parts.Properties h.properties rows in
    let properties_written = properties_then text h.properties es in
    let s = successors text d h.successors with_properties properties_written (properties text d h.properties rows es f) in
    results text d h.results h.name (use_rows h.operands (successor_rows h.successors with_properties)) (uses_then text h.operands (successors_then text h.successors properties_written))
    (uses text d h.operands (successor_rows h.successors with_properties) (successors_then text h.successors properties_written) s)

-- ---- bodies and regions

from_properties : (p : Part) → InProperties p → InRegions p
from_properties parts.Close h = tt
from_properties _ h = h

no_close : (p : Part) → InProperties p → is_close p ≡ false
no_close parts.Close h = absurd h
no_close _ h = refl

mutual
  unfolding spelled body_rows body_then

  body : (text : List ℕ) (d : ℕ) (b : Body) (rows : List Row) (es : List ℕ) → Ends text d rows es → Ends text d (body_rows b rows) (body_then text d b es)
  body text d done rows es f = f
  body text d (op h rs t b) rows es f =
      let tail_spelled = tail text d t (body_rows b rows) (body_then text d b es) (body text d b rows es f) in
      let behind = regions text d rs (tail_rows t (body_rows b rows)) (tail_then text t (body_then text d b es)) tail_spelled in
      head text d h (region_rows rs (tail_rows t (body_rows b rows))) (regions_then text d rs (tail_then text t (body_then text d b es))) behind
  body text d (block l b) rows es f = label_line text d l.name (signed_rows l.arguments (body_rows b rows)) (signed_then text l.arguments (codes ":\n" ++ body_then text d b es)) (signed text d l.arguments (body_rows b rows) (body_then text d b es) (body text d b rows es f))

  regions : (text : List ℕ) (d : ℕ) (rs : Regions) (rows : List Row) (es : List ℕ) → Leads text d InRegions rows es → Leads text d InProperties (region_rows rs rows) (regions_then text d rs es)
  regions text d none rows es f = record { from = λ p h. f.from p (from_properties p h) }
  regions text d (one start b end rs) rows es f =
      let closed = blanks d ++ (piece text end ++ more_regions_then text d rs es) in
      let inside = body text (suc d) b (row parts.Close end ∷ region_rows rs rows) closed (close_line text (suc d) end (region_rows rs rows) (more_regions_then text d rs es) (more_regions text d rs rows es f)) in
      record { from = λ p h. opened text d p parts.Open start (body_rows b (row parts.Close end ∷ region_rows rs rows)) (codes "\n" ++ body_then text (suc d) b closed) (no_close p h) (inside.from parts.Open tt) }

  more_regions : (text : List ℕ) (d : ℕ) (rs : Regions) (rows : List Row) (es : List ℕ) → Leads text d InRegions rows es → spelled text d (Some parts.Close) (region_rows rs rows) ≡ more_regions_then text d rs es
  more_regions text d none rows es f = f.from parts.Close tt
  more_regions text d (one start b end rs) rows es f =
      let closed = blanks d ++ (piece text end ++ more_regions_then text d rs es) in
      let inside = body text (suc d) b (row parts.Close end ∷ region_rows rs rows) closed (close_line text (suc d) end (region_rows rs rows) (more_regions_then text d rs es) (more_regions text d rs rows es f)) in
      ap (λ (ys : List ℕ). codes ", " ++ (piece text start ++ ys)) (inside.from parts.Open tt)

-- ---- the whole

nothing : (text : List ℕ) (d : ℕ) → Ends text d [] []
unfolding spelled
nothing text d = record { from = λ p h. ap (λ (ys : List ℕ). closing p ++ ys) (sym (append-nil (to_line_end p))) }

-- a line stands first as it does behind a line's end
first_result : (text : List ℕ) (rs : List ResultName) (name : Span) (rows : List Row) → spelled text zero (Some parts.Open) (result_rows rs (row parts.Name name ∷ rows)) ≡ codes "\n" ++ rows_spelled text (result_rows rs (row parts.Name name ∷ rows))
unfolding spelled
first_result text [] name rows = refl
first_result text (r ∷ rs) name rows = refl

-- the same of a tree
first_line : (text : List ℕ) (b : Body) → spelled text zero (Some parts.Open) (tree_rows b) ≡ codes "\n" ++ rows_spelled text (tree_rows b)
unfolding spelled body_rows
first_line text done = refl
first_line text (op h rs t b) = first_result text h.results h.name _
first_line text (block l b) = refl

cut : (xs ys : List ℕ) → codes "\n" ++ xs ≡ codes "\n" ++ ys → xs ≡ ys
cut xs ys e = ap (λ (zs : List ℕ). drop 1 zs) e

pub rows_are_tree : (text : List ℕ) (rows : List Row) (b : Body) → rows ≡ tree_rows b → rows_spelled text rows ≡ tree_text text b
rows_are_tree text rows b e = ap (rows_spelled text) e ∙ cut (rows_spelled text (tree_rows b)) (tree_text text b) (sym (first_line text b) ∙ (body text zero b [] [] (nothing text zero)).from parts.Open tt)
