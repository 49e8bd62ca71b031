-- The text of a tree, part by part.
use Rattle.std.specs.Prelude.{ℕ, zero, suc, ◌++◌, List, [], ◌∷◌, Option, Some, None, codes}
use Rattle.ir_text_tree.specs.declared.row.Span.{Span}
use Rattle.ir_text_tree.specs.declared.text_step.TextKind.{TextKind}
use Rattle.ir_text_tree.specs.declared.text_step.TextKind.TheVariants as kinds
use Rattle.ir_text_tree.specs.Trees.{Text, text_span, ResultName, Use, Entry, ResultTypes, bare, listed, Tail, Argument, Label, Body, Regions, done, op, block, none, one, bare_span}
use Rattle.ir_text_spelling.specs.Marks.{around, blanks}
use Rattle.ir_text_spelling.specs.Spellings.{piece}

-- Each is written in front of what follows it, `es`; names, keys, types, values, properties and locations are pieces of the text that the tree was read of.

abbrev pub piece_then : List ℕ → Span → List ℕ → List ℕ
piece_then text at es = piece text at ++ es

abbrev pub text_then : {k : TextKind} → List ℕ → Text k → List ℕ → List ℕ
text_then text t es = piece_then text (text_span t) es

abbrev pub count_then : List ℕ → Option Span → List ℕ → List ℕ
count_then text None es = es
count_then text (Some n) es = codes ":" ++ piece_then text n es

abbrev pub result_then : List ℕ → ResultName → List ℕ → List ℕ
result_then text r es = piece_then text r.name (count_then text r.count es)

-- each behind a comma, up to the `=`
abbrev pub more_results_then : List ℕ → List ResultName → List ℕ → List ℕ
more_results_then text [] es = codes " = " ++ es
more_results_then text (r ∷ rs) es = codes ", " ++ result_then text r (more_results_then text rs es)

-- without results no `=`
abbrev pub results_then : List ℕ → List ResultName → List ℕ → List ℕ
results_then text [] es = es
results_then text (r ∷ rs) es = result_then text r (more_results_then text rs es)

abbrev pub index_then : List ℕ → Option Span → List ℕ → List ℕ
index_then text None es = es
index_then text (Some n) es = piece_then text n es

abbrev pub use_then : List ℕ → Use → List ℕ → List ℕ
use_then text u es = piece_then text u.name (index_then text u.index es)

abbrev pub more_uses_then : List ℕ → List Use → List ℕ → List ℕ
more_uses_then text [] es = codes ")" ++ es
more_uses_then text (u ∷ us) es = codes ", " ++ use_then text u (more_uses_then text us es)

-- in parentheses, even if there are none
abbrev pub uses_then : List ℕ → List Use → List ℕ → List ℕ
uses_then text [] es = codes "()" ++ es
uses_then text (u ∷ us) es = codes "(" ++ use_then text u (more_uses_then text us es)

abbrev pub more_successors_then : List ℕ → List Span → List ℕ → List ℕ
more_successors_then text [] es = codes "]" ++ es
more_successors_then text (b ∷ bs) es = codes ", " ++ piece_then text b (more_successors_then text bs es)

-- in brackets, if there are any
abbrev pub successors_then : List ℕ → List Span → List ℕ → List ℕ
successors_then text [] es = es
successors_then text (b ∷ bs) es = codes "[" ++ piece_then text b (more_successors_then text bs es)

abbrev pub properties_then : List ℕ → Option Span → List ℕ → List ℕ
properties_then text None es = es
properties_then text (Some p) es = codes " " ++ piece_then text p es

abbrev pub value_then : List ℕ → Option (Text kinds.Value) → List ℕ → List ℕ
value_then text None es = es
value_then text (Some v) es = codes " = " ++ text_then text v es

abbrev pub entry_then : List ℕ → Entry → List ℕ → List ℕ
entry_then text e es = piece_then text e.key.span (value_then text e.value es)

abbrev pub more_entries_then : List ℕ → List Entry → List ℕ → List ℕ
more_entries_then text [] es = codes "}" ++ es
more_entries_then text (e ∷ entries) es = codes ", " ++ entry_then text e (more_entries_then text entries es)

-- in braces, if there are any
abbrev pub entries_then : List ℕ → List Entry → List ℕ → List ℕ
entries_then text [] es = es
entries_then text (e ∷ entries) es = codes " {" ++ entry_then text e (more_entries_then text entries es)

abbrev pub attributes_then : List ℕ → Option (List Entry) → List ℕ → List ℕ
attributes_then text None es = es
attributes_then text (Some entries) es = entries_then text entries es

abbrev pub more_types_then : {k : TextKind} → List ℕ → List (Text k) → List ℕ → List ℕ
more_types_then text [] es = es
more_types_then text (t ∷ ts) es = codes ", " ++ text_then text t (more_types_then text ts es)

abbrev pub types_then : {k : TextKind} → List ℕ → List (Text k) → List ℕ → List ℕ
types_then text [] es = es
types_then text (t ∷ ts) es = text_then text t (more_types_then text ts es)

-- one in no parentheses, as it stood in none; any number in parentheses
abbrev pub result_types_then : List ℕ → ResultTypes → List ℕ → List ℕ
result_types_then text (bare name is_name group) es = piece_then text (bare_span name.span group) es
result_types_then text (listed ts) es = codes "(" ++ types_then text ts (codes ")" ++ es)

abbrev pub location_then : {k : TextKind} → List ℕ → Option (Text k) → List ℕ → List ℕ
location_then text None es = es
location_then text (Some l) es = codes " loc(" ++ text_then text l (codes ")" ++ es)

-- types, then the location and the line's end
abbrev pub signature_then : List ℕ → Tail → List ℕ → List ℕ
signature_then text t es =
    codes " : (" ++ types_then text t.operand_types (codes ") -> " ++ result_types_then text t.result_types (location_then text t.location (codes "\n" ++ es)))

abbrev pub tail_then : List ℕ → Tail → List ℕ → List ℕ
tail_then text t es = attributes_then text t.attributes (signature_then text t es)

abbrev pub argument_then : List ℕ → Argument → List ℕ → List ℕ
argument_then text a es = piece_then text a.name (codes ": " ++ text_then text a.its_type (location_then text a.location es))

abbrev pub more_arguments_then : List ℕ → List Argument → List ℕ → List ℕ
more_arguments_then text [] es = codes ")" ++ es
more_arguments_then text (a ∷ args) es = codes ", " ++ argument_then text a (more_arguments_then text args es)

-- in parentheses, if there are any
abbrev pub arguments_then : List ℕ → List Argument → List ℕ → List ℕ
arguments_then text [] es = es
arguments_then text (a ∷ args) es = codes "(" ++ argument_then text a (more_arguments_then text args es)

abbrev pub signed_then : List ℕ → Option (List Argument) → List ℕ → List ℕ
signed_then text None es = es
signed_then text (Some args) es = arguments_then text args es

-- a block's head is a line
abbrev pub label_then : List ℕ → Label → List ℕ → List ℕ
label_then text l es = piece_then text l.name (signed_then text l.arguments (codes ":\n" ++ es))

-- In so many regions, a line for each operation and each block's head, and for the end of each region. An operation is indented by a level for each region that it stands in; a block's head and the end of a region as the operation that has the region.
unfoldable mutual
  pub body_then : List ℕ → ℕ → Body → List ℕ → List ℕ
  body_then text d done es = es
  body_then text d (op h rs t b) es =
      blanks d ++ results_then text h.results (piece_then text h.name (uses_then text h.operands (
      successors_then text h.successors (properties_then text h.properties (regions_then text d rs (tail_then text t (body_then text d b es)))))))
  body_then text d (block l b) es = blanks (around d) ++ label_then text l (body_then text d b es)

  pub regions_then : List ℕ → ℕ → Regions → List ℕ → List ℕ
  regions_then text d none es = es
  regions_then text d (one from b to rs) es = codes " (" ++ piece_then text from (codes "\n" ++ body_then text (suc d) b (blanks d ++ piece_then text to (more_regions_then text d rs es)))

  pub more_regions_then : List ℕ → ℕ → Regions → List ℕ → List ℕ
  more_regions_then text d none es = codes ")" ++ es
  more_regions_then text d (one from b to rs) es = codes ", " ++ piece_then text from (codes "\n" ++ body_then text (suc d) b (blanks d ++ piece_then text to (more_regions_then text d rs es)))

-- the text of a tree that was read of this text
abbrev pub tree_text : List ℕ → Body → List ℕ
tree_text text b = body_then text zero b []
