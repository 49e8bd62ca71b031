-- An operation's and a block's parts of a sort are those that the tree lists.
use Rattle.std.proofs.Common.{◌≡◌, Bool, true, false, cond, List, [], ◌∷◌, map, Option, Some, None, refl, ap, ◌∙◌}
use Rattle.ir_text_tree.specs.declared.row.Part.{Part}
use Rattle.ir_text_tree.specs.declared.row.Part.TheVariants as parts
use Rattle.ir_text_tree.specs.declared.row.Row.{Row}
use Rattle.ir_text_tree.specs.declared.row.Span.{Span}
use Rattle.ir_text_tree.specs.declared.text_step.TextKind.{TextKind}
use Rattle.ir_text_tree.specs.TextSteps.{part_of_text}
use Rattle.ir_text_tree.specs.Trees.{Text, text_span, ResultName, Use, Entry, ResultTypes, bare, listed, Head, Tail, Argument, Label, maybe_row, maybe_text_row, result_rows, use_rows, successor_rows, entry_rows, attribute_rows, type_rows, result_type_rows, argument_rows, signed_rows}
use Rattle.ir_text_names.specs.Sorts.{is_operand, is_operand_type}
use Rattle.ir_text_meaning.specs.Parts.{result_parts, operand_parts, tail_parts, label_parts}
use Rattle.ir_text_meaning.specs.Listings.{places_of, is_result_name, is_successor, is_key, is_argument_name, key_places, argument_places, type_places}

other_part : (f : Part → Bool) (x : Row) (ys : List Row) → f x.part ≡ false → places_of f (x ∷ ys) ≡ places_of f ys
other_part f x ys e = ap (λ (b : Bool). cond b (x.span ∷ places_of f ys) (places_of f ys)) e

this_part : (f : Part → Bool) (x : Row) (ys : List Row) → f x.part ≡ true → places_of f (x ∷ ys) ≡ x.span ∷ places_of f ys
this_part f x ys e = ap (λ (b : Bool). cond b (x.span ∷ places_of f ys) (places_of f ys)) e

maybe_part : (f : Part → Bool) (part : Part) (s : Option Span) (ys : List Row) → f part ≡ false → places_of f (maybe_row part s ys) ≡ places_of f ys
maybe_part f part None ys e = refl
maybe_part f part (Some at) ys e = other_part f _ ys e

maybe_text : (f : Part → Bool) {k : TextKind} (t : Option (Text k)) (ys : List Row) → f (part_of_text k) ≡ false → places_of f (maybe_text_row t ys) ≡ places_of f ys
maybe_text f None ys e = refl
maybe_text f (Some t) ys e = other_part f _ ys e

results_places : (rs : List ResultName) → places_of is_result_name (result_rows rs []) ≡ map (λ (r : ResultName). r.name) rs
results_places [] = refl
results_places (r ∷ rs) = ap (λ (xs : List Span). r.name ∷ xs) (maybe_part is_result_name parts.Count r.count (result_rows rs []) refl ∙ results_places rs)

pub results_listed : (h : Head) → places_of is_result_name (result_parts h) ≡ map (λ (r : ResultName). r.name) h.results
results_listed h = results_places h.results

uses_places : (us : List Use) (ys : List Row) → places_of is_operand ys ≡ [] → places_of is_operand (use_rows us ys) ≡ map (λ (u : Use). u.name) us
uses_places [] ys e = e
uses_places (u ∷ us) ys e = ap (λ (xs : List Span). u.name ∷ xs) (maybe_part is_operand parts.Index u.index (use_rows us ys) refl ∙ uses_places us ys e)

no_successor : (f : Part → Bool) (bs : List Span) (ys : List Row) → f parts.Successor ≡ false → places_of f (successor_rows bs ys) ≡ places_of f ys
no_successor f [] ys e = refl
no_successor f (b ∷ bs) ys e = other_part f _ (successor_rows bs ys) e ∙ no_successor f bs ys e

pub operands_listed : (h : Head) → places_of is_operand (operand_parts h) ≡ map (λ (u : Use). u.name) h.operands
operands_listed h =
    uses_places h.operands (successor_rows h.successors (maybe_row parts.Properties h.properties []))
    (no_successor is_operand h.successors (maybe_row parts.Properties h.properties []) refl ∙ maybe_part is_operand parts.Properties h.properties [] refl)

no_use : (us : List Use) (ys : List Row) → places_of is_successor (use_rows us ys) ≡ places_of is_successor ys
no_use [] ys = refl
no_use (u ∷ us) ys = maybe_part is_successor parts.Index u.index (use_rows us ys) refl ∙ no_use us ys

successor_places : (bs : List Span) (ys : List Row) → places_of is_successor ys ≡ [] → places_of is_successor (successor_rows bs ys) ≡ bs
successor_places [] ys e = e
successor_places (b ∷ bs) ys e = ap (λ (xs : List Span). b ∷ xs) (successor_places bs ys e)

pub successors_listed : (h : Head) → places_of is_successor (operand_parts h) ≡ h.successors
successors_listed h =
    no_use h.operands (successor_rows h.successors (maybe_row parts.Properties h.properties []))
    ∙ successor_places h.successors (maybe_row parts.Properties h.properties []) (maybe_part is_successor parts.Properties h.properties [] refl)

-- ---- behind the regions

entry_places : (es : List Entry) (ys : List Row) → places_of is_key ys ≡ [] → places_of is_key (entry_rows es ys) ≡ map (λ (e : Entry). e.key.span) es
entry_places [] ys h = h
entry_places (e ∷ es) ys h = ap (λ (xs : List Span). e.key.span ∷ xs) (maybe_text is_key e.value (entry_rows es ys) refl ∙ entry_places es ys h)

attribute_places : (o : Option (List Entry)) (ys : List Row) → places_of is_key ys ≡ [] → places_of is_key (attribute_rows o ys) ≡ key_places o
attribute_places None ys h = h
attribute_places (Some es) ys h = entry_places es ys h

no_type : (f : Part → Bool) {k : TextKind} (ts : List (Text k)) (ys : List Row) → f (part_of_text k) ≡ false → places_of f (type_rows ts ys) ≡ places_of f ys
no_type f [] ys e = refl
no_type f (t ∷ ts) ys e = other_part f _ (type_rows ts ys) e ∙ no_type f ts ys e

no_key_in_results : (rs : ResultTypes) (ys : List Row) → places_of is_key (result_type_rows rs ys) ≡ places_of is_key ys
no_key_in_results (bare name is_name group) ys = refl
no_key_in_results (listed ts) ys = no_type is_key ts ys refl

no_operand_type_in_results : (rs : ResultTypes) (ys : List Row) → places_of is_operand_type (result_type_rows rs ys) ≡ places_of is_operand_type ys
no_operand_type_in_results (bare name is_name group) ys = refl
no_operand_type_in_results (listed ts) ys = no_type is_operand_type ts ys refl

pub keys_listed : (t : Tail) → places_of is_key (tail_parts t) ≡ key_places t.attributes
keys_listed t =
    let last = maybe_text_row t.location [] in
    let results = result_type_rows t.result_types last in
    attribute_places t.attributes (type_rows t.operand_types results)
    (no_type is_key t.operand_types results refl ∙ no_key_in_results t.result_types last ∙ maybe_text is_key t.location [] refl)

no_entry : (es : List Entry) (ys : List Row) → places_of is_operand_type (entry_rows es ys) ≡ places_of is_operand_type ys
no_entry [] ys = refl
no_entry (e ∷ es) ys = maybe_text is_operand_type e.value (entry_rows es ys) refl ∙ no_entry es ys

no_attribute : (o : Option (List Entry)) (ys : List Row) → places_of is_operand_type (attribute_rows o ys) ≡ places_of is_operand_type ys
no_attribute None ys = refl
no_attribute (Some es) ys = no_entry es ys

all_types : {k : TextKind} (ts : List (Text k)) (ys : List Row) → is_operand_type (part_of_text k) ≡ true → places_of is_operand_type ys ≡ [] → places_of is_operand_type (type_rows ts ys) ≡ type_places ts
all_types [] ys e h = h
all_types (t ∷ ts) ys e h = this_part is_operand_type _ (type_rows ts ys) e ∙ ap (λ (xs : List Span). text_span t ∷ xs) (all_types ts ys e h)

pub operand_types_listed : (t : Tail) → places_of is_operand_type (tail_parts t) ≡ type_places t.operand_types
operand_types_listed t =
    let last = maybe_text_row t.location [] in
    let results = result_type_rows t.result_types last in
    no_attribute t.attributes (type_rows t.operand_types results)
    ∙ all_types t.operand_types results refl (no_operand_type_in_results t.result_types last ∙ maybe_text is_operand_type t.location [] refl)

-- ---- a block's head

arguments_places : (args : List Argument) → places_of is_argument_name (argument_rows args []) ≡ map (λ (a : Argument). a.name) args
arguments_places [] = refl
arguments_places (a ∷ args) = ap (λ (xs : List Span). a.name ∷ xs) (maybe_text is_argument_name a.location (argument_rows args []) refl ∙ arguments_places args)

signed_places : (o : Option (List Argument)) → places_of is_argument_name (signed_rows o []) ≡ argument_places o
signed_places None = refl
signed_places (Some args) = arguments_places args

pub arguments_listed : (l : Label) → places_of is_argument_name (label_parts l) ≡ argument_places l.arguments
arguments_listed l = signed_places l.arguments
