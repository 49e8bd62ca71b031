-- The parts of an operation and of a block's head, with others behind them, and what holds of each of them.
use Rattle.std.proofs.Common.{◌≡◌, List, [], ◌∷◌, ◌++◌, Option, Some, None, refl, ap, ◌∙◌}
use Rattle.std.specs.Bool.{⊤}
use Rattle.ir_text_tree.specs.declared.row.Part.{Part}
use Rattle.ir_text_tree.specs.declared.row.Part.TheVariants as parts
use Rattle.ir_text_tree.specs.declared.row.Row.{Row}
use Rattle.ir_text_tree.specs.declared.row.Span.{Span}
use Rattle.ir_text_tree.specs.declared.text_step.TextKind.{TextKind}
use Rattle.ir_text_tree.specs.Rows.{row}
use Rattle.ir_text_tree.specs.TextSteps.{part_of_text}
use Rattle.ir_text_tree.specs.Trees.{Text, text_row, ResultName, Use, Entry, ResultTypes, bare, listed, Head, Tail, Argument, Label, maybe_row, maybe_text_row, result_rows, use_rows, successor_rows, entry_rows, attribute_rows, type_rows, result_type_rows, signature_rows, tail_rows, argument_rows, signed_rows, label_rows}

-- ---- with others behind them

maybe_append : (part : Part) (s : Option Span) (ys xs : List Row) → maybe_row part s (ys ++ xs) ≡ maybe_row part s ys ++ xs
maybe_append part None ys xs = refl
maybe_append part (Some at) ys xs = refl

text_append : {k : TextKind} (t : Option (Text k)) (ys xs : List Row) → maybe_text_row t (ys ++ xs) ≡ maybe_text_row t ys ++ xs
text_append None ys xs = refl
text_append (Some t) ys xs = refl

pub results_append : (rs : List ResultName) (ys xs : List Row) → result_rows rs (ys ++ xs) ≡ result_rows rs ys ++ xs
results_append [] ys xs = refl
results_append (r ∷ rs) ys xs =
    ap (λ (zs : List Row). row parts.Result r.name ∷ maybe_row parts.Count r.count zs) (results_append rs ys xs)
    ∙ ap (λ (zs : List Row). row parts.Result r.name ∷ zs) (maybe_append parts.Count r.count (result_rows rs ys) xs)

uses_append : (us : List Use) (ys xs : List Row) → use_rows us (ys ++ xs) ≡ use_rows us ys ++ xs
uses_append [] ys xs = refl
uses_append (u ∷ us) ys xs =
    ap (λ (zs : List Row). row parts.Operand u.name ∷ maybe_row parts.Index u.index zs) (uses_append us ys xs)
    ∙ ap (λ (zs : List Row). row parts.Operand u.name ∷ zs) (maybe_append parts.Index u.index (use_rows us ys) xs)

successors_append : (bs : List Span) (ys xs : List Row) → successor_rows bs (ys ++ xs) ≡ successor_rows bs ys ++ xs
successors_append [] ys xs = refl
successors_append (b ∷ bs) ys xs = ap (λ (zs : List Row). row parts.Successor b ∷ zs) (successors_append bs ys xs)

pub operands_append : (h : Head) (ys xs : List Row) → use_rows h.operands (successor_rows h.successors (maybe_row parts.Properties h.properties (ys ++ xs))) ≡ use_rows h.operands (successor_rows h.successors (maybe_row parts.Properties h.properties ys)) ++ xs
operands_append h ys xs =
    ap (λ (zs : List Row). use_rows h.operands (successor_rows h.successors zs)) (maybe_append parts.Properties h.properties ys xs)
    ∙ ap (use_rows h.operands) (successors_append h.successors (maybe_row parts.Properties h.properties ys) xs)
    ∙ uses_append h.operands (successor_rows h.successors (maybe_row parts.Properties h.properties ys)) xs

entries_append : (es : List Entry) (ys xs : List Row) → entry_rows es (ys ++ xs) ≡ entry_rows es ys ++ xs
entries_append [] ys xs = refl
entries_append (e ∷ es) ys xs =
    ap (λ (zs : List Row). row parts.Key e.key.span ∷ maybe_text_row e.value zs) (entries_append es ys xs)
    ∙ ap (λ (zs : List Row). row parts.Key e.key.span ∷ zs) (text_append e.value (entry_rows es ys) xs)

attributes_append : (o : Option (List Entry)) (ys xs : List Row) → attribute_rows o (ys ++ xs) ≡ attribute_rows o ys ++ xs
attributes_append None ys xs = refl
attributes_append (Some es) ys xs = entries_append es ys xs

types_append : {k : TextKind} (ts : List (Text k)) (ys xs : List Row) → type_rows ts (ys ++ xs) ≡ type_rows ts ys ++ xs
types_append [] ys xs = refl
types_append (t ∷ ts) ys xs = ap (λ (zs : List Row). text_row t zs) (types_append ts ys xs)

result_types_append : (rs : ResultTypes) (ys xs : List Row) → result_type_rows rs (ys ++ xs) ≡ result_type_rows rs ys ++ xs
result_types_append (bare name is_name group) ys xs = refl
result_types_append (listed ts) ys xs = types_append ts ys xs

pub tail_append : (t : Tail) (ys xs : List Row) → tail_rows t (ys ++ xs) ≡ tail_rows t ys ++ xs
tail_append t ys xs =
    ap (λ (zs : List Row). attribute_rows t.attributes (type_rows t.operand_types (result_type_rows t.result_types zs))) (text_append t.location ys xs)
    ∙ ap (λ (zs : List Row). attribute_rows t.attributes (type_rows t.operand_types zs)) (result_types_append t.result_types (maybe_text_row t.location ys) xs)
    ∙ ap (attribute_rows t.attributes) (types_append t.operand_types (result_type_rows t.result_types (maybe_text_row t.location ys)) xs)
    ∙ attributes_append t.attributes (signature_rows t.operand_types t.result_types t.location ys) xs

arguments_append : (args : List Argument) (ys xs : List Row) → argument_rows args (ys ++ xs) ≡ argument_rows args ys ++ xs
arguments_append [] ys xs = refl
arguments_append (a ∷ args) ys xs =
    ap (λ (zs : List Row). row parts.Argument a.name ∷ text_row a.its_type (maybe_text_row a.location zs)) (arguments_append args ys xs)
    ∙ ap (λ (zs : List Row). row parts.Argument a.name ∷ text_row a.its_type zs) (text_append a.location (argument_rows args ys) xs)

signed_append : (o : Option (List Argument)) (ys xs : List Row) → signed_rows o (ys ++ xs) ≡ signed_rows o ys ++ xs
signed_append None ys xs = refl
signed_append (Some args) ys xs = arguments_append args ys xs

pub label_append : (l : Label) (ys xs : List Row) → label_rows l (ys ++ xs) ≡ label_rows l ys ++ xs
label_append l ys xs = ap (λ (zs : List Row). row parts.Label l.name ∷ zs) (signed_append l.arguments ys xs)

-- ---- what holds of each

-- that holds of each of these
abbrev pub Each : (Part → Type 0) → List Row → Type 0
Each P [] = ⊤
Each P (x ∷ xs) = P x.part × Each P xs

maybe_each : (P : Part → Type 0) (part : Part) (s : Option Span) (ys : List Row) → P part → Each P ys → Each P (maybe_row part s ys)
maybe_each P part None ys p h = h
maybe_each P part (Some at) ys p h = (p, h)

text_each : (P : Part → Type 0) {k : TextKind} (t : Option (Text k)) (ys : List Row) → P (part_of_text k) → Each P ys → Each P (maybe_text_row t ys)
text_each P None ys p h = h
text_each P (Some t) ys p h = (p, h)

pub results_each : (P : Part → Type 0) (rs : List ResultName) (ys : List Row) → P parts.Result → P parts.Count → Each P ys → Each P (result_rows rs ys)
results_each P [] ys r c h = h
results_each P (x ∷ rs) ys r c h = (r, maybe_each P parts.Count x.count (result_rows rs ys) c (results_each P rs ys r c h))

uses_each : (P : Part → Type 0) (us : List Use) (ys : List Row) → P parts.Operand → P parts.Index → Each P ys → Each P (use_rows us ys)
uses_each P [] ys o i h = h
uses_each P (u ∷ us) ys o i h = (o, maybe_each P parts.Index u.index (use_rows us ys) i (uses_each P us ys o i h))

successors_each : (P : Part → Type 0) (bs : List Span) (ys : List Row) → P parts.Successor → Each P ys → Each P (successor_rows bs ys)
successors_each P [] ys s h = h
successors_each P (b ∷ bs) ys s h = (s, successors_each P bs ys s h)

pub operands_each : (P : Part → Type 0) (h : Head) → P parts.Operand → P parts.Index → P parts.Successor → P parts.Properties → Each P (use_rows h.operands (successor_rows h.successors (maybe_row parts.Properties h.properties [])))
operands_each P h o i s p =
    uses_each P h.operands (successor_rows h.successors (maybe_row parts.Properties h.properties [])) o i
    (successors_each P h.successors (maybe_row parts.Properties h.properties []) s (maybe_each P parts.Properties h.properties [] p tt))

entries_each : (P : Part → Type 0) (es : List Entry) (ys : List Row) → P parts.Key → P parts.Value → Each P ys → Each P (entry_rows es ys)
entries_each P [] ys k v h = h
entries_each P (e ∷ es) ys k v h = (k, text_each P e.value (entry_rows es ys) v (entries_each P es ys k v h))

attributes_each : (P : Part → Type 0) (o : Option (List Entry)) (ys : List Row) → P parts.Key → P parts.Value → Each P ys → Each P (attribute_rows o ys)
attributes_each P None ys k v h = h
attributes_each P (Some es) ys k v h = entries_each P es ys k v h

types_each : (P : Part → Type 0) {k : TextKind} (ts : List (Text k)) (ys : List Row) → P (part_of_text k) → Each P ys → Each P (type_rows ts ys)
types_each P [] ys p h = h
types_each P (t ∷ ts) ys p h = (p, types_each P ts ys p h)

result_types_each : (P : Part → Type 0) (rs : ResultTypes) (ys : List Row) → P parts.ResultType → P parts.OnlyResultType → Each P ys → Each P (result_type_rows rs ys)
result_types_each P (bare name is_name group) ys r o h = (o, h)
result_types_each P (listed ts) ys r o h = types_each P ts ys r h

pub tail_each : (P : Part → Type 0) (t : Tail) → P parts.Key → P parts.Value → P parts.OperandType → P parts.ResultType → P parts.OnlyResultType → P parts.Location → Each P (tail_rows t [])
tail_each P t k v o r only l =
    attributes_each P t.attributes (signature_rows t.operand_types t.result_types t.location []) k v
    (types_each P t.operand_types (result_type_rows t.result_types (maybe_text_row t.location [])) o
    (result_types_each P t.result_types (maybe_text_row t.location []) r only (text_each P t.location [] l tt)))

arguments_each : (P : Part → Type 0) (args : List Argument) (ys : List Row) → P parts.Argument → P parts.ArgumentType → P parts.ArgumentLocation → Each P ys → Each P (argument_rows args ys)
arguments_each P [] ys a t l h = h
arguments_each P (x ∷ args) ys a t l h = (a, (t, text_each P x.location (argument_rows args ys) l (arguments_each P args ys a t l h)))

pub signed_each : (P : Part → Type 0) (o : Option (List Argument)) → P parts.Argument → P parts.ArgumentType → P parts.ArgumentLocation → Each P (signed_rows o [])
signed_each P None a t l = tt
signed_each P (Some args) a t l = arguments_each P args [] a t l tt

pub label_each : (P : Part → Type 0) (l : Label) → P parts.Label → P parts.Argument → P parts.ArgumentType → P parts.ArgumentLocation → Each P (label_rows l [])
label_each P l b a t o = (b, signed_each P l.arguments a t o)
