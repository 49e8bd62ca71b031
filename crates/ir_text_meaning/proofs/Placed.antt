-- Parts of a sort by their places in an operation.
use Rattle.std.proofs.Common.{◌≡◌, ℕ, zero, suc, ◌+◌, ◌<◌, Bool, true, false, cond, List, [], ◌∷◌, length, Option, Some, None, refl, sym, ap, subst, ◌∙◌, zero-add, arith}
use Rattle.std.proofs.lemmas.Bool.{false≢true}
use Rattle.ir_text_tree.specs.declared.row.Part.{Part}
use Rattle.ir_text_tree.specs.declared.row.Part.TheVariants as parts
use Rattle.ir_text_tree.specs.declared.row.Row.{Row}
use Rattle.ir_text_tree.specs.declared.row.Span.{Span}
use Rattle.ir_text_tree.specs.declared.text_step.TextKind.{TextKind}
use Rattle.ir_text_tree.specs.TextSteps.{part_of_text}
use Rattle.ir_text_tree.specs.Rows.{row}
use Rattle.ir_text_tree.specs.Trees.{Text, bare_span, Entry, ResultTypes, bare, listed, Tail, maybe_text_row, entry_rows, attribute_rows, type_rows, result_type_rows}
use Rattle.ir_text_names.specs.Rows.{row_of}
use Rattle.ir_text_names.specs.Sorts.{is_operand_type, is_result_type}
use Rattle.ir_text_meaning.specs.Parts.{tail_parts}
use Rattle.ir_text_meaning.specs.ValueTypes.{IsNth, IsNthResult}

-- of how many rows before that one the test holds
abbrev pub count_before : (Part → Bool) → List Row → ℕ → ℕ
count_before f ys zero = 0
count_before f [] (suc j) = 0
count_before f (y ∷ ys) (suc j) = cond (f y.part) 1 0 + count_before f ys j

-- The rows for which the test holds are those, by how many stand before each.
pub record Lists (f : Part → Bool) (ys : List Row) (N : ℕ → Span → Type 0) : Type 0 where
  pub found : (j : ℕ) → j < length ys → f (row_of ys j).part ≡ true → N (count_before f ys j) (row_of ys j).span
  pub there : (p : ℕ) (s : Span) → N p s → (j : ℕ) × (j < length ys) × (f (row_of ys j).part ≡ true) × ((row_of ys j).span ≡ s) × (count_before f ys j ≡ p)

-- one row more, of which the test does not hold
lists_other : (f : Part → Bool) (x : Row) (ys : List Row) (N : ℕ → Span → Type 0) → f x.part ≡ false → Lists f ys N → Lists f (x ∷ ys) N
lists_other f x ys N e h =
    let same : (j : ℕ) → count_before f (x ∷ ys) (suc j) ≡ count_before f ys j = λ j. ap (λ (t : Bool). cond t 1 0 + count_before f ys j) e ∙ zero-add (count_before f ys j) in
    record {
      found = λ j lt is. other_found f x ys N e h same j lt is;
      there = λ p s is. let r = h.there p s is in let lt : r.0 < length ys = r.1 in (suc r.0, omega (arith, lt), r.2, r.3, same r.0 ∙ r.4);
    }
  where
    other_found : (f : Part → Bool) (x : Row) (ys : List Row) (N : ℕ → Span → Type 0) → f x.part ≡ false → Lists f ys N → ((j : ℕ) → count_before f (x ∷ ys) (suc j) ≡ count_before f ys j) → (j : ℕ) → j < length (x ∷ ys) → f (row_of (x ∷ ys) j).part ≡ true
        → N (count_before f (x ∷ ys) j) (row_of (x ∷ ys) j).span
    other_found f x ys N e h same zero lt is = absurd (false≢true (sym e ∙ is))
    other_found f x ys N e h same (suc j) lt is = subst (λ (p : ℕ). N p (row_of ys j).span) (sym (same j)) (h.found j (omega (arith, lt)) is)

-- types of that sort, and then rows of which the test does not hold
types_found : (f : Part → Bool) {k : TextKind} (ts : List (Text k)) (ys : List Row) → f (part_of_text k) ≡ true → ((j : ℕ) → j < length ys → f (row_of ys j).part ≡ true → ⊥) → (j : ℕ) → j < length (type_rows ts ys) → f (row_of (type_rows ts ys) j).part ≡ true
    → IsNth ts (count_before f (type_rows ts ys) j) (row_of (type_rows ts ys) j).span
types_found f [] ys e h j lt is = h j lt is
types_found f (t ∷ ts) ys e h zero lt is = refl
types_found f (t ∷ ts) ys e h (suc j) lt is =
    let more : suc (count_before f (type_rows ts ys) j) ≡ count_before f (type_rows (t ∷ ts) ys) (suc j) = one_more (f (part_of_text _)) (count_before f (type_rows ts ys) j) e in
    subst (λ (p : ℕ). IsNth (t ∷ ts) p (row_of (type_rows ts ys) j).span) more (types_found f ts ys e h j (omega (arith, lt)) is)
  where
    one_more : (b : Bool) (n : ℕ) → b ≡ true → suc n ≡ cond b 1 0 + n
    one_more b n e = let sum : suc n ≡ 1 + n = omega arith in sum ∙ ap (λ (t : Bool). cond t 1 0 + n) (sym e)

types_there : (f : Part → Bool) {k : TextKind} (ts : List (Text k)) (ys : List Row) → f (part_of_text k) ≡ true → (p : ℕ) (s : Span) → IsNth ts p s
    → (j : ℕ) × (j < length (type_rows ts ys)) × (f (row_of (type_rows ts ys) j).part ≡ true) × ((row_of (type_rows ts ys) j).span ≡ s) × (count_before f (type_rows ts ys) j ≡ p)
types_there f [] ys e p s is = absurd is
types_there f (t ∷ ts) ys e zero s is = let lt : 0 < suc (length (type_rows ts ys)) = omega arith in (0, lt, e, is, refl)
types_there f (t ∷ ts) ys e (suc p) s is =
    let r = types_there f ts ys e p s is in
    let lt : r.0 < length (type_rows ts ys) = r.1 in
    let same : count_before f (type_rows ts ys) r.0 ≡ p = r.4 in
    let more : cond (f (part_of_text _)) 1 0 + count_before f (type_rows ts ys) r.0 ≡ 1 + count_before f (type_rows ts ys) r.0 = ap (λ (b : Bool). cond b 1 0 + count_before f (type_rows ts ys) r.0) e in
    let sum : 1 + count_before f (type_rows ts ys) r.0 ≡ suc p = omega (arith, same) in
    (suc r.0, omega (arith, lt), r.2, r.3, more ∙ sum)

lists_types : (f : Part → Bool) {k : TextKind} (ts : List (Text k)) (ys : List Row) → f (part_of_text k) ≡ true → ((j : ℕ) → j < length ys → f (row_of ys j).part ≡ true → ⊥) → Lists f (type_rows ts ys) (IsNth ts)
lists_types f ts ys e h = record { found = types_found f ts ys e h; there = types_there f ts ys e }

lists_text : (f : Part → Bool) {k : TextKind} (t : Option (Text k)) (ys : List Row) (N : ℕ → Span → Type 0) → f (part_of_text k) ≡ false → Lists f ys N → Lists f (maybe_text_row t ys) N
lists_text f None ys N e h = h
lists_text f (Some t) ys N e h = lists_other f _ ys N e h

lists_entries : (f : Part → Bool) (es : List Entry) (ys : List Row) (N : ℕ → Span → Type 0) → f parts.Key ≡ false → f parts.Value ≡ false → Lists f ys N → Lists f (entry_rows es ys) N
lists_entries f [] ys N k v h = h
lists_entries f (e ∷ es) ys N k v h = lists_other f _ (maybe_text_row e.value (entry_rows es ys)) N k (lists_text f e.value (entry_rows es ys) N v (lists_entries f es ys N k v h))

lists_attributes : (f : Part → Bool) (o : Option (List Entry)) (ys : List Row) (N : ℕ → Span → Type 0) → f parts.Key ≡ false → f parts.Value ≡ false → Lists f ys N → Lists f (attribute_rows o ys) N
lists_attributes f None ys N k v h = h
lists_attributes f (Some es) ys N k v h = lists_entries f es ys N k v h

lists_other_types : (f : Part → Bool) {k : TextKind} (ts : List (Text k)) (ys : List Row) (N : ℕ → Span → Type 0) → f (part_of_text k) ≡ false → Lists f ys N → Lists f (type_rows ts ys) N
lists_other_types f [] ys N e h = h
lists_other_types f (t ∷ ts) ys N e h = lists_other f _ (type_rows ts ys) N e (lists_other_types f ts ys N e h)

no_type_in_location : {k : TextKind} (f : Part → Bool) (l : Option (Text k)) → f (part_of_text k) ≡ false → (j : ℕ) → j < length (maybe_text_row l []) → f (row_of (maybe_text_row l []) j).part ≡ true → ⊥
no_type_in_location f None e j lt is = absurd (omega (arith, lt))
no_type_in_location f (Some t) e zero lt is = false≢true (sym e ∙ is)
no_type_in_location f (Some t) e (suc j) lt is = absurd (omega (arith, lt))

no_operand_type_in_results : (rs : ResultTypes) (l : List Row) → ((j : ℕ) → j < length l → is_operand_type (row_of l j).part ≡ true → ⊥) → (j : ℕ) → j < length (result_type_rows rs l) → is_operand_type (row_of (result_type_rows rs l) j).part ≡ true → ⊥
no_operand_type_in_results (bare name is_name group) l h zero lt is = false≢true is
no_operand_type_in_results (bare name is_name group) l h (suc j) lt is = h j (omega (arith, lt)) is
no_operand_type_in_results (listed ts) l h j lt is = in_types ts l refl h j lt is
  where
    in_types : {k : TextKind} (ts : List (Text k)) (l : List Row) → is_operand_type (part_of_text k) ≡ false → ((j : ℕ) → j < length l → is_operand_type (row_of l j).part ≡ true → ⊥) → (j : ℕ) → j < length (type_rows ts l) → is_operand_type (row_of (type_rows ts l) j).part ≡ true → ⊥
    in_types [] l e h j lt is = h j lt is
    in_types (t ∷ ts) l e h zero lt is = false≢true (sym e ∙ is)
    in_types (t ∷ ts) l e h (suc j) lt is = in_types ts l e h j (omega (arith, lt)) is

pub lists_operand_types : (t : Tail) → Lists is_operand_type (tail_parts t) (IsNth t.operand_types)
lists_operand_types t =
    let last = maybe_text_row t.location [] in
    let results = result_type_rows t.result_types last in
    lists_attributes is_operand_type t.attributes (type_rows t.operand_types results) (IsNth t.operand_types) refl refl
    (lists_types is_operand_type t.operand_types results refl (no_operand_type_in_results t.result_types last (no_type_in_location is_operand_type t.location refl)))

lists_results : (rs : ResultTypes) (l : List Row) → ((j : ℕ) → j < length l → is_result_type (row_of l j).part ≡ true → ⊥) → Lists is_result_type (result_type_rows rs l) (IsNthResult rs)
lists_results (bare name is_name group) l h = record {
  found = λ j lt is. bare_found name.span group l h j lt is;
  there = λ p s is. let size : 0 < suc (length l) = omega arith in (0, size, refl, is.1, sym is.0);
}
  where
    bare_found : (name : Span) (group : Option Span) (l : List Row) → ((j : ℕ) → j < length l → is_result_type (row_of l j).part ≡ true → ⊥) → (j : ℕ) → j < suc (length l) → is_result_type (row_of (row parts.OnlyResultType (bare_span name group) ∷ l) j).part ≡ true
        → (count_before is_result_type (row parts.OnlyResultType (bare_span name group) ∷ l) j ≡ 0) × (bare_span name group ≡ (row_of (row parts.OnlyResultType (bare_span name group) ∷ l) j).span)
    bare_found name group l h zero lt is = (refl, refl)
    bare_found name group l h (suc j) lt is = absurd (h j (omega (arith, lt)) is)
lists_results (listed ts) l h = lists_types is_result_type ts l refl h

pub lists_result_types : (t : Tail) → Lists is_result_type (tail_parts t) (IsNthResult t.result_types)
lists_result_types t =
    let last = maybe_text_row t.location [] in
    let results = result_type_rows t.result_types last in
    lists_attributes is_result_type t.attributes (type_rows t.operand_types results) (IsNthResult t.result_types) refl refl
    (lists_other_types is_result_type t.operand_types results (IsNthResult t.result_types) refl (lists_results t.result_types last (no_type_in_location is_result_type t.location refl)))
