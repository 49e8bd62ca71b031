-- The types of operands and of values, by rows and in the tree.
use Rattle.std.proofs.Common.{◌≡◌, ◌↔◌, ℕ, zero, suc, ◌+◌, ◌-◌, ◌<◌, ◌≤◌, ◌^◌, Bool, true, cond, List, [], ◌∷◌, length, drop, Option, Some, None, refl, sym, ap, subst, ◌∙◌, inl, inr, ⊎_elim, zero-add, arith}
use Rattle.std.proofs.lemmas.Bool.{false≢true}
use Rattle.std.proofs.lemmas.List.{drop_more}
use Rattle.ir_text_tree.specs.declared.row.Part.{Part}
use Rattle.ir_text_tree.specs.declared.row.Part.TheVariants as parts
use Rattle.ir_text_tree.specs.declared.row.Row.{Row}
use Rattle.ir_text_tree.specs.declared.row.Span.{Span}
use Rattle.ir_text_tree.specs.declared.text_step.TextKind.TheVariants as text_kinds
use Rattle.ir_text_tree.specs.Rows.{row}
use Rattle.ir_text_tree.specs.Trees.{Text, ResultName, Use, Argument, Label, Body, maybe_row, maybe_text_row, use_rows, result_rows, argument_rows, signed_rows, tree_rows}
use Rattle.ir_text_names.specs.Rows.{no_row, row_of, part_of, piece}
use Rattle.ir_text_names.specs.Counts.{tally}
use Rattle.ir_text_names.specs.Sorts.{is_operand, is_operand_type, is_result_type}
use Rattle.ir_text_names.specs.Numbers.{results_before}
use Rattle.ir_text_names.specs.Types.{operation_of, IsOperandType, name_or, next_from, next_operation, IsResultType, IsArgumentType, IsTypeOf, IsValueType, HasOtherType, IsTypeOther}
use Rattle.ir_text_names.specs.Values.{IsDefinition, defines}
use Rattle.ir_text_meaning.specs.Parts.{Operation, result_parts, operand_parts, tail_parts, label_parts, named_size, head_size, regions_size, HasOperation, HasLabel, IsAmong}
use Rattle.ir_text_meaning.specs.Regions.{IsWithin}
use Rattle.ir_text_meaning.specs.Numbered.{mark_size, values_of, IsResultAt}
use Rattle.ir_text_meaning.specs.Values.{IsUseAt}
use Rattle.ir_text_meaning.specs.ValueTypes.{IsNth, IsNthResult, IsTypeOfUse, IsTypeOfValue, HasOtherTypeThere, IsTypeOtherAt}
use Rattle.ir_text_meaning.proofs.Walks.{operation_at, label_at, label_fact, name_fact, result_fact}
use Rattle.ir_text_meaning.proofs.Places.{among_there}
use Rattle.ir_text_meaning.proofs.Homes.{home, of_operation, of_label, result_home}
use Rattle.ir_text_meaning.proofs.Bodies.{tree_frame, frame}
use Rattle.ir_text_meaning.proofs.NameMeanings.{Home, definition_home, part_in, values_meet, row_within}
use Rattle.ir_text_meaning.proofs.Owned.{behind_fact, owned}
use Rattle.ir_text_meaning.proofs.Counting.{Listed, is_row_of, listed_inside, listed_outside, listed_operands, listed_operand_types, listed_result_types, tally_same, tally_zero, operand_type_at_home, result_type_at_home}
use Rattle.ir_text_meaning.proofs.Results.{result_there, count_length}
use Rattle.ir_text_meaning.proofs.Indexed.{use_fact, use_of, result_found, FoundResult, is_result, behind_operands, clear_meets}
use Rattle.ir_text_meaning.proofs.Placed.{count_before, lists_operand_types, lists_result_types}

-- ---- places

tally_front : (test : ℕ → Bool) (f : Part → Bool) (ys : List Row) (n : ℕ) → ((j : ℕ) → j < length ys → test (n + j) ≡ f (row_of ys j).part) → (j : ℕ) → j ≤ length ys → tally test (n + j) ≡ tally test n + count_before f ys j
unfolding tally
tally_front test f ys n h zero le = let e : n + 0 ≡ n = omega arith in let g : tally test (n + 0) ≡ tally test n = ap (tally test) e in omega (arith, g)
tally_front test f [] n h (suc j) le = absurd (omega (arith, le))
tally_front test f (y ∷ ys) n h (suc j) le =
    let later : (i : ℕ) → i < length ys → test (suc n + i) ≡ f (row_of ys i).part =
    λ i lt. let g : suc n + i ≡ n + suc i = omega arith in ap test g ∙ h (suc i) (omega (arith, lt)) in
    let rest = tally_front test f ys (suc n) later j (omega (arith, le)) in
    let at : n ≡ n + 0 = omega arith in
    let here : test n ≡ f y.part = ap test at ∙ h 0 (omega arith) in
    let first : tally test (suc n) ≡ tally test n + cond (f y.part) 1 0 = ap (λ (b : Bool). tally test n + cond b 1 0) here in
    let e : n + suc j ≡ suc n + j = omega arith in
    let all : tally test (n + suc j) ≡ tally test (suc n + j) = ap (tally test) e in
    omega (arith, rest, first, all)

-- how many rows with such a part stand before row i in its operation
abbrev place_in : (Part → Bool) → List Row → ℕ → ℕ
place_in f rows i = tally (is_row_of f rows (operation_of rows i)) i

place_is : (f : Part → Bool) (b c : Body) (n : ℕ) (o : Operation) (k m : ℕ) (ys : List Row) → IsWithin c n b 0 → HasOperation c n o k → Listed f o k m ys → (i j : ℕ) → j < length ys → i ≡ m + j → place_in f (tree_rows b) i ≡ count_before f ys j
place_is f b c n o k m ys w h l i j lt at =
    let rows = tree_rows b in
    let operation = k + named_size o.head in
    let test = is_row_of f rows operation in
    let own : operation_of rows i ≡ operation = ap (operation_of rows) at ∙ (behind_fact b c n o k (m + j) (row_of ys j) w h (l.behind j lt)).operation in
    let front = tally_same test 0 m (λ q from to. listed_outside f b c n o k m ys w h l q (inl (omega (arith, to)))) in
    let middle = tally_front test f ys m (listed_inside f b c n o k m ys w h l) j (omega (arith, lt)) in
    let i_zero : tally test (0 + m) ≡ tally test m = ap (tally test) (zero-add m) in
    let z = tally_zero test in
    ap (λ (q : ℕ). tally (is_row_of f rows q) i) own ∙ ap (tally test) at ∙ omega (arith, front, middle, i_zero, z)

-- ---- operands

behind_mark_count : (index : Option Span) (x : Row) (ys : List Row) (j : ℕ) → is_operand x.part ≡ true → count_before is_operand (x ∷ maybe_row parts.Index index ys) (suc (mark_size index + j)) ≡ suc (count_before is_operand ys j)
behind_mark_count None x ys j is =
    let e : 0 + j ≡ j = omega arith in
    let sum : 1 + count_before is_operand ys j ≡ suc (count_before is_operand ys j) = omega arith in
    ap (λ (b : Bool). cond b 1 0 + count_before is_operand ys (0 + j)) is ∙ ap (λ (i : ℕ). 1 + count_before is_operand ys i) e ∙ sum
behind_mark_count (Some at) x ys j is =
    let e : 1 + j ≡ suc j = omega arith in
    let sum : 1 + (0 + count_before is_operand ys j) ≡ suc (count_before is_operand ys j) = omega arith in
    ap (λ (b : Bool). cond b 1 0 + count_before is_operand (row parts.Index at ∷ ys) (1 + j)) is ∙ ap (λ (i : ℕ). 1 + count_before is_operand (row parts.Index at ∷ ys) i) e ∙ sum

mark_length : (index : Option Span) (ys : List Row) → length (maybe_row parts.Index index ys) ≡ mark_size index + length ys
mark_length None ys = let e : length ys ≡ 0 + length ys = omega arith in e
mark_length (Some at) ys = let e : suc (length ys) ≡ 1 + length ys = omega arith in e

use_place : (us : List Use) (ys : List Row) (n u : ℕ) (w : Use) (p : ℕ) → IsUseAt us n u w p → (j : ℕ) × (u ≡ n + j) × (j < length (use_rows us ys)) × (count_before is_operand (use_rows us ys) j ≡ p)
use_place [] ys n u w p is = absurd is
use_place (v ∷ us) ys n u w p is =
    ⊎_elim (λ (f : (v ≡ w) × (n ≡ u) × (p ≡ 0)).
    let at : n ≡ u = f.1 in
    let lt : 0 < suc (length (maybe_row parts.Index v.index (use_rows us ys))) = omega arith in
    (0, omega (arith, at), lt, sym f.2))
    (λ (f : (more : ℕ) × IsUseAt us (suc n + mark_size v.index) u w more × (p ≡ suc more)).
    let r = use_place us ys (suc n + mark_size v.index) u w f.0 f.1 in
    let at : u ≡ suc n + mark_size v.index + r.0 = r.1 in
    let lt : r.0 < length (use_rows us ys) = r.2 in
    let size = mark_length v.index (use_rows us ys) in
    (suc (mark_size v.index + r.0), omega (arith, at), omega (arith, lt, size), behind_mark_count v.index (row parts.Operand v.name) (use_rows us ys) r.0 refl ∙ ap (λ (m : ℕ). suc m) r.3 ∙ sym f.2)) is

-- the operation and the place of an operand
operand_at : (b c : Body) (n : ℕ) (o : Operation) (k u : ℕ) (w : Use) (p : ℕ) → IsWithin c n b 0 → HasOperation c n o k → IsUseAt o.head.operands (k + named_size o.head) u w p → (operation_of (tree_rows b) u ≡ k + named_size o.head) × (place_in is_operand (tree_rows b) u ≡ p)
operand_at b c n o k u w p v h is =
    let r = use_place o.head.operands (behind_operands o) (k + named_size o.head) u w p is in
    let fact = behind_fact b c n o k u (row_of (operand_parts o.head) r.0) v h (inl (r.0, r.2, r.1, refl)) in
    (fact.operation, place_is is_operand b c n o k (k + named_size o.head) (operand_parts o.head) v h (listed_operands o k) u r.0 r.2 r.1 ∙ r.3)

use_type_found : (b : Body) (u t : ℕ) → part_of (tree_rows b) u ≡ parts.Operand → IsOperandType (tree_rows b) u t → IsTypeOfUse b u (row_of (tree_rows b) t).span
use_type_found b u t e h =
    let rows = tree_rows b in
    let use_in = use_of b u e in
    let w = use_in.0 in
    let i = use_in.1 in
    let c = i.0 in
    let n = i.1 in
    let o = i.2 in
    let k = i.3 in
    let p = i.4 in
    let at = operand_at b c n o k u w p i.5 i.6 i.7 in
    let cases = owned b c n o k t i.5 i.6 (inr (operand_type_at_home (part_of rows t) h.0)) (h.1 ∙ at.0) in
    let among = cases.tail (operand_type_at_home (part_of rows t) h.0) in
    let ys = tail_parts o.tail in
    let is_type : is_operand_type (row_of ys among.0).part ≡ true = ap (λ (x : Row). is_operand_type x.part) among.3 ∙ h.0 in
    let nth = (lists_operand_types o.tail).found among.0 among.1 is_type in
    let place : count_before is_operand_type ys among.0 ≡ p = sym (place_is is_operand_type b c n o k (k + head_size o.head + regions_size o.regions) ys i.5 i.6 (listed_operand_types o k) t among.0 among.1 among.2) ∙ h.2 ∙ at.1 in
    (c, n, o, k, w, p, i.5, i.6, i.7, subst (λ (s : Span). IsNth o.tail.operand_types p s) (ap (λ (x : Row). x.span) among.3) (subst (λ (q : ℕ). IsNth o.tail.operand_types q (row_of ys among.0).span) place nth))

use_type_there : (b : Body) (u : ℕ) (s : Span) → IsTypeOfUse b u s → (t : ℕ) × IsOperandType (tree_rows b) u t × ((row_of (tree_rows b) t).span ≡ s)
use_type_there b u s h =
    let rows = tree_rows b in
    let c = h.0 in
    let n = h.1 in
    let o = h.2 in
    let k = h.3 in
    let p = h.5 in
    let at = operand_at b c n o k u h.4 p h.6 h.7 h.8 in
    let ys = tail_parts o.tail in
    let from = k + head_size o.head + regions_size o.regions in
    let r = (lists_operand_types o.tail).there p s h.9 in
    let t = from + r.0 in
    let fact = behind_fact b c n o k t (row_of ys r.0) h.6 h.7 (inr (r.0, r.1, refl, refl)) in
    let place = place_is is_operand_type b c n o k from ys h.6 h.7 (listed_operand_types o k) t r.0 r.1 refl in
    (t, (ap (λ (x : Row). is_operand_type x.part) fact.is ∙ r.2, fact.operation ∙ sym at.0, place ∙ r.4 ∙ sym at.1), ap (λ (x : Row). x.span) fact.is ∙ r.3)

-- ---- results

next_on : (rows : List Row) (n : ℕ) → n < length rows → next_operation rows n ≡ name_or (part_of rows n) (suc n) (next_operation rows (suc n))
unfolding next_from
next_on rows n lt =
    let e : n + 1 ≡ suc n = omega arith in
    ap (next_from n) (drop_more rows n no_row lt) ∙ ap (λ (q : ℕ). name_or (part_of rows n) (suc n) (next_from (suc n) (drop q rows))) e

not_named : (p : Part) (behind later : ℕ) → home p ≡ 0 → name_or p behind later ≡ later
not_named parts.Name behind later e = absurd (omega (arith, e))
not_named _ behind later e = refl

next_by : (rows : List Row) (m d q : ℕ) → d + m ≡ q → ((i : ℕ) → d ≤ i → i < q → home (part_of rows i) ≡ 0) → part_of rows q ≡ parts.Name → q < length rows → next_operation rows d ≡ suc q
next_by rows zero d q e h name lt =
    let same : d ≡ q = omega (arith, e) in
    ap (next_operation rows) same ∙ next_on rows q lt ∙ ap (λ (p : Part). name_or p (suc q) (next_operation rows (suc q))) name
next_by rows (suc m) d q e h name lt =
    let later = next_by rows m (suc d) q (omega (arith, e)) (λ i from to. h i (omega (arith, from)) to) name lt in
    next_on rows d (omega (arith, e, lt)) ∙ not_named (part_of rows d) (suc d) (next_operation rows (suc d)) (h d (omega arith) (omega (arith, e))) ∙ later

result_next : (b c : Body) (n : ℕ) (o : Operation) (k d : ℕ) → IsWithin c n b 0 → HasOperation c n o k → k ≤ d → d < k + length (result_parts o.head) → next_operation (tree_rows b) d ≡ k + named_size o.head
result_next b c n o k d w h from to =
    let rows = tree_rows b in
    let f = frame w (tree_frame b) in
    let at = operation_at c rows n f.around f.inner f.rest o k f.cursor h in
    let q = k + length (result_parts o.head) in
    let name : part_of rows q ≡ parts.Name = ap part_in (name_fact o at.1 at.2).is in
    let between : (i : ℕ) → d ≤ i → i < q → home (part_of rows i) ≡ 0 =
    λ i le lt.
    let among = among_there (result_parts o.head) k i (omega (arith, from, le)) lt in
    ap (λ (x : Row). home x.part) (result_fact o at.1 i (row_of (result_parts o.head) (i - k)) at.2 among).is ∙ result_home o.head k i (row_of (result_parts o.head) (i - k)) among in
    let sum : d + (q - d) ≡ q = omega (arith, to) in
    let e : suc q ≡ k + named_size o.head = omega arith in
    next_by rows (q - d) d q sum between name (row_within rows q parts.Name name (λ z. omega (arith, z))) ∙ e

-- a result is one of the parts before its operation's name
result_bounds : (text : List ℕ) (rs : List ResultName) (n d : ℕ) (r : ResultName) (p : ℕ) → IsResultAt text rs n d r p → n ≤ d
result_bounds text [] n d r p h = absurd h
result_bounds text (x ∷ rs) n d r p h =
    ⊎_elim (λ (f : (x ≡ r) × (n ≡ d) × (p ≡ 0)). let e : n ≡ d = f.1 in omega (arith, e))
    (λ (f : (more : ℕ) × IsResultAt text rs (suc n + mark_size x.count) d r more × (p ≡ values_of text x.count + more)). let le = result_bounds text rs (suc n + mark_size x.count) d r f.0 f.1 in omega (arith, le)) h

result_limit : (text : List ℕ) (rs : List ResultName) (n d : ℕ) (r : ResultName) (p : ℕ) → IsResultAt text rs n d r p → d < n + length (result_rows rs [])
result_limit text [] n d r p h = absurd h
result_limit text (x ∷ rs) n d r p h =
    let size = count_length x.count (result_rows rs []) in
    ⊎_elim (λ (f : (x ≡ r) × (n ≡ d) × (p ≡ 0)). let e : n ≡ d = f.1 in omega (arith, e))
    (λ (f : (more : ℕ) × IsResultAt text rs (suc n + mark_size x.count) d r more × (p ≡ values_of text x.count + more)). let lt = result_limit text rs (suc n + mark_size x.count) d r f.0 f.1 in omega (arith, lt, size)) h

-- where a result is, its values and the operation that it is one of
result_spot : (text : List ℕ) (b c : Body) (n : ℕ) (o : Operation) (k d : ℕ) (r : ResultName) (p : ℕ) → IsWithin c n b 0 → HasOperation c n o k → IsResultAt text o.head.results k d r p
    → (part_of (tree_rows b) d ≡ parts.Result) × (results_before text (tree_rows b) d ≡ p) × (next_operation (tree_rows b) d ≡ k + named_size o.head)
result_spot text b c n o k d r p w h is =
    let there = result_there text b c n o k d r p w h is in
    (ap part_in there.0, there.2, result_next b c n o k d w h (result_bounds text o.head.results k d r p is) (result_limit text o.head.results k d r p is))

result_type_found : (text : List ℕ) (b c : Body) (n : ℕ) (o : Operation) (k d : ℕ) (r : ResultName) (p q s : ℕ) → IsWithin c n b 0 → HasOperation c n o k → IsResultAt text o.head.results k d r p → IsResultType text (tree_rows b) d q s
    → (p + q < 2 ^ 64) × IsNthResult o.tail.result_types (p + q) (row_of (tree_rows b) s).span
result_type_found text b c n o k d r p q s w h is t =
    let rows = tree_rows b in
    let at = result_spot text b c n o k d r p w h is in
    let type_home = result_type_at_home (part_of rows s) t.1.0 in
    let cases = owned b c n o k s w h (inr type_home) (t.1.1 ∙ at.2) in
    let among = cases.tail type_home in
    let ys = tail_parts o.tail in
    let is_type : is_result_type (row_of ys among.0).part ≡ true = ap (λ (x : Row). is_result_type x.part) among.3 ∙ t.1.0 in
    let nth = (lists_result_types o.tail).found among.0 among.1 is_type in
    let place : count_before is_result_type ys among.0 ≡ p + q = sym (place_is is_result_type b c n o k (k + head_size o.head + regions_size o.regions) ys w h (listed_result_types o k) s among.0 among.1 among.2) ∙ t.1.2 ∙ ap (λ (m : ℕ). m + q) at.1 in
    (subst (λ (m : ℕ). m + q < 2 ^ 64) at.1 t.0, subst (λ (x : Span). IsNthResult o.tail.result_types (p + q) x) (ap (λ (x : Row). x.span) among.3) (subst (λ (m : ℕ). IsNthResult o.tail.result_types m (row_of ys among.0).span) place nth))

result_type_there : (text : List ℕ) (b c : Body) (n : ℕ) (o : Operation) (k d : ℕ) (r : ResultName) (p q : ℕ) (s : Span) → IsWithin c n b 0 → HasOperation c n o k → IsResultAt text o.head.results k d r p → p + q < 2 ^ 64 → IsNthResult o.tail.result_types (p + q) s
    → (i : ℕ) × IsResultType text (tree_rows b) d q i × ((row_of (tree_rows b) i).span ≡ s)
result_type_there text b c n o k d r p q s w h is lt nth =
    let rows = tree_rows b in
    let at = result_spot text b c n o k d r p w h is in
    let ys = tail_parts o.tail in
    let from = k + head_size o.head + regions_size o.regions in
    let t = (lists_result_types o.tail).there (p + q) s nth in
    let i = from + t.0 in
    let fact = behind_fact b c n o k i (row_of ys t.0) w h (inr (t.0, t.1, refl, refl)) in
    let place = place_is is_result_type b c n o k from ys w h (listed_result_types o k) i t.0 t.1 refl in
    (i, (subst (λ (m : ℕ). m + q < 2 ^ 64) (sym at.1) lt, (ap (λ (x : Row). is_result_type x.part) fact.is ∙ t.2, fact.operation ∙ sym at.2, place ∙ t.4 ∙ ap (λ (m : ℕ). m + q) (sym at.1))), ap (λ (x : Row). x.span) fact.is ∙ t.3)

-- ---- arguments

abbrev is_argument : Part → ℕ
is_argument parts.Argument = 1
is_argument _ = 0

-- an argument's type stands behind it
abbrev HasTypeBehind : List Row → ℕ → Type 0
HasTypeBehind ys j = (suc j < length ys) × ((row_of ys (suc j)).part ≡ parts.ArgumentType)

behind_location : (l : Option (Text text_kinds.ArgumentLocation)) (ys : List Row) (j : ℕ) → ((i : ℕ) → i < length ys → is_argument (row_of ys i).part ≡ 1 → HasTypeBehind ys i) → j < length (maybe_text_row l ys) → is_argument (row_of (maybe_text_row l ys) j).part ≡ 1 → HasTypeBehind (maybe_text_row l ys) j
behind_location None ys j h lt is = h j lt is
behind_location (Some l) ys zero h lt is = absurd (omega (arith, is))
behind_location (Some l) ys (suc j) h lt is = let r = h j (omega (arith, lt)) is in let less : suc j < length ys = r.0 in (omega (arith, less), r.1)

arguments_typed : (args : List Argument) (j : ℕ) → j < length (argument_rows args []) → is_argument (row_of (argument_rows args []) j).part ≡ 1 → HasTypeBehind (argument_rows args []) j
arguments_typed [] j lt is = absurd (omega (arith, lt))
arguments_typed (a ∷ args) zero lt is = let less : 1 < suc (suc (length (maybe_text_row a.location (argument_rows args [])))) = omega arith in (less, refl)
arguments_typed (a ∷ args) (suc zero) lt is = absurd (omega (arith, is))
arguments_typed (a ∷ args) (suc (suc j)) lt is =
    let r = behind_location a.location (argument_rows args []) j (arguments_typed args) (omega (arith, lt)) is in
    let less : suc j < length (maybe_text_row a.location (argument_rows args [])) = r.0 in
    (omega (arith, less), r.1)

signed_typed : (o : Option (List Argument)) (j : ℕ) → j < length (signed_rows o []) → is_argument (row_of (signed_rows o []) j).part ≡ 1 → HasTypeBehind (signed_rows o []) j
signed_typed None j lt is = absurd (omega (arith, lt))
signed_typed (Some args) j lt is = arguments_typed args j lt is

label_typed : (l : Label) (j : ℕ) → j < length (label_parts l) → is_argument (row_of (label_parts l) j).part ≡ 1 → HasTypeBehind (label_parts l) j
label_typed l zero lt is = absurd (omega (arith, is))
label_typed l (suc j) lt is =
    let r = signed_typed l.arguments j (omega (arith, lt)) is in
    let less : suc j < length (signed_rows l.arguments []) = r.0 in
    (omega (arith, less), r.1)

-- ---- values

argument_type_found : (b c : Body) (n : ℕ) (l : Label) (k d s : ℕ) (name : Span) → IsWithin c n b 0 → HasLabel c n l k → IsAmong (label_parts l) k d (row parts.Argument name) → IsArgumentType (tree_rows b) d s → IsAmong (label_parts l) k (d + 1) (row parts.ArgumentType (row_of (tree_rows b) s).span)
argument_type_found b c n l k d s name w h is t =
    let rows = tree_rows b in
    let typed = label_typed l is.0 is.1 (ap (λ (x : Row). is_argument x.part) is.3) in
    let at : d ≡ k + is.0 = is.2 in
    let e : d + 1 ≡ k + suc is.0 = omega (arith, at) in
    let f = frame w (tree_frame b) in
    let place = label_at c rows n f.around f.inner f.rest l k f.cursor h in
    let fact = label_fact l place.1 (d + 1) (row_of (label_parts l) (suc is.0)) place.2 (suc is.0, typed.0, e, refl) in
    let span : (row_of (label_parts l) (suc is.0)).span ≡ (row_of rows s).span = ap (λ (x : Row). x.span) (sym fact.is ∙ ap (row_of rows) (sym t.0)) in
    let is_row : row_of (label_parts l) (suc is.0) ≡ row parts.ArgumentType (row_of rows s).span = ap (λ (p : Part). row p (row_of (label_parts l) (suc is.0)).span) typed.1 ∙ ap (row parts.ArgumentType) span in
    (suc is.0, typed.0, e, is_row)

-- the type of a result, or of an argument
value_type_found : (text : List ℕ) (b : Body) (d q s : ℕ) → IsDefinition (tree_rows b) d → IsValueType text (tree_rows b) d q s → IsTypeOfValue text b d q (row_of (tree_rows b) s).span
value_type_found text b d q s h t = by_part x.part.part refl
  where
    x : Home b d
    x = definition_home b d h

    by_part : (p : Part) → x.part.part ≡ p → IsTypeOfValue text b d q (row_of (tree_rows b) s).span
    by_part parts.Result e =
        let none_home : home x.part.part ≡ 0 = ap home e in
        let o = of_operation x.body x.at d x.part x.stands (λ five. omega (arith, none_home, five)) in
        let among = o.3.results none_home in
        let found_one = result_found text o.0.head.results o.1 among.0 among.1 (ap (λ (y : Row). is_result y.part) among.3 ∙ ap is_result e) in
        let there = subst (λ (i : ℕ). FoundResult text o.0.head.results o.1 i) (sym among.2) found_one in
        let typed : IsResultType text (tree_rows b) d q s = subst (λ (p : Part). IsTypeOf p text (tree_rows b) d q s) (ap part_in x.is ∙ e) t in
        let r = result_type_found text b x.body x.at o.0 o.1 d there.0 there.1 q s x.within o.2 there.2 typed in
        inl (x.body, x.at, o.0, o.1, there.0, there.1, x.within, o.2, there.2, r.0, r.1)
    by_part parts.Argument e =
        let l = of_label x.body x.at d x.part x.stands (ap home e) in
        let name = subst (IsAmong (label_parts l.0) l.1 d) (ap (λ (p : Part). row p x.part.span) e) l.3 in
        let typed : IsArgumentType (tree_rows b) d s = subst (λ (p : Part). IsTypeOf p text (tree_rows b) d q s) (ap part_in x.is ∙ e) t in
        inr (x.body, x.at, l.0, l.1, x.part.span, x.within, l.2, name, argument_type_found b x.body x.at l.0 l.1 d s x.part.span x.within l.2 name typed)
    by_part _ e = absurd (false≢true (sym (ap defines e) ∙ ap (λ (y : Row). defines y.part) (sym x.is) ∙ h.1))

value_type_there : (text : List ℕ) (b : Body) (d q : ℕ) (s : Span) → IsTypeOfValue text b d q s → (i : ℕ) × IsValueType text (tree_rows b) d q i × ((row_of (tree_rows b) i).span ≡ s)
value_type_there text b d q s h =
    let rows = tree_rows b in
    ⊎_elim (λ (f : (c : Body) × (n : ℕ) × (o : Operation) × (k : ℕ) × (r : ResultName) × (before : ℕ) × IsWithin c n b 0 × HasOperation c n o k × IsResultAt text o.head.results k d r before × (before + q < 2 ^ 64) × IsNthResult o.tail.result_types (before + q) s).
    let at = result_spot text b f.0 f.1 f.2 f.3 d f.4 f.5 f.6 f.7 f.8 in
    let r = result_type_there text b f.0 f.1 f.2 f.3 d f.4 f.5 q s f.6 f.7 f.8 f.9 f.10 in
    (r.0, subst (λ (p : Part). IsTypeOf p text rows d q r.0) (sym at.0) r.1, r.2))
    (λ (f : (c : Body) × (n : ℕ) × (l : Label) × (k : ℕ) × (name : Span) × IsWithin c n b 0 × HasLabel c n l k × IsAmong (label_parts l) k d (row parts.Argument name) × IsAmong (label_parts l) k (d + 1) (row parts.ArgumentType s)).
    let z = frame f.5 (tree_frame b) in
    let at = label_at f.0 rows f.1 z.around z.inner z.rest f.2 f.3 z.cursor f.6 in
    let fact = label_fact f.2 at.1 d (row parts.Argument f.4) at.2 f.7 in
    let behind = label_fact f.2 at.1 (d + 1) (row parts.ArgumentType s) at.2 f.8 in
    let typed : IsArgumentType rows d (d + 1) = (refl, ap part_in behind.is) in
    (d + 1, subst (λ (p : Part). IsTypeOf p text rows d q (d + 1)) (sym (ap part_in fact.is)) typed, ap (λ (x : Row). x.span) behind.is)) h

-- ---- types that differ

other_type_meant : (text : List ℕ) (b : Body) (u d : ℕ) → part_of (tree_rows b) u ≡ parts.Operand → IsDefinition (tree_rows b) d → HasOtherType text (tree_rows b) u d → HasOtherTypeThere text b u d
other_type_meant text b u d e defined h =
    let rows = tree_rows b in
    let w = use_of b u e in
    let q = h.0 in
    let s = h.3.0 in
    let t = h.3.2.0 in
    (w.0, q, (row_of rows s).span, (row_of rows t).span, w.1, sym (use_fact text b u w.0 w.1).0 ∙ h.1, h.2, value_type_found text b d q s defined h.3.1, use_type_found b u t e h.3.2.1, h.3.2.2)

other_type_told : (text : List ℕ) (b : Body) (u d : ℕ) → HasOtherTypeThere text b u d → HasOtherType text (tree_rows b) u d
other_type_told text b u d h =
    let s = value_type_there text b d h.1 h.2 h.7 in
    let t = use_type_there b u h.3 h.8 in
    (h.1, (use_fact text b u h.0 h.4).0 ∙ h.5, h.6, (s.0, s.1, (t.0, t.1, λ same. h.9 (ap (piece text) (sym t.2) ∙ same ∙ ap (piece text) s.2))))

pub other_type_meets : (text : List ℕ) (b : Body) (u : ℕ) → IsTypeOther text (tree_rows b) u ↔ IsTypeOtherAt text b u
other_type_meets text b u = (
  λ h. ((clear_meets text b).0 h.0, (h.1.0, (values_meet text b u h.1.0).0 h.1.1, other_type_meant text b u h.1.0 h.1.1.0 h.1.1.1 h.1.2)),
  λ h. ((clear_meets text b).1 h.0, (h.1.0, (values_meet text b u h.1.0).1 h.1.1, other_type_told text b u h.1.0 h.1.2)),
)
