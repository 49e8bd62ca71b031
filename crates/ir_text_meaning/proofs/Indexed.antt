-- Which of several values an operand is, by rows and in the tree.
use Rattle.std.proofs.Common.{◌≡◌, ◌↔◌, ℕ, zero, suc, ◌+◌, ◌<◌, ◌≤◌, Bool, true, false, List, [], ◌∷◌, length, drop, Option, Some, None, refl, sym, ap, subst, ◌∙◌, inl, inr, ⊎_elim, arith}
use Rattle.std.specs.Bool.{⊤}
use Rattle.std.proofs.lemmas.Bool.{cases_lt, cases_Bool, false≢true}
use Rattle.std.proofs.lemmas.List.{get_or_past}
use Rattle.ir_text_tree.specs.declared.row.Part.{Part}
use Rattle.ir_text_tree.specs.declared.row.Part.TheVariants as parts
use Rattle.ir_text_tree.specs.declared.row.Row.{Row}
use Rattle.ir_text_tree.specs.declared.row.Span.{Span}
use Rattle.ir_text_tree.specs.Rows.{row}
use Rattle.ir_text_tree.specs.Trees.{ResultName, Use, Label, Body, maybe_row, result_rows, use_rows, successor_rows, tree_rows}
use Rattle.ir_text_names.specs.Rows.{no_row, row_of, part_of, piece, text_of}
use Rattle.ir_text_names.specs.Types.{operation_of}
use Rattle.ir_text_names.specs.Numbers.{number_in, is_count, values_under, width}
use Rattle.ir_text_names.specs.Indices.{is_index, number_of, which, IsOneOf, IsBeyond}
use Rattle.ir_text_names.specs.Values.{IsDefinition, IsClear, defines}
use Rattle.ir_text_meaning.specs.Parts.{Operation, result_parts, operand_parts, label_parts, named_size, head_size, HasOperation, HasLabel, IsAmong}
use Rattle.ir_text_meaning.specs.Regions.{IsWithin}
use Rattle.ir_text_meaning.specs.Numbered.{mark_size, values_of, IsResultAt}
use Rattle.ir_text_meaning.specs.Values.{number_of_use, IsUseAt, IsUseIn, DefinesValues, IsOneOfThose, IsNoneAgain, IsBeyondThose}
use Rattle.ir_text_meaning.proofs.Cursors.{Cursor, fact_here}
use Rattle.ir_text_meaning.proofs.Walks.{operation_at, regions_from, label_at, label_fact, result_fact}
use Rattle.ir_text_meaning.proofs.Homes.{home, of_operation, of_label, each_at, result_home}
use Rattle.ir_text_meaning.proofs.PartLists.{Each}
use Rattle.ir_text_meaning.proofs.Bodies.{tree_frame, frame}
use Rattle.ir_text_meaning.proofs.NameMeanings.{Home, row_home, row_within, definition_home, operand_home, part_in, values_meet}
use Rattle.ir_text_meaning.proofs.NameFaults.{values_again_meet}
use Rattle.ir_text_meaning.proofs.Owned.{behind_fact, owned}
use Rattle.ir_text_meaning.proofs.Results.{result_there, count_within}

-- ---- the row behind an operation's operands, successors and properties

index_part : (p : Part) → is_index p ≡ true → p ≡ parts.Index
index_part parts.Index e = refl
index_part _ e = absurd (false≢true e)

first_operation : (rows : List Row) (n : ℕ) (a i : List ℕ) (o : ℕ) (xs : List Row) → Cursor rows n a (o ∷ i) xs → n < length rows → operation_of rows n ≡ o
first_operation rows n a i o [] c lt = let w : length rows ≡ n + 0 = c.whole in absurd (omega (arith, w, lt))
first_operation rows n a i o (x ∷ xs) c lt = (fact_here x xs c).operation

no_index_behind : (b c : Body) (n : ℕ) (o : Operation) (k : ℕ) → IsWithin c n b 0 → HasOperation c n o k → is_index (part_of (tree_rows b) (k + head_size o.head)) ≡ false
no_index_behind b c n o k w h =
    let rows = tree_rows b in
    let q = k + head_size o.head in
    let f = frame w (tree_frame b) in
    let at = operation_at c rows n f.around f.inner f.rest o k f.cursor h in
    ⊎_elim (λ (e : is_index (part_of rows q) ≡ true).
    let is : part_of rows q ≡ parts.Index = index_part (part_of rows q) e in
    let lt : q < length rows = row_within rows q parts.Index is (λ z. omega (arith, z)) in
    let operation = first_operation rows q f.around _ (k + named_size o.head) _ (regions_from o at.1 at.2) lt in
    let cases = owned b c n o k q w h (inl (ap home is)) operation in
    let among = cases.operands (ap home is) in
    let less : among.0 < length (operand_parts o.head) = among.1 in
    let place : q ≡ k + named_size o.head + among.0 = among.2 in
    absurd (omega (arith, less, place))) (λ (e : is_index (part_of rows q) ≡ false). e) (cases_Bool (is_index (part_of rows q)))

-- ---- the number behind an operand, in the list of its parts

abbrev pub which_in : List ℕ → List Row → ℕ → Option ℕ
which_in text ys j = number_of (is_index (row_of ys (suc j)).part) (number_in (drop 1 (piece text (row_of ys (suc j)).span)))

abbrev pub NoIndex : List Row → Type 0
NoIndex [] = ⊤
NoIndex (y ∷ ys) = is_index y.part ≡ false

no_index_first : (text : List ℕ) (y : Row) (ys : List Row) → NoIndex ys → which_in text (y ∷ ys) 0 ≡ Some 0
no_index_first text y [] h = refl
no_index_first text y (z ∷ ys) h = ap (λ (t : Bool). number_of t (number_in (drop 1 (piece text z.span)))) h

no_index_uses : (us : List Use) (ys : List Row) → NoIndex ys → NoIndex (use_rows us ys)
no_index_uses [] ys h = h
no_index_uses (u ∷ us) ys h = refl

-- an operand by its index in the list, its number and its row
abbrev pub UseFact : List ℕ → List Row → ℕ → Use → Type 0
UseFact text ys j w = (which_in text ys j ≡ number_of_use text w.index) × (row_of ys j ≡ row parts.Operand w.name) × (j < length ys)

use_here : (text : List ℕ) (w : Use) (index : Option Span) (ys : List Row) → w.index ≡ index → NoIndex ys → which_in text (row parts.Operand w.name ∷ maybe_row parts.Index index ys) 0 ≡ number_of_use text index
use_here text w None ys e h = no_index_first text (row parts.Operand w.name) ys h
use_here text w (Some at) ys e h = refl

behind_mark : (text : List ℕ) (x : Row) (index : Option Span) (ys : List Row) (j : ℕ) (w : Use) → UseFact text ys j w → UseFact text (x ∷ maybe_row parts.Index index ys) (suc (mark_size index + j)) w
behind_mark text x None ys j w h =
    let e : suc (0 + j) ≡ suc j = omega arith in
    let lt : j < length ys = h.2 in
    (ap (which_in text (x ∷ ys)) e ∙ h.0, ap (row_of (x ∷ ys)) e ∙ h.1, omega (arith, lt))
behind_mark text x (Some at) ys j w h =
    let e : suc (1 + j) ≡ suc (suc j) = omega arith in
    let lt : j < length ys = h.2 in
    (ap (which_in text (x ∷ row parts.Index at ∷ ys)) e ∙ h.0, ap (row_of (x ∷ row parts.Index at ∷ ys)) e ∙ h.1, omega (arith, lt))

pub use_facts : (text : List ℕ) (us : List Use) (ys : List Row) (n u : ℕ) (w : Use) (p : ℕ) → NoIndex ys → IsUseAt us n u w p → (j : ℕ) × (u ≡ n + j) × UseFact text (use_rows us ys) j w
use_facts text [] ys n u w p h is = absurd is
use_facts text (v ∷ us) ys n u w p h is =
    ⊎_elim (λ (f : (v ≡ w) × (n ≡ u) × (p ≡ 0)).
    let at : n ≡ u = f.1 in
    let rest = maybe_row parts.Index v.index (use_rows us ys) in
    let lt : 0 < suc (length rest) = omega arith in
    (0, omega (arith, at), (use_here text v v.index (use_rows us ys) refl (no_index_uses us ys h) ∙ ap (λ (x : Use). number_of_use text x.index) f.0, ap (λ (x : Use). row parts.Operand x.name) f.0, lt)))
    (λ (f : (more : ℕ) × IsUseAt us (suc n + mark_size v.index) u w more × (p ≡ suc more)).
    let r = use_facts text us ys (suc n + mark_size v.index) u w f.0 h f.1 in
    let at : u ≡ suc n + mark_size v.index + r.0 = r.1 in
    (suc (mark_size v.index + r.0), omega (arith, at), behind_mark text (row parts.Operand v.name) v.index (use_rows us ys) r.0 w r.2)) is

-- ---- each operand and each result is one of its operation's

abbrev is_use : Part → ℕ
is_use parts.Operand = 1
is_use _ = 0

abbrev pub is_result : Part → ℕ
is_result parts.Result = 1
is_result _ = 0

-- nothing that the test finds stands in a list where it finds none
none_found : (f : Part → ℕ) (ys : List Row) (j : ℕ) → f parts.Result ≡ 0 → Each (λ (p : Part). f p ≡ 0) ys → f (row_of ys j).part ≡ 1 → ⊥
none_found f ys j e h is =
    ⊎_elim (λ (l : j < length ys). let z : f (row_of ys j).part ≡ 0 = each_at (λ (p : Part). f p ≡ 0) ys j h l in omega (arith, z, is))
    (λ (l : length ys ≤ j). let z : f (row_of ys j).part ≡ f parts.Result = ap (λ (x : Row). f x.part) (get_or_past ys j no_row l) in omega (arith, z, is, e)) (cases_lt j (length ys))

behind_maybe : (f : Part → ℕ) (part : Part) (mark : Option Span) (ys : List Row) (j : ℕ) → f part ≡ 0 → f (row_of (maybe_row part mark ys) j).part ≡ 1 → (i : ℕ) × (j ≡ mark_size mark + i) × (f (row_of ys i).part ≡ 1)
behind_maybe f part None ys j e is = let at : j ≡ 0 + j = omega arith in (j, at, is)
behind_maybe f part (Some at) ys zero e is = absurd (omega (arith, e, is))
behind_maybe f part (Some at) ys (suc j) e is = let next_one : suc j ≡ 1 + j = omega arith in (j, next_one, is)

abbrev FoundUse : List Use → ℕ → ℕ → Type 0
FoundUse us n u = (w : Use) × (p : ℕ) × IsUseAt us n u w p

use_found : (us : List Use) (ys : List Row) (n j : ℕ) → Each (λ (p : Part). is_use p ≡ 0) ys → is_use (row_of (use_rows us ys) j).part ≡ 1 → FoundUse us n (n + j)
use_found [] ys n j h is = absurd (none_found is_use ys j refl h is)
use_found (v ∷ us) ys n zero h is = let e : n ≡ n + 0 = omega arith in (v, 0, inl (refl, e, refl))
use_found (v ∷ us) ys n (suc j) h is =
    let r = behind_maybe is_use parts.Index v.index (use_rows us ys) j refl is in
    let at : j ≡ mark_size v.index + r.0 = r.1 in
    let e : suc n + mark_size v.index + r.0 ≡ n + suc j = omega (arith, at) in
    let later = subst (λ (u : ℕ). FoundUse us (suc n + mark_size v.index) u) e (use_found us ys (suc n + mark_size v.index) r.0 h r.2) in
    (later.0, suc later.1, inr (later.1, later.2, refl))

abbrev pub FoundResult : List ℕ → List ResultName → ℕ → ℕ → Type 0
FoundResult text rs n d = (r : ResultName) × (p : ℕ) × IsResultAt text rs n d r p

pub result_found : (text : List ℕ) (rs : List ResultName) (n j : ℕ) → j < length (result_rows rs []) → is_result (row_of (result_rows rs []) j).part ≡ 1 → FoundResult text rs n (n + j)
result_found text [] n j lt is = absurd (omega (arith, lt))
result_found text (x ∷ rs) n zero lt is = let e : n ≡ n + 0 = omega arith in (x, 0, inl (refl, e, refl))
result_found text (x ∷ rs) n (suc j) lt is =
    let r = behind_count x.count (result_rows rs []) j (omega (arith, lt)) is in
    let at : j ≡ mark_size x.count + r.0 = r.1 in
    let e : suc n + mark_size x.count + r.0 ≡ n + suc j = omega (arith, at) in
    let later = subst (λ (d : ℕ). FoundResult text rs (suc n + mark_size x.count) d) e (result_found text rs (suc n + mark_size x.count) r.0 r.2 r.3) in
    (later.0, values_of text x.count + later.1, inr (later.1, later.2, refl))
  where
    behind_count : (mark : Option Span) (ys : List Row) (j : ℕ) → j < length (maybe_row parts.Count mark ys) → is_result (row_of (maybe_row parts.Count mark ys) j).part ≡ 1 → (i : ℕ) × (j ≡ mark_size mark + i) × (i < length ys) × (is_result (row_of ys i).part ≡ 1)
    behind_count None ys j lt is = let at : j ≡ 0 + j = omega arith in (j, at, lt, is)
    behind_count (Some at) ys zero lt is = absurd (omega (arith, is))
    behind_count (Some at) ys (suc j) lt is = let next_one : suc j ≡ 1 + j = omega arith in (j, next_one, omega (arith, lt), is)

-- ---- operands by rows and in the tree

successors_no_index : (bs : List Span) (p : Option Span) → NoIndex (successor_rows bs (maybe_row parts.Properties p []))
successors_no_index [] None = tt
successors_no_index [] (Some at) = refl
successors_no_index (b ∷ bs) p = refl

successors_no_use : (bs : List Span) (p : Option Span) → Each (λ (q : Part). is_use q ≡ 0) (successor_rows bs (maybe_row parts.Properties p []))
successors_no_use [] None = tt
successors_no_use [] (Some at) = (refl, tt)
successors_no_use (b ∷ bs) p = (refl, successors_no_use bs p)

abbrev pub behind_operands : Operation → List Row
behind_operands o = successor_rows o.head.successors (maybe_row parts.Properties o.head.properties [])

-- what the number behind a row says
abbrev number_at : List ℕ → Row → Option ℕ
number_at text x = number_of (is_index x.part) (number_in (drop 1 (piece text x.span)))

pub use_fact : (text : List ℕ) (b : Body) (u : ℕ) (w : Use) → IsUseIn b u w → (which text (tree_rows b) u ≡ number_of_use text w.index) × (part_of (tree_rows b) u ≡ parts.Operand)
use_fact text b u w h =
    let rows = tree_rows b in
    let c = h.0 in
    let n = h.1 in
    let o = h.2 in
    let k = h.3 in
    let ys = operand_parts o.head in
    let from = k + named_size o.head in
    let r = use_facts text o.head.operands (behind_operands o) from u w h.4 (successors_no_index o.head.successors o.head.properties) h.7 in
    let j = r.0 in
    let at : u ≡ from + j = r.1 in
    let lt : j < length ys = r.2.2 in
    let here = behind_fact b c n o k u (row parts.Operand w.name) h.5 h.6 (inl (j, lt, at, r.2.1)) in
    let number : which text rows u ≡ which_in text ys j =
    ⊎_elim {C = which text rows u ≡ which_in text ys j} (λ (l : suc j < length ys).
    let e : u + 1 ≡ from + suc j = omega (arith, at) in
    let there = behind_fact b c n o k (u + 1) (row_of ys (suc j)) h.5 h.6 (inl (suc j, l, e, refl)) in
    ap (number_at text) there.is)
    (λ (l : length ys ≤ suc j).
    let e : u + 1 ≡ k + head_size o.head = omega (arith, at, l, lt) in
    let no_row_there : row_of ys (suc j) ≡ no_row = get_or_past ys (suc j) no_row l in
    let no_number : is_index (part_of rows (u + 1)) ≡ false = ap (λ (q : ℕ). is_index (part_of rows q)) e ∙ no_index_behind b c n o k h.5 h.6 in
    ap (λ (t : Bool). number_of t (number_in (drop 1 (text_of text rows (u + 1))))) no_number ∙ sym (ap (number_at text) no_row_there)) (cases_lt (suc j) (length ys)) in
    (number ∙ r.2.0, ap part_in here.is)

pub use_of : (b : Body) (u : ℕ) → part_of (tree_rows b) u ≡ parts.Operand → (w : Use) × IsUseIn b u w
use_of b u e =
    let x = operand_home b u e in
    let is : x.part.part ≡ parts.Operand = ap part_in (sym x.is) ∙ e in
    let two : home x.part.part ≡ 2 = ap home is in
    let o = of_operation x.body x.at u x.part x.stands (λ five. omega (arith, two, five)) in
    let among = o.3.operands two in
    let found_one = use_found o.0.head.operands (behind_operands o.0) (o.1 + named_size o.0.head) among.0 (successors_no_use o.0.head.successors o.0.head.properties) (ap (λ (y : Row). is_use y.part) among.3 ∙ ap is_use is) in
    let there = subst (λ (q : ℕ). FoundUse o.0.head.operands (o.1 + named_size o.0.head) q) (sym among.2) found_one in
    (there.0, (x.body, x.at, o.0, o.1, there.1, x.within, o.2, there.2))

-- ---- definitions by rows and in the tree

no_first_count : (rs : List ResultName) → 0 < length (result_rows rs []) → is_count (row_of (result_rows rs []) 0).part ≡ false
no_first_count [] lt = absurd (omega (arith, lt))
no_first_count (r ∷ rs) lt = refl

count_part : (p : Part) → is_count p ≡ true → p ≡ parts.Count
count_part parts.Count e = refl
count_part _ e = absurd (false≢true e)

-- a number of values stands behind results alone
no_count_behind : (b : Body) (d : ℕ) → home (part_of (tree_rows b) d) ≡ 5 → is_count (part_of (tree_rows b) (d + 1)) ≡ false
no_count_behind b d five =
    let rows = tree_rows b in
    ⊎_elim (λ (e : is_count (part_of rows (d + 1)) ≡ true).
    let is : part_of rows (d + 1) ≡ parts.Count = count_part (part_of rows (d + 1)) e in
    let zero_home : home (part_of rows (d + 1)) ≡ 0 = ap home is in
    let lt : d + 1 < length rows = count_within rows (d + 1) is in
    let x = row_home b (d + 1) lt (λ four. omega (arith, zero_home, four)) in
    let part_home : home x.part.part ≡ 0 = ap (λ (y : Row). home y.part) (sym x.is) ∙ zero_home in
    let o = of_operation x.body x.at (d + 1) x.part x.stands (λ q. omega (arith, part_home, q)) in
    let among = o.3.results part_home in
    absurd (by_place b d five x.body x.at o.0 o.1 x.within o.2 among.0 among.1 among.2 (ap (λ (y : Row). is_count y.part) (among.3 ∙ sym x.is) ∙ e))) (λ (e : is_count (part_of rows (d + 1)) ≡ false). e) (cases_Bool (is_count (part_of rows (d + 1))))
  where
    by_place : (b : Body) (d : ℕ) → home (part_of (tree_rows b) d) ≡ 5 → (c : Body) (n : ℕ) (o : Operation) (k : ℕ) → IsWithin c n b 0 → HasOperation c n o k → (j : ℕ) → j < length (result_parts o.head) → d + 1 ≡ k + j → is_count (row_of (result_parts o.head) j).part ≡ true → ⊥
    by_place b d five c n o k w h zero lt at is = false≢true (sym (no_first_count o.head.results lt) ∙ is)
    by_place b d five c n o k w h (suc j) lt at is =
        let f = frame w (tree_frame b) in
        let op = operation_at c (tree_rows b) n f.around f.inner f.rest o k f.cursor h in
        let less : j < length (result_parts o.head) = omega (arith, lt) in
        let place : d ≡ k + j = omega (arith, at) in
        let fact = result_fact o op.1 d (row_of (result_parts o.head) j) op.2 (j, less, place, refl) in
        let none_home = result_home o.head k d (row_of (result_parts o.head) j) (j, less, place, refl) in
        let here : home (part_of (tree_rows b) d) ≡ 0 = ap (λ (y : Row). home y.part) fact.is ∙ none_home in
        omega (arith, here, five)

values_fact : (text : List ℕ) (b : Body) (d size : ℕ) → DefinesValues text b d size → width text (tree_rows b) d ≡ size
values_fact text b d size h =
    let rows = tree_rows b in
    ⊎_elim (λ (f : (c : Body) × (n : ℕ) × (o : Operation) × (k : ℕ) × (r : ResultName) × (before : ℕ) × IsWithin c n b 0 × HasOperation c n o k × IsResultAt text o.head.results k d r before × (size ≡ values_of text r.count)).
    (result_there text b f.0 f.1 f.2 f.3 d f.4 f.5 f.6 f.7 f.8).1 ∙ sym f.9)
    (λ (f : (c : Body) × (n : ℕ) × (l : Label) × (k : ℕ) × (name : Span) × IsWithin c n b 0 × HasLabel c n l k × IsAmong (label_parts l) k d (row parts.Argument name) × (size ≡ 1)).
    let z = frame f.5 (tree_frame b) in
    let at = label_at f.0 rows f.1 z.around z.inner z.rest f.2 f.3 z.cursor f.6 in
    let fact = label_fact f.2 at.1 d (row parts.Argument f.4) at.2 f.7 in
    ap (λ (t : Bool). values_under t (number_in (text_of text rows (d + 1)))) (no_count_behind b d (ap (λ (y : Row). home y.part) fact.is)) ∙ sym f.8) h

values_defined : (text : List ℕ) (b : Body) (d : ℕ) → IsDefinition (tree_rows b) d → (size : ℕ) × DefinesValues text b d size
values_defined text b d h = by_part x.part.part refl
  where
    x : Home b d
    x = definition_home b d h

    by_part : (p : Part) → x.part.part ≡ p → (size : ℕ) × DefinesValues text b d size
    by_part parts.Result e =
        let none_home : home x.part.part ≡ 0 = ap home e in
        let o = of_operation x.body x.at d x.part x.stands (λ five. omega (arith, none_home, five)) in
        let among = o.3.results none_home in
        let found_one = result_found text o.0.head.results o.1 among.0 among.1 (ap (λ (y : Row). is_result y.part) among.3 ∙ ap is_result e) in
        let there = subst (λ (q : ℕ). FoundResult text o.0.head.results o.1 q) (sym among.2) found_one in
        (values_of text there.0.count, inl (x.body, x.at, o.0, o.1, there.0, there.1, x.within, o.2, there.2, refl))
    by_part parts.Argument e =
        let l = of_label x.body x.at d x.part x.stands (ap home e) in
        (1, inr (x.body, x.at, l.0, l.1, x.part.span, x.within, l.2, subst (IsAmong (label_parts l.0) l.1 d) (ap (λ (q : Part). row q x.part.span) e) l.3, refl))
    by_part _ e = absurd (false≢true (sym (ap defines e) ∙ ap (λ (y : Row). defines y.part) (sym x.is) ∙ h.1))

-- ---- numbers

one_of_meant : (text : List ℕ) (b : Body) (u d : ℕ) → part_of (tree_rows b) u ≡ parts.Operand → IsDefinition (tree_rows b) d → IsOneOf text (tree_rows b) u d → IsOneOfThose text b u d
one_of_meant text b u d is defined h =
    let w = use_of b u is in
    let v = values_defined text b d defined in
    let size = values_fact text b d v.0 v.1 in
    let less : h.0 < width text (tree_rows b) d = h.3 in
    (w.0, h.0, v.0, w.1, sym (use_fact text b u w.0 w.1).0 ∙ h.1, h.2, v.1, omega (arith, size, less))

one_of_told : (text : List ℕ) (b : Body) (u d : ℕ) → IsOneOfThose text b u d → IsOneOf text (tree_rows b) u d
one_of_told text b u d h =
    let size = values_fact text b d h.2 h.6 in
    let less : h.1 < h.2 = h.7 in
    (h.1, (use_fact text b u h.0 h.3).0 ∙ h.4, h.5, omega (arith, size, less))

pub clear_meets : (text : List ℕ) (b : Body) → IsClear text (tree_rows b) (length (tree_rows b)) ↔ IsNoneAgain text b
clear_meets text b = (
  λ clear i j m. let again = (values_again_meet text b i).1 (j, m) in clear i again.0.0 again,
  λ none_again k lt again. let m = (values_again_meet text b k).0 again in none_again k m.0 m.1,
)

pub beyond_meets : (text : List ℕ) (b : Body) (u : ℕ) → IsBeyond text (tree_rows b) u ↔ IsBeyondThose text b u
beyond_meets text b u = (
  λ h. ((clear_meets text b).0 h.0, (h.1.0, (values_meet text b u h.1.0).0 h.1.1, λ m. h.1.2 (one_of_told text b u h.1.0 m))),
  λ h. let named = (values_meet text b u h.1.0).1 h.1.1 in ((clear_meets text b).1 h.0, (h.1.0, named, λ m. h.1.2 (one_of_meant text b u h.1.0 named.0 named.1 m))),
)
