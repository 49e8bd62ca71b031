-- How many values stand in front of a row.
use Rattle.std.proofs.Common.{◌≡◌, ◌⊎◌, ◌↔◌, ℕ, zero, suc, ◌+◌, ◌-◌, ◌<◌, ◌≤◌, Bool, false, List, [], ◌∷◌, length, Option, Some, None, refl, sym, ap, subst, ◌∙◌, inl, inr, ⊎_elim, add-zero, arith}
use Rattle.std.specs.Bool.{⊤}
use Rattle.std.specs.Option.{unwrap_or}
use Rattle.std.proofs.lemmas.Bool.{cases_lt, false≢true}
use Rattle.std.proofs.lemmas.List.{get_or_past}
use Rattle.ir_text_tree.specs.declared.row.Part.{Part}
use Rattle.ir_text_tree.specs.declared.row.Part.TheVariants as parts
use Rattle.ir_text_tree.specs.declared.row.Row.{Row}
use Rattle.ir_text_tree.specs.declared.row.Span.{Span}
use Rattle.ir_text_tree.specs.Rows.{row}
use Rattle.ir_text_tree.specs.Trees.{ResultName, Body, maybe_row, result_rows, tree_rows}
use Rattle.ir_text_names.specs.Rows.{no_row, row_of, part_of, region_of, piece, text_of}
use Rattle.ir_text_names.specs.Numbers.{number_in, is_count, values_under, width, results_on, results_before, IsNoCount}
use Rattle.ir_text_meaning.specs.Parts.{Operation, result_parts, body_size, operation_size, HasOperation, IsAmong}
use Rattle.ir_text_meaning.specs.Regions.{IsWithin}
use Rattle.ir_text_meaning.specs.Numbered.{mark_size, values_of, value_count, IsResultAt, IsNoCountAt}
use Rattle.ir_text_meaning.proofs.PartLists.{results_append}
use Rattle.ir_text_meaning.proofs.Cursors.{Cursor, cursor_as, next, fact_here}
use Rattle.ir_text_meaning.proofs.Walks.{operation_at, name_fact, result_fact, from_operands}
use Rattle.ir_text_meaning.proofs.Places.{operations_apart, one_body, among_there, operation_bounds, within_bounds}
use Rattle.ir_text_meaning.proofs.Homes.{home, of_operation}
use Rattle.ir_text_meaning.proofs.Bodies.{tree_frame, frame, tree_size}
use Rattle.ir_text_meaning.proofs.NameMeanings.{row_home, part_in}

-- the first of these is no number behind a name
abbrev NoCount : List Row → Type 0
NoCount [] = ⊤
NoCount (y ∷ ys) = is_count y.part ≡ false

no_count_next : (rows : List Row) (n : ℕ) (a i : List ℕ) (ys : List Row) → Cursor rows n a i ys → NoCount ys → is_count (part_of rows n) ≡ false
no_count_next rows n a i [] c h = let e : n ≡ n + 0 = omega arith in ap (λ (k : ℕ). is_count (part_of rows k)) e ∙ ap (λ (x : Row). is_count x.part) (c.here 0)
no_count_next rows n a i (y ∷ ys) c h = ap (λ (x : Row). is_count x.part) (fact_here y ys c).is ∙ h

-- behind a result
record Behind (text : List ℕ) (rows : List Row) (n : ℕ) (a i : List ℕ) (c : Option Span) (ys : List Row) : Type 0 where
  values : width text rows n ≡ values_of text c
  before : results_before text rows (suc n + mark_size c) ≡ results_before text rows n + values_of text c
  cursor : Cursor rows (suc n + mark_size c) a i ys

result_step : (text : List ℕ) (rows : List Row) (n : ℕ) (a i : List ℕ) (name : Span) (c : Option Span) (ys : List Row) → Cursor rows n a i (row parts.Result name ∷ maybe_row parts.Count c ys) → NoCount ys → Behind text rows n a i c ys
unfolding results_before
result_step text rows n a i name None ys at h =
    let here : part_of rows n ≡ parts.Result = ap part_in (fact_here (row parts.Result name) ys at).is in
    let behind = next (row parts.Result name) ys at in
    let next_row : n + 1 ≡ suc n = omega arith in
    let no_number : is_count (part_of rows (n + 1)) ≡ false = ap (λ (k : ℕ). is_count (part_of rows k)) next_row ∙ no_count_next rows (suc n) a i ys behind h in
    let one_value : width text rows n ≡ 1 = ap (λ (t : Bool). values_under t (number_in (text_of text rows (n + 1)))) no_number in
    let e : suc n + 0 ≡ suc n = omega arith in
    record {
      values = one_value;
      before = ap (results_before text rows) e ∙ ap (λ (p : Part). results_on p (width text rows n) (results_before text rows n)) here ∙ ap (λ (m : ℕ). results_before text rows n + m) one_value;
      cursor = cursor_as (sym e) refl refl refl behind;
    }
result_step text rows n a i name (Some at) ys cursor h =
    let here : part_of rows n ≡ parts.Result = ap part_in (fact_here (row parts.Result name) (row parts.Count at ∷ ys) cursor).is in
    let behind = next (row parts.Result name) (row parts.Count at ∷ ys) cursor in
    let counted = (fact_here (row parts.Count at) ys behind).is in
    let later = next (row parts.Count at) ys behind in
    let next_row : n + 1 ≡ suc n = omega arith in
    let is : row_of rows (n + 1) ≡ row parts.Count at = ap (row_of rows) next_row ∙ counted in
    let number : width text rows n ≡ unwrap_or (number_in (piece text at)) 0 = ap (λ (x : Row). values_under (is_count x.part) (number_in (piece text x.span))) is in
    let e : suc n + 1 ≡ suc (suc n) = omega arith in
    let first : results_before text rows (suc n) ≡ results_before text rows n + width text rows n = ap (λ (p : Part). results_on p (width text rows n) (results_before text rows n)) here in
    let second : results_before text rows (suc (suc n)) ≡ results_before text rows (suc n) = ap (λ (p : Part). results_on p (width text rows (suc n)) (results_before text rows (suc n))) (ap part_in counted) in
    record {
      values = number;
      before = ap (results_before text rows) e ∙ second ∙ first ∙ ap (λ (m : ℕ). results_before text rows n + m) number;
      cursor = cursor_as (sym e) refl refl refl later;
    }

no_count : (rs : List ResultName) (name : Span) (xs : List Row) → NoCount (result_rows rs (row parts.Name name ∷ xs))
no_count [] name xs = refl
no_count (r ∷ rs) name xs = refl

pub count_length : (c : Option Span) (ys : List Row) → length (maybe_row parts.Count c ys) ≡ mark_size c + length ys
count_length None ys = let e : length ys ≡ 0 + length ys = omega arith in e
count_length (Some at) ys = let e : suc (length ys) ≡ 1 + length ys = omega arith in e

-- behind all results
results_end : (text : List ℕ) (rs : List ResultName) (rows : List Row) (n : ℕ) (a i : List ℕ) (name : Span) (xs : List Row) → Cursor rows n a i (result_rows rs (row parts.Name name ∷ xs)) → results_before text rows (n + length (result_rows rs [])) ≡ results_before text rows n + value_count text rs
results_end text [] rows n a i name xs c = let e : n + 0 ≡ n = omega arith in ap (results_before text rows) e ∙ sym (add-zero (results_before text rows n))
results_end text (r ∷ rs) rows n a i name xs c =
    let s = result_step text rows n a i r.name r.count (result_rows rs (row parts.Name name ∷ xs)) c (no_count rs name xs) in
    let later = results_end text rs rows (suc n + mark_size r.count) a i name xs s.cursor in
    let first = s.before in
    let size = count_length r.count (result_rows rs []) in
    let e : n + suc (length (maybe_row parts.Count r.count (result_rows rs []))) ≡ suc n + mark_size r.count + length (result_rows rs []) = omega (arith, size) in
    let f : results_before text rows (n + suc (length (maybe_row parts.Count r.count (result_rows rs [])))) ≡ results_before text rows (suc n + mark_size r.count + length (result_rows rs [])) = ap (results_before text rows) e in
    omega (arith, f, later, first)

result_facts : (text : List ℕ) (rs : List ResultName) (rows : List Row) (n : ℕ) (a i : List ℕ) (name : Span) (xs : List Row) → Cursor rows n a i (result_rows rs (row parts.Name name ∷ xs)) → (d : ℕ) (r : ResultName) (p : ℕ) → IsResultAt text rs n d r p
    → (row_of rows d ≡ row parts.Result r.name) × (width text rows d ≡ values_of text r.count) × (results_before text rows d ≡ results_before text rows n + p)
result_facts text [] rows n a i name xs c d r p h = absurd h
result_facts text (x ∷ rs) rows n a i name xs c d r p h =
    let s = result_step text rows n a i x.name x.count (result_rows rs (row parts.Name name ∷ xs)) c (no_count rs name xs) in
    let here = (fact_here (row parts.Result x.name) (maybe_row parts.Count x.count (result_rows rs (row parts.Name name ∷ xs))) c).is in
    let first = s.before in
    ⊎_elim (λ (f : (x ≡ r) × (n ≡ d) × (p ≡ 0)).
    let at : n ≡ d = f.1 in
    let none_before : p ≡ 0 = f.2 in
    let same : results_before text rows n ≡ results_before text rows d = ap (results_before text rows) at in
    (ap (row_of rows) (sym at) ∙ here ∙ ap (λ (y : ResultName). row parts.Result y.name) f.0, ap (width text rows) (sym at) ∙ s.values ∙ ap (λ (y : ResultName). values_of text y.count) f.0, omega (arith, same, none_before)))
    (λ (f : (more : ℕ) × IsResultAt text rs (suc n + mark_size x.count) d r more × (p ≡ values_of text x.count + more)).
    let l = result_facts text rs rows (suc n + mark_size x.count) a i name xs s.cursor d r f.0 f.1 in
    let later : results_before text rows d ≡ results_before text rows (suc n + mark_size x.count) + f.0 = l.2 in
    let sum : p ≡ values_of text x.count + f.0 = f.2 in
    (l.0, l.1, omega (arith, later, first, sum))) h

pub count_within : (rows : List Row) (i : ℕ) → part_of rows i ≡ parts.Count → i < length rows
count_within rows i e =
    ⊎_elim (λ (l : i < length rows). l) (λ (l : length rows ≤ i). let f : is_count parts.Result ≡ is_count parts.Count = ap is_count (sym (ap part_in (get_or_past rows i no_row l)) ∙ e) in absurd (false≢true f)) (cases_lt i (length rows))

-- ---- no values stand in front of an operation

-- the rows from an operation's first up to its name stand in the region of its body
pub front_region : (b c : Body) (n : ℕ) (o : Operation) (k q : ℕ) → IsWithin c n b 0 → HasOperation c n o k → k ≤ q → q ≤ k + length (result_parts o.head) → region_of (tree_rows b) q ≡ n
front_region b c n o k q w h from to =
    let f = frame w (tree_frame b) in
    let at = operation_at c (tree_rows b) n f.around f.inner f.rest o k f.cursor h in
    let own = f.own in
    ⊎_elim (λ (l : q < k + length (result_parts o.head)). (result_fact o at.1 q (row_of (result_parts o.head) (q - k)) at.2 (among_there (result_parts o.head) k q from l)).region ∙ own)
    (λ (l : k + length (result_parts o.head) ≤ q).
    let same : q ≡ k + length (result_parts o.head) = omega (arith, l, to) in
    ap (region_of (tree_rows b)) same ∙ (name_fact o at.1 at.2).region ∙ own) (cases_lt q (k + length (result_parts o.head)))

no_result_in_front : (b c : Body) (n : ℕ) (o : Operation) (k j : ℕ) → IsWithin c n b 0 → HasOperation c n o k → k ≡ suc j → part_of (tree_rows b) j ≡ parts.Result ⊎ part_of (tree_rows b) j ≡ parts.Count → j < length (tree_rows b) → ⊥
no_result_in_front b c n o k j w h e is lt =
    let rows = tree_rows b in
    let at_home : home (part_of rows j) ≡ 0 = ⊎_elim (λ (f : part_of rows j ≡ parts.Result). ap home f) (λ (f : part_of rows j ≡ parts.Count). ap home f) is in
    let x = row_home b j lt (λ four. omega (arith, at_home, four)) in
    let part_home : home x.part.part ≡ 0 = ap (λ (y : Row). home y.part) (sym x.is) ∙ at_home in
    let p = of_operation x.body x.at j x.part x.stands (λ five. omega (arith, part_home, five)) in
    let l = p.1 in
    let among = p.3.results part_home in
    let less : among.0 < length (result_parts p.0.head) = among.1 in
    let at : j ≡ l + among.0 = among.2 in
    let there = front_region b x.body x.at p.0 l k x.within p.2 (omega (arith, e, at)) (omega (arith, e, at, less)) in
    let here = front_region b c n o k k w h (omega arith) (omega arith) in
    let region : x.at ≡ n = sym there ∙ here in
    let body : x.body ≡ c = one_body x.within w region in
    let moved : HasOperation c n p.0 l = subst (λ (z : Body). HasOperation z n p.0 l) body (subst (λ (z : ℕ). HasOperation x.body z p.0 l) region p.2) in
    ⊎_elim (λ (z : (p.0 ≡ o) × (l ≡ k)). let same : l ≡ k = z.1 in omega (arith, same, e, at))
    (λ (z : (l + operation_size p.0 ≤ k) ⊎ (k + operation_size o ≤ l)).
    ⊎_elim (λ (y : l + operation_size p.0 ≤ k). omega (arith, y, e, at, less)) (λ (y : k + operation_size o ≤ l). omega (arith, y, e, at)) z) (operations_apart c n p.0 l o k moved h)

none_on : (p : Part) (more n : ℕ) → (p ≡ parts.Result ⊎ p ≡ parts.Count → ⊥) → results_on p more n ≡ 0
none_on parts.Result more n h = absurd (h (inl refl))
none_on parts.Count more n h = absurd (h (inr refl))
none_on _ more n h = refl

pub none_in_front : (text : List ℕ) (b c : Body) (n : ℕ) (o : Operation) (k : ℕ) → IsWithin c n b 0 → HasOperation c n o k → k < length (tree_rows b) → results_before text (tree_rows b) k ≡ 0
unfolding results_before
none_in_front text b c n o zero w h lt = refl
none_in_front text b c n o (suc j) w h lt =
    none_on (part_of (tree_rows b) j) (width text (tree_rows b) j) (results_before text (tree_rows b) j) (λ is. no_result_in_front b c n o (suc j) j w h refl is (omega (arith, lt)))

-- ---- laws

-- an operation's first part is one of the rows
pub op_within : (b c : Body) (n : ℕ) (o : Operation) (k : ℕ) → IsWithin c n b 0 → HasOperation c n o k → k < length (tree_rows b)
op_within b c n o k w h =
    let size = tree_size b in
    let in_tree : n + body_size c ≤ 0 + body_size b = (within_bounds w).1 in
    let in_body : k + operation_size o ≤ n + body_size c = (operation_bounds c n o k h).1 in
    omega (arith, in_tree, in_body, size)

-- an operation's rows from its first on
record Front (rows : List Row) (o : Operation) (k n : ℕ) : Type 0 where
  around : List ℕ
  inner : List ℕ
  rest : List Row
  cursor : Cursor rows k around inner (result_rows o.head.results (row parts.Name o.head.name ∷ rest))

front : (b c : Body) (n : ℕ) (o : Operation) (k : ℕ) → IsWithin c n b 0 → HasOperation c n o k → Front (tree_rows b) o k n
front b c n o k w h =
    let f = frame w (tree_frame b) in
    let at = operation_at c (tree_rows b) n f.around f.inner f.rest o k f.cursor h in
    let rest = from_operands o.head o.regions o.tail at.1 in
    record { around = f.around; inner = at.0; rest = rest; cursor = cursor_as refl refl refl (sym (results_append o.head.results [] (row parts.Name o.head.name ∷ rest))) at.2 }

-- in front of a result stand the values of those before it in its operation
pub result_there : (text : List ℕ) (b c : Body) (n : ℕ) (o : Operation) (k d : ℕ) (r : ResultName) (p : ℕ) → IsWithin c n b 0 → HasOperation c n o k → IsResultAt text o.head.results k d r p
    → (row_of (tree_rows b) d ≡ row parts.Result r.name) × (width text (tree_rows b) d ≡ values_of text r.count) × (results_before text (tree_rows b) d ≡ p)
result_there text b c n o k d r p w h is =
    let rows = tree_rows b in
    let f = front b c n o k w h in
    let facts = result_facts text o.head.results rows k f.around f.inner o.head.name f.rest f.cursor d r p is in
    let none_before = none_in_front text b c n o k w h (op_within b c n o k w h) in
    let last : results_before text rows d ≡ results_before text rows k + p = facts.2 in
    (facts.0, facts.1, omega (arith, none_before, last))

-- in front of an operation's name stand the values of all its results
pub results_there : (text : List ℕ) (b c : Body) (n : ℕ) (o : Operation) (k : ℕ) → IsWithin c n b 0 → HasOperation c n o k → results_before text (tree_rows b) (k + length (result_parts o.head)) ≡ value_count text o.head.results
results_there text b c n o k w h =
    let rows = tree_rows b in
    let f = front b c n o k w h in
    let all = results_end text o.head.results rows k f.around f.inner o.head.name f.rest f.cursor in
    let none_before = none_in_front text b c n o k w h (op_within b c n o k w h) in
    omega (arith, all, none_before)

pub no_counts_meet : (text : List ℕ) (b : Body) (i : ℕ) → IsNoCount text (tree_rows b) i ↔ IsNoCountAt text b i
no_counts_meet text b i = (
  λ h.
      let at_home : home (part_of (tree_rows b) i) ≡ 0 = ap home h.0 in
      let x = row_home b i (count_within (tree_rows b) i h.0) (λ four. omega (arith, at_home, four)) in
      let is_count : x.part.part ≡ parts.Count = ap part_in (sym x.is) ∙ h.0 in
      let part_home : home x.part.part ≡ 0 = ap home is_count in
      let o = of_operation x.body x.at i x.part x.stands (λ five. omega (arith, part_home, five)) in
      record {
        body = x.body;
        body_at = x.at;
        owner = o.0;
        owner_at = o.1;
        said = x.part.span;
        in_tree = x.within;
        in_body = o.2;
        is_count = subst (IsAmong (result_parts o.0.head) o.1 i) (ap (λ (q : Part). row q x.part.span) is_count) (o.3.results part_home);
        is_none = ap (λ (y : Row). unwrap_or (number_in (piece text y.span)) 0) (sym x.is) ∙ h.1;
      },
  λ h.
      let f = frame h.in_tree (tree_frame b) in
      let at = operation_at h.body (tree_rows b) h.body_at f.around f.inner f.rest h.owner h.owner_at f.cursor h.in_body in
      let is = (result_fact h.owner at.1 i (row parts.Count h.said) at.2 h.is_count).is in
      (ap part_in is, ap (λ (y : Row). unwrap_or (number_in (piece text y.span)) 0) is ∙ h.is_none),
)
