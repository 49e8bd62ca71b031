-- From one part of a tree to the next among its rows.
use Rattle.std.proofs.Common.{◌≡◌, ◌⊎◌, ℕ, suc, ◌+◌, List, [], ◌∷◌, ◌++◌, length, refl, ap, subst, ◌∙◌, ⊎_elim, arith}
use Rattle.ir_text_tree.specs.declared.row.Part.TheVariants as parts
use Rattle.ir_text_tree.specs.declared.row.Row.{Row}
use Rattle.ir_text_tree.specs.declared.row.Span.{Span}
use Rattle.ir_text_tree.specs.Rows.{row}
use Rattle.ir_text_tree.specs.Trees.{Head, Tail, Label, Body, Regions, done, op, block, none, one, result_rows, use_rows, successor_rows, maybe_row, body_rows, region_rows}
use Rattle.ir_text_names.specs.Rows.{row_of, region_of, top}
use Rattle.ir_text_meaning.specs.Parts.{Operation, operation, result_parts, operand_parts, tail_parts, label_parts, named_size, head_size, body_size, regions_size, operation_size, HasOperation, HasLabel, HasRegion, IsOpening, IsAmong}
use Rattle.ir_text_meaning.specs.Regions.{IsPartOf, StandsIn}
use Rattle.ir_text_meaning.proofs.PartLists.{Each, results_append, operands_append, tail_append, label_append, results_each, operands_each, tail_each, label_each}
use Rattle.ir_text_meaning.proofs.Cursors.{below, Cursor, Fact, cursor_as, fact_as, next, fact_here, IsPlain, plain_on, among_fact, named_operations, closed_operations}

-- ---- the rows of an operation, and then those

abbrev from_regions : Regions → Tail → List Row → List Row
from_regions rs t xs = region_rows rs (tail_parts t ++ xs)

abbrev pub from_operands : Head → Regions → Tail → List Row → List Row
from_operands h rs t xs = operand_parts h ++ from_regions rs t xs

abbrev pub from_results : Head → Regions → Tail → List Row → List Row
from_results h rs t xs = result_parts h ++ (row parts.Name h.name ∷ from_operands h rs t xs)

op_split : (h : Head) (rs : Regions) (t : Tail) (b : Body) (xs : List Row) → body_rows (op h rs t b) xs ≡ from_results h rs t (body_rows b xs)
unfolding body_rows
op_split h rs t b xs =
    ap (λ (zs : List Row). result_rows h.results (row parts.Name h.name ∷ use_rows h.operands (successor_rows h.successors (maybe_row parts.Properties h.properties (region_rows rs zs))))) (tail_append t [] (body_rows b xs))
    ∙ ap (λ (zs : List Row). result_rows h.results (row parts.Name h.name ∷ zs)) (operands_append h [] (from_regions rs t (body_rows b xs)))
    ∙ results_append h.results [] (row parts.Name h.name ∷ from_operands h rs t (body_rows b xs))

block_split : (l : Label) (b : Body) (xs : List Row) → body_rows (block l b) xs ≡ label_parts l ++ body_rows b xs
unfolding body_rows
block_split l b xs = label_append l [] (body_rows b xs)

results_plain : (h : Head) → Each IsPlain (result_parts h)
results_plain h = results_each IsPlain h.results [] tt tt tt

operands_plain : (h : Head) → Each IsPlain (operand_parts h)
operands_plain h = operands_each IsPlain h tt tt tt tt

tail_plain : (t : Tail) → Each IsPlain (tail_parts t)
tail_plain t = tail_each IsPlain t tt tt tt tt tt tt

label_plain : (l : Label) → Each IsPlain (label_parts l)
label_plain l = label_each IsPlain l tt tt tt tt

to_name : {rows : List Row} {k : ℕ} {a i : List ℕ} (h : Head) (rs : Regions) (t : Tail) (xs : List Row) → Cursor rows k a i (from_results h rs t xs) → Cursor rows (k + length (result_parts h)) a i (row parts.Name h.name ∷ from_operands h rs t xs)
to_name h rs t xs c = plain_on (result_parts h) (row parts.Name h.name ∷ from_operands h rs t xs) (results_plain h) c

to_operands : {rows : List Row} {k : ℕ} {a i : List ℕ} (h : Head) (rs : Regions) (t : Tail) (xs : List Row) → Cursor rows k a i (from_results h rs t xs) → Cursor rows (k + named_size h) a ((k + named_size h) ∷ below i) (from_operands h rs t xs)
to_operands {k = k} {i = i} h rs t xs c =
    let e : suc (k + length (result_parts h)) ≡ k + named_size h = omega arith in
    cursor_as e refl (named_operations (suc (k + length (result_parts h))) i ∙ ap (λ (m : ℕ). m ∷ below i) e) refl (next (row parts.Name h.name) (from_operands h rs t xs) (to_name h rs t xs c))

to_regions : {rows : List Row} {k : ℕ} {a i : List ℕ} (h : Head) (rs : Regions) (t : Tail) (xs : List Row) → Cursor rows k a i (from_results h rs t xs) → Cursor rows (k + head_size h) a ((k + named_size h) ∷ below i) (from_regions rs t xs)
to_regions {k = k} h rs t xs c =
    let e : k + named_size h + length (operand_parts h) ≡ k + head_size h = omega arith in
    cursor_as e refl refl refl (plain_on (operand_parts h) (from_regions rs t xs) (operands_plain h) (to_operands h rs t xs c))

mutual
  unfolding body_rows body_size

  pub body_on : (c : Body) (rows : List Row) (n : ℕ) (a i : List ℕ) (xs : List Row) → Cursor rows n a i (body_rows c xs) → (e : List ℕ) × (below e ≡ below i) × Cursor rows (n + body_size c) a e xs
  body_on done rows n a i xs c = let e : n ≡ n + 0 = omega arith in (i, refl, cursor_as e refl refl refl c)
  body_on (op h rs t b) rows n a i xs c =
      let name = n + named_size h in
      let at_regions = to_regions h rs t (body_rows b xs) (cursor_as refl refl refl (op_split h rs t b xs) c) in
      let at_tail = regions_on rs rows (n + head_size h) a (name ∷ below i) (tail_parts t ++ body_rows b xs) at_regions in
      let at_end = plain_on (tail_parts t) (body_rows b xs) (tail_plain t) at_tail in
      let r = body_on b rows (n + head_size h + regions_size rs + length (tail_parts t)) a (name ∷ below i) xs at_end in
      let e : n + head_size h + regions_size rs + length (tail_parts t) + body_size b ≡ n + (head_size h + regions_size rs + length (tail_parts t) + body_size b) = omega arith in
      (r.0, r.1, cursor_as e refl refl refl r.2)
  body_on (block l b) rows n a i xs c =
      let at_end = plain_on (label_parts l) (body_rows b xs) (label_plain l) (cursor_as refl refl refl (block_split l b xs) c) in
      let r = body_on b rows (n + length (label_parts l)) a i xs at_end in
      let e : n + length (label_parts l) + body_size b ≡ n + (length (label_parts l) + body_size b) = omega arith in
      (r.0, r.1, cursor_as e refl refl refl r.2)

  pub regions_on : (rs : Regions) (rows : List Row) (n : ℕ) (a i : List ℕ) (xs : List Row) → Cursor rows n a i (region_rows rs xs) → Cursor rows (n + regions_size rs) a i xs
  regions_on none rows n a i xs c = let e : n ≡ n + 0 = omega arith in cursor_as e refl refl refl c
  regions_on (one from b to rs) rows n a i xs c =
      let within = next (row parts.Open from) (body_rows b (row parts.Close to ∷ region_rows rs xs)) c in
      let r = body_on b rows (suc n) (suc n ∷ a) (0 ∷ i) (row parts.Close to ∷ region_rows rs xs) within in
      let behind = next (row parts.Close to) (region_rows rs xs) r.2 in
      let e : suc (suc n + body_size b) + regions_size rs ≡ n + suc (body_size b + suc (regions_size rs)) = omega arith in
      cursor_as e refl refl refl (regions_on rs rows (suc (suc n + body_size b)) a i xs (cursor_as refl refl (closed_operations (suc (suc n + body_size b)) r.0 ∙ r.1) refl behind))

-- from an operation's regions on
pub regions_from : {rows : List Row} {k : ℕ} {a i : List ℕ} (o : Operation) (xs : List Row) → Cursor rows k a i (from_results o.head o.regions o.tail xs) → Cursor rows (k + head_size o.head) a ((k + named_size o.head) ∷ below i) (region_rows o.regions (tail_parts o.tail ++ xs))
regions_from o xs c = to_regions o.head o.regions o.tail xs c

to_tail : {rows : List Row} {k : ℕ} {a i : List ℕ} (h : Head) (rs : Regions) (t : Tail) (xs : List Row) → Cursor rows k a i (from_results h rs t xs) → Cursor rows (k + head_size h + regions_size rs) a ((k + named_size h) ∷ below i) (tail_parts t ++ xs)
to_tail {rows = rows} {k = k} {a = a} {i = i} h rs t xs c = regions_on rs rows (k + head_size h) a ((k + named_size h) ∷ below i) (tail_parts t ++ xs) (to_regions h rs t xs c)

op_on : {rows : List Row} {n : ℕ} {a i : List ℕ} (h : Head) (rs : Regions) (t : Tail) (b : Body) (xs : List Row) → Cursor rows n a i (body_rows (op h rs t b) xs) → Cursor rows (n + operation_size (operation h rs t)) a ((n + named_size h) ∷ below i) (body_rows b xs)
op_on {n = n} h rs t b xs c =
    let e : n + head_size h + regions_size rs + length (tail_parts t) ≡ n + operation_size (operation h rs t) = omega arith in
    cursor_as e refl refl refl (plain_on (tail_parts t) (body_rows b xs) (tail_plain t) (to_tail h rs t (body_rows b xs) (cursor_as refl refl refl (op_split h rs t b xs) c)))

block_on : {rows : List Row} {n : ℕ} {a i : List ℕ} (l : Label) (b : Body) (xs : List Row) → Cursor rows n a i (body_rows (block l b) xs) → Cursor rows (n + length (label_parts l)) a i (body_rows b xs)
block_on l b xs c = plain_on (label_parts l) (body_rows b xs) (label_plain l) (cursor_as refl refl refl (block_split l b xs) c)

-- ---- to an operation, a block's head and a region

pub operation_at : (c : Body) (rows : List Row) (n : ℕ) (a i : List ℕ) (xs : List Row) (o : Operation) (k : ℕ) → Cursor rows n a i (body_rows c xs) → HasOperation c n o k → (e : List ℕ) × (ys : List Row) × Cursor rows k a e (from_results o.head o.regions o.tail ys)
operation_at done rows n a i xs o k c h = absurd h
operation_at (op g rs t b) rows n a i xs o k c h =
    ⊎_elim (λ (here : (operation g rs t ≡ o) × (n ≡ k)).
    let at : Cursor rows k a i (from_results g rs t (body_rows b xs)) = cursor_as here.1 refl refl (op_split g rs t b xs) c in
    (i, body_rows b xs, subst (λ (p : Operation). Cursor rows k a i (from_results p.head p.regions p.tail (body_rows b xs))) here.0 at))
    (λ (later : HasOperation b (n + operation_size (operation g rs t)) o k). operation_at b rows (n + operation_size (operation g rs t)) a ((n + named_size g) ∷ below i) xs o k (op_on g rs t b xs c) later) h
operation_at (block l b) rows n a i xs o k c h = operation_at b rows (n + length (label_parts l)) a i xs o k (block_on l b xs c) h

pub label_at : (c : Body) (rows : List Row) (n : ℕ) (a i : List ℕ) (xs : List Row) (l : Label) (k : ℕ) → Cursor rows n a i (body_rows c xs) → HasLabel c n l k → (e : List ℕ) × (ys : List Row) × Cursor rows k a e (label_parts l ++ ys)
label_at done rows n a i xs l k c h = absurd h
label_at (op g rs t b) rows n a i xs l k c h = label_at b rows (n + operation_size (operation g rs t)) a ((n + named_size g) ∷ below i) xs l k (op_on g rs t b xs c) h
label_at (block m b) rows n a i xs l k c h =
    ⊎_elim (λ (here : (m ≡ l) × (n ≡ k)).
    let at : Cursor rows k a i (label_parts m ++ body_rows b xs) = cursor_as here.1 refl refl (block_split m b xs) c in
    (i, body_rows b xs, subst (λ (p : Label). Cursor rows k a i (label_parts p ++ body_rows b xs)) here.0 at))
    (λ (later : HasLabel b (n + length (label_parts m)) l k). label_at b rows (n + length (label_parts m)) a i xs l k (block_on m b xs c) later) h

region_on : {rows : List Row} {n : ℕ} {a i : List ℕ} (from : Span) (b : Body) (to : Span) (rs : Regions) (xs : List Row) → Cursor rows n a i (region_rows (one from b to rs) xs) → Cursor rows (suc n + suc (body_size b)) a i (region_rows rs xs)
unfolding body_rows
region_on {rows = rows} {n = n} {a = a} {i = i} from b to rs xs c =
    let within = next (row parts.Open from) (body_rows b (row parts.Close to ∷ region_rows rs xs)) c in
    let r = body_on b rows (suc n) (suc n ∷ a) (0 ∷ i) (row parts.Close to ∷ region_rows rs xs) within in
    let behind = next (row parts.Close to) (region_rows rs xs) r.2 in
    let e : suc (suc n + body_size b) ≡ suc n + suc (body_size b) = omega arith in
    cursor_as e refl (closed_operations (suc (suc n + body_size b)) r.0 ∙ r.1) refl behind

pub region_at : (rs : Regions) (rows : List Row) (n : ℕ) (a i : List ℕ) (xs : List Row) (c : Body) (m : ℕ) → Cursor rows n a i (region_rows rs xs) → HasRegion rs n c m → (to : Span) × (ys : List Row) × Cursor rows m (m ∷ a) (0 ∷ i) (body_rows c (row parts.Close to ∷ ys))
unfolding body_rows
region_at none rows n a i xs c m at h = absurd h
region_at (one from b to rs) rows n a i xs c m at h =
    ⊎_elim (λ (here : (b ≡ c) × (suc n ≡ m)).
    let within = next (row parts.Open from) (body_rows b (row parts.Close to ∷ region_rows rs xs)) at in
    (to, region_rows rs xs, cursor_as here.1 (ap (λ (k : ℕ). k ∷ a) here.1) refl (ap (λ (d : Body). body_rows d (row parts.Close to ∷ region_rows rs xs)) here.0) within))
    (λ (later : HasRegion rs (suc n + suc (body_size b)) c m). region_at rs rows (suc n + suc (body_size b)) a i xs c m (region_on from b to rs xs at) later) h

opening_fact : (rs : Regions) (rows : List Row) (n : ℕ) (a i : List ℕ) (xs : List Row) (k : ℕ) (x : Row) → Cursor rows n a i (region_rows rs xs) → IsOpening rs n k x → Fact rows k (top a) (top i) x
unfolding body_rows
opening_fact none rows n a i xs k x c h = absurd h
opening_fact (one from b to rs) rows n a i xs k x c h =
    ⊎_elim (λ (here : (n ≡ k) × (row parts.Open from ≡ x)). fact_as here.0 refl refl here.1 (fact_here (row parts.Open from) (body_rows b (row parts.Close to ∷ region_rows rs xs)) c))
    (λ (later : IsOpening rs (suc n + suc (body_size b)) k x). opening_fact rs rows (suc n + suc (body_size b)) a i xs k x (region_on from b to rs xs c) later) h

-- ---- what rows are

pub result_fact : {rows : List Row} {k : ℕ} {a i : List ℕ} (o : Operation) (xs : List Row) (j : ℕ) (x : Row) → Cursor rows k a i (from_results o.head o.regions o.tail xs) → IsAmong (result_parts o.head) k j x → Fact rows j (top a) (top i) x
result_fact o xs j x c h = among_fact (result_parts o.head) (row parts.Name o.head.name ∷ from_operands o.head o.regions o.tail xs) (results_plain o.head) c j x h

pub name_fact : {rows : List Row} {k : ℕ} {a i : List ℕ} (o : Operation) (xs : List Row) → Cursor rows k a i (from_results o.head o.regions o.tail xs) → Fact rows (k + length (result_parts o.head)) (top a) (top i) (row parts.Name o.head.name)
name_fact o xs c = fact_here (row parts.Name o.head.name) (from_operands o.head o.regions o.tail xs) (to_name o.head o.regions o.tail xs c)

pub operand_fact : {rows : List Row} {k : ℕ} {a i : List ℕ} (o : Operation) (xs : List Row) (j : ℕ) (x : Row) → Cursor rows k a i (from_results o.head o.regions o.tail xs) → IsAmong (operand_parts o.head) (k + named_size o.head) j x → Fact rows j (top a) (k + named_size o.head) x
operand_fact o xs j x c h = among_fact (operand_parts o.head) (from_regions o.regions o.tail xs) (operands_plain o.head) (to_operands o.head o.regions o.tail xs c) j x h

pub tail_fact : {rows : List Row} {k : ℕ} {a i : List ℕ} (o : Operation) (xs : List Row) (j : ℕ) (x : Row) → Cursor rows k a i (from_results o.head o.regions o.tail xs) → IsAmong (tail_parts o.tail) (k + head_size o.head + regions_size o.regions) j x → Fact rows j (top a) (k + named_size o.head) x
tail_fact o xs j x c h = among_fact (tail_parts o.tail) xs (tail_plain o.tail) (to_tail o.head o.regions o.tail xs c) j x h

-- what a row is, and its region
abbrev pub Stands : List Row → ℕ → ℕ → Row → Type 0
Stands rows i r x = (row_of rows i ≡ x) × (region_of rows i ≡ r)

part_fact : {rows : List Row} {k : ℕ} {a i : List ℕ} (o : Operation) (xs : List Row) (j : ℕ) (x : Row) → Cursor rows k a i (from_results o.head o.regions o.tail xs) → IsPartOf o k j x → Stands rows j (top a) x
part_fact {rows = rows} {k = k} {a = a} {i = i} o xs j x c h =
    ⊎_elim (λ (f : IsAmong (result_parts o.head) k j x ⊎ ((k + length (result_parts o.head) ≡ j) × (row parts.Name o.head.name ≡ x))).
    ⊎_elim (λ (g : IsAmong (result_parts o.head) k j x). let r = result_fact o xs j x c g in (r.is, r.region))
    (λ (g : (k + length (result_parts o.head) ≡ j) × (row parts.Name o.head.name ≡ x)). let r = fact_as g.0 refl refl g.1 (name_fact o xs c) in (r.is, r.region)) f)
    (λ (f : IsAmong (operand_parts o.head) (k + named_size o.head) j x ⊎ (IsOpening o.regions (k + head_size o.head) j x ⊎ IsAmong (tail_parts o.tail) (k + head_size o.head + regions_size o.regions) j x)).
    ⊎_elim (λ (g : IsAmong (operand_parts o.head) (k + named_size o.head) j x). let r = operand_fact o xs j x c g in (r.is, r.region))
    (λ (g : IsOpening o.regions (k + head_size o.head) j x ⊎ IsAmong (tail_parts o.tail) (k + head_size o.head + regions_size o.regions) j x).
    ⊎_elim (λ (l : IsOpening o.regions (k + head_size o.head) j x). let r = opening_fact o.regions rows (k + head_size o.head) a ((k + named_size o.head) ∷ below i) (tail_parts o.tail ++ xs) j x (to_regions o.head o.regions o.tail xs c) l in (r.is, r.region))
    (λ (l : IsAmong (tail_parts o.tail) (k + head_size o.head + regions_size o.regions) j x). let r = tail_fact o xs j x c l in (r.is, r.region)) g) f) h

pub label_fact : {rows : List Row} {k : ℕ} {a i : List ℕ} (l : Label) (xs : List Row) (j : ℕ) (x : Row) → Cursor rows k a i (label_parts l ++ xs) → IsAmong (label_parts l) k j x → Fact rows j (top a) (top i) x
label_fact l xs j x c h = among_fact (label_parts l) xs (label_plain l) c j x h

pub stands_fact : (c : Body) (rows : List Row) (n : ℕ) (a i : List ℕ) (xs : List Row) (j : ℕ) (x : Row) → Cursor rows n a i (body_rows c xs) → StandsIn c n j x → Stands rows j (top a) x
stands_fact c rows n a i xs j x at h =
    ⊎_elim (λ (f : (o : Operation) × (k : ℕ) × HasOperation c n o k × IsPartOf o k j x).
    let o = operation_at c rows n a i xs f.0 f.1 at f.2 in part_fact f.0 o.1 j x o.2 f.3)
    (λ (f : (l : Label) × (k : ℕ) × HasLabel c n l k × IsAmong (label_parts l) k j x).
    let l = label_at c rows n a i xs f.0 f.1 at f.2 in let r = label_fact f.0 l.1 j x l.2 f.3 in (r.is, r.region)) h
