-- Each part of a tree stands in one body, and bodies stand in one another or beside one another.
use Rattle.std.proofs.Common.{◌≡◌, ◌⊎◌, ℕ, zero, suc, ◌+◌, ◌-◌, ◌<◌, ◌≤◌, List, length, refl, sym, ap, subst, ◌∙◌, inl, inr, ⊎_elim, arith}
use Rattle.std.proofs.lemmas.Bool.{cases_lt}
use Rattle.ir_text_tree.specs.declared.row.Part.TheVariants as parts
use Rattle.ir_text_tree.specs.declared.row.Row.{Row}
use Rattle.ir_text_tree.specs.Rows.{row}
use Rattle.ir_text_tree.specs.Trees.{Head, Tail, Label, Body, Regions, done, op, block, none, one}
use Rattle.ir_text_names.specs.Rows.{row_of}
use Rattle.ir_text_meaning.specs.Parts.{Operation, operation, result_parts, operand_parts, tail_parts, label_parts, named_size, head_size, body_size, regions_size, operation_size, HasOperation, HasLabel, HasRegion, IsOpening, IsAmong}
use Rattle.ir_text_meaning.specs.Regions.{IsRegionOf, IsWithin, itself, deeper, IsPartOf, StandsIn}

-- ---- where they begin and end

pub operation_bounds : (c : Body) (n : ℕ) (o : Operation) (k : ℕ) → HasOperation c n o k → (n ≤ k) × (k + operation_size o ≤ n + body_size c)
unfolding body_size
operation_bounds done n o k h = absurd h
operation_bounds (op g rs t b) n o k h =
    ⊎_elim (λ (here : (operation g rs t ≡ o) × (n ≡ k)).
    let size : operation_size (operation g rs t) ≡ operation_size o = ap operation_size here.0 in
    let at : n ≡ k = here.1 in
    (omega (arith, at), omega (arith, at, size)))
    (λ (later : HasOperation b (n + operation_size (operation g rs t)) o k).
    let r = operation_bounds b (n + operation_size (operation g rs t)) o k later in
    let from : n + operation_size (operation g rs t) ≤ k = r.0 in
    let to : k + operation_size o ≤ n + operation_size (operation g rs t) + body_size b = r.1 in
    (omega (arith, from), omega (arith, to))) h
operation_bounds (block l b) n o k h =
    let r = operation_bounds b (n + length (label_parts l)) o k h in
    let from : n + length (label_parts l) ≤ k = r.0 in
    let to : k + operation_size o ≤ n + length (label_parts l) + body_size b = r.1 in
    (omega (arith, from), omega (arith, to))

pub label_bounds : (c : Body) (n : ℕ) (m : Label) (k : ℕ) → HasLabel c n m k → (n ≤ k) × (k + length (label_parts m) ≤ n + body_size c)
unfolding body_size
label_bounds done n m k h = absurd h
label_bounds (op g rs t b) n m k h =
    let r = label_bounds b (n + operation_size (operation g rs t)) m k h in
    let from : n + operation_size (operation g rs t) ≤ k = r.0 in
    let to : k + length (label_parts m) ≤ n + operation_size (operation g rs t) + body_size b = r.1 in
    (omega (arith, from), omega (arith, to))
label_bounds (block l b) n m k h =
    ⊎_elim (λ (here : (l ≡ m) × (n ≡ k)).
    let size : length (label_parts l) ≡ length (label_parts m) = ap (λ (x : Label). length (label_parts x)) here.0 in
    let at : n ≡ k = here.1 in
    (omega (arith, at), omega (arith, at, size)))
    (λ (later : HasLabel b (n + length (label_parts l)) m k).
    let r = label_bounds b (n + length (label_parts l)) m k later in
    let from : n + length (label_parts l) ≤ k = r.0 in
    let to : k + length (label_parts m) ≤ n + length (label_parts l) + body_size b = r.1 in
    (omega (arith, from), omega (arith, to))) h

pub region_bounds : (rs : Regions) (n : ℕ) (c : Body) (m : ℕ) → HasRegion rs n c m → (n < m) × (m + body_size c < n + regions_size rs)
unfolding body_size
region_bounds none n c m h = absurd h
region_bounds (one from b to rs) n c m h =
    ⊎_elim (λ (here : (b ≡ c) × (suc n ≡ m)).
    let size : body_size b ≡ body_size c = ap body_size here.0 in
    let at : suc n ≡ m = here.1 in
    (omega (arith, at), omega (arith, at, size)))
    (λ (later : HasRegion rs (suc n + suc (body_size b)) c m).
    let r = region_bounds rs (suc n + suc (body_size b)) c m later in
    let from : suc n + suc (body_size b) < m = r.0 in
    let to : m + body_size c < suc n + suc (body_size b) + regions_size rs = r.1 in
    (omega (arith, from), omega (arith, to))) h

pub region_of_bounds : (c : Body) (m : ℕ) (b : Body) (n : ℕ) → IsRegionOf c m b n → (n < m) × (m + body_size c < n + body_size b)
region_of_bounds c m b n h =
    let outer = operation_bounds b n h.0 h.1 h.2 in
    let inner = region_bounds h.0.regions (h.1 + head_size h.0.head) c m h.3 in
    let from : n ≤ h.1 = outer.0 in
    let to : h.1 + operation_size h.0 ≤ n + body_size b = outer.1 in
    let behind : h.1 + head_size h.0.head < m = inner.0 in
    let before : m + body_size c < h.1 + head_size h.0.head + regions_size h.0.regions = inner.1 in
    (omega (arith, from, behind), omega (arith, to, before))

pub within_bounds : {c : Body} {m : ℕ} {b : Body} {n : ℕ} → IsWithin c m b n → (n ≤ m) × (m + body_size c ≤ n + body_size b)
within_bounds {m = m} itself = (omega arith, omega arith)
within_bounds {c = c} {m = m} (deeper {b = b} {d = d} {n = n} {k = k} r w) =
    let outer = region_of_bounds d k b n r in
    let inner = within_bounds w in
    let a : n < k = outer.0 in
    let e : k + body_size d < n + body_size b = outer.1 in
    let f : k ≤ m = inner.0 in
    let g : m + body_size c ≤ k + body_size d = inner.1 in
    (omega (arith, a, f), omega (arith, e, g))

-- ---- each part is found

pub among_there : (ys : List Row) (n k : ℕ) → n ≤ k → k < n + length ys → IsAmong ys n k (row_of ys (k - n))
among_there ys n k from to = (k - n, omega (arith, from, to), omega (arith, from), refl)

-- the body of one of these regions has the part, or the part closes it
abbrev InRegions : Regions → ℕ → ℕ → Type 0
InRegions rs n k = (d : Body) × (m : ℕ) × HasRegion rs n d m × (m ≤ k) × (k ≤ m + body_size d)

regions_place : (rs : Regions) (n k : ℕ) → n ≤ k → k < n + regions_size rs → ((x : Row) × IsOpening rs n k x) ⊎ InRegions rs n k
unfolding body_size
regions_place none n k from to = absurd (omega (arith, from, to))
regions_place (one opens b closes rs) n k from to =
    let rest = suc n + suc (body_size b) in
    ⊎_elim (λ (lt : n < k).
    ⊎_elim (λ (behind : suc n + body_size b < k).
    let later = regions_place rs rest k (omega (arith, behind)) (omega (arith, to)) in
    ⊎_elim (λ (o : (x : Row) × IsOpening rs rest k x). inl (o.0, inr o.1)) (λ (r : InRegions rs rest k). inr (r.0, r.1, inr r.2, r.3, r.4)) later)
    (λ (le : k ≤ suc n + body_size b). inr (b, suc n, inl (refl, refl), omega (arith, lt), le)) (cases_lt (suc n + body_size b) k))
    (λ (le : k ≤ n). let same : n ≡ k = omega (arith, from, le) in inl (row parts.Open opens, inl (same, refl))) (cases_lt n k)

operation_place : (o : Operation) (k j : ℕ) → k ≤ j → j < k + operation_size o → ((x : Row) × IsPartOf o k j x) ⊎ InRegions o.regions (k + head_size o.head) j
operation_place o k j from to =
    let results = length (result_parts o.head) in
    let at_regions = k + head_size o.head in
    let at_tail = k + head_size o.head + regions_size o.regions in
    ⊎_elim (λ (a : j < k + results). inl (row_of (result_parts o.head) (j - k), inl (inl (among_there (result_parts o.head) k j from a))))
    (λ (a : k + results ≤ j).
    ⊎_elim (λ (b : k + results < j).
    ⊎_elim (λ (c : j < at_regions). inl (row_of (operand_parts o.head) (j - (k + named_size o.head)), inr (inl (among_there (operand_parts o.head) (k + named_size o.head) j (omega (arith, b)) (omega (arith, c))))))
    (λ (c : at_regions ≤ j).
    ⊎_elim (λ (d : j < at_tail).
    ⊎_elim (λ (f : (x : Row) × IsOpening o.regions at_regions j x). inl (f.0, inr (inr (inl f.1)))) (λ (f : InRegions o.regions at_regions j). inr f) (regions_place o.regions at_regions j c d))
    (λ (d : at_tail ≤ j). inl (row_of (tail_parts o.tail) (j - at_tail), inr (inr (inr (among_there (tail_parts o.tail) at_tail j d (omega (arith, to))))))) (cases_lt j at_tail))
    (cases_lt j at_regions))
    (λ (b : j ≤ k + results). let same : k + results ≡ j = omega (arith, a, b) in inl (row parts.Name o.head.name, inl (inr (same, refl)))) (cases_lt (k + results) j))
    (cases_lt j (k + results))

-- a part stands in the body itself
abbrev pub IsThere : Body → ℕ → ℕ → Type 0
IsThere c n k = (x : Row) × StandsIn c n k x

-- the body of a region of this body has the part, or the part closes it
abbrev InRegionOf : Body → ℕ → ℕ → Type 0
InRegionOf c n k = (d : Body) × (m : ℕ) × IsRegionOf d m c n × (m ≤ k) × (k ≤ m + body_size d)

behind_op : (g : Head) (rs : Regions) (t : Tail) (b : Body) (n k : ℕ) → IsThere b (n + operation_size (operation g rs t)) k ⊎ InRegionOf b (n + operation_size (operation g rs t)) k → IsThere (op g rs t b) n k ⊎ InRegionOf (op g rs t b) n k
behind_op g rs t b n k h =
    let rest = n + operation_size (operation g rs t) in
    ⊎_elim (λ (f : IsThere b rest k).
    inl (
      f.0,
      ⊎_elim (λ (s : (o : Operation) × (i : ℕ) × HasOperation b rest o i × IsPartOf o i k f.0). inl (s.0, s.1, inr s.2, s.3)) (λ (s : (l : Label) × (i : ℕ) × HasLabel b rest l i × IsAmong (label_parts l) i k f.0). inr (s.0, s.1, s.2, s.3)) f.1,
    ))
    (λ (f : InRegionOf b rest k). let r = f.2 in inr (f.0, f.1, (r.0, r.1, inr r.2, r.3), f.3, f.4)) h

behind_block : (l : Label) (b : Body) (n k : ℕ) → IsThere b (n + length (label_parts l)) k ⊎ InRegionOf b (n + length (label_parts l)) k → IsThere (block l b) n k ⊎ InRegionOf (block l b) n k
behind_block m b n k h =
    let rest = n + length (label_parts m) in
    ⊎_elim (λ (f : IsThere b rest k).
    inl (
      f.0,
      ⊎_elim (λ (s : (o : Operation) × (i : ℕ) × HasOperation b rest o i × IsPartOf o i k f.0). inl (s.0, s.1, s.2, s.3)) (λ (s : (l : Label) × (i : ℕ) × HasLabel b rest l i × IsAmong (label_parts l) i k f.0). inr (s.0, s.1, inr s.2, s.3)) f.1,
    ))
    (λ (f : InRegionOf b rest k). let r = f.2 in inr (f.0, f.1, (r.0, r.1, r.2, r.3), f.3, f.4)) h

body_place : (c : Body) (n k : ℕ) → n ≤ k → k < n + body_size c → IsThere c n k ⊎ InRegionOf c n k
unfolding body_size
body_place done n k from to = absurd (omega (arith, from, to))
body_place (op g rs t b) n k from to =
    let o = operation g rs t in
    let rest = n + operation_size o in
    ⊎_elim (λ (lt : k < rest).
    ⊎_elim (λ (f : (x : Row) × IsPartOf o n k x). inl (f.0, inl (o, n, inl (refl, refl), f.1))) (λ (f : InRegions rs (n + head_size g) k). inr (f.0, f.1, (o, n, inl (refl, refl), f.2), f.3, f.4)) (operation_place o n k from lt))
    (λ (le : rest ≤ k). behind_op g rs t b n k (body_place b rest k le (omega (arith, to)))) (cases_lt k rest)
body_place (block l b) n k from to =
    let rest = n + length (label_parts l) in
    ⊎_elim (λ (lt : k < rest). inl (row_of (label_parts l) (k - n), inr (l, n, inl (refl, refl), among_there (label_parts l) n k from lt)))
    (λ (le : rest ≤ k). behind_block l b n k (body_place b rest k le (omega (arith, to)))) (cases_lt k rest)

-- the part stands in a body within this one, or it closes the region of one
abbrev pub IsFound : Body → ℕ → ℕ → Type 0
IsFound c n k = (d : Body) × (m : ℕ) × IsWithin d m c n × (IsThere d m k ⊎ ((k ≡ m + body_size d) × (n < m)))

-- what is found within the body of a region is found within the body around it
deeper_found : (c : Body) (n : ℕ) (d : Body) (m k : ℕ) → IsRegionOf d m c n → n < m → IsFound d m k → IsFound c n k
deeper_found c n d m k r lt f =
    let goes_on : (m < f.1) → n < f.1 = λ less. omega (arith, lt, less) in
    (f.0, f.1, deeper r f.2, ⊎_elim (λ (g : IsThere f.0 f.1 k). inl g) (λ (g : (k ≡ f.1 + body_size f.0) × (m < f.1)). inr (g.0, goes_on g.1)) f.3)

found_by : (fuel : ℕ) (c : Body) (n k : ℕ) → body_size c < fuel → n ≤ k → k < n + body_size c → IsFound c n k
found_by zero c n k less from to = absurd (omega (arith, less))
found_by (suc fuel) c n k less from to =
    ⊎_elim {C = IsFound c n k} (λ (f : IsThere c n k). (c, n, itself, inl f))
    (λ (f : InRegionOf c n k).
    let d = f.0 in
    let m = f.1 in
    let bounds = region_of_bounds d m c n f.2 in
    let a : n < m = bounds.0 in
    let e : m + body_size d < n + body_size c = bounds.1 in
    let begins : m ≤ k = f.3 in
    ⊎_elim {C = IsFound c n k} (λ (lt : k < m + body_size d).
    deeper_found c n d m k f.2 a (found_by fuel d m k (omega (arith, less, a, e)) begins lt))
    (λ (le : m + body_size d ≤ k). let to : k ≤ m + body_size d = f.4 in (d, m, deeper f.2 itself, inr (omega (arith, le, to), a))) (cases_lt k (m + body_size d)))
    (body_place c n k from to)

pub found : (c : Body) (n k : ℕ) → n ≤ k → k < n + body_size c → IsFound c n k
found c n k from to = found_by (suc (body_size c)) c n k (omega arith) from to

-- ---- no two begin at one part

pub operations_apart : (c : Body) (n : ℕ) (o : Operation) (k : ℕ) (p : Operation) (l : ℕ) → HasOperation c n o k → HasOperation c n p l → ((o ≡ p) × (k ≡ l)) ⊎ ((k + operation_size o ≤ l) ⊎ (l + operation_size p ≤ k))
operations_apart done n o k p l g h = absurd g
operations_apart (block m b) n o k p l g h = operations_apart b (n + length (label_parts m)) o k p l g h
operations_apart (op s rs t b) n o k p l g h =
    let first = operation s rs t in
    let rest = n + operation_size first in
    ⊎_elim (λ (x : (first ≡ o) × (n ≡ k)).
    ⊎_elim (λ (y : (first ≡ p) × (n ≡ l)). inl (sym x.0 ∙ y.0, sym x.1 ∙ y.1))
    (λ (y : HasOperation b rest p l).
    let size : operation_size first ≡ operation_size o = ap operation_size x.0 in
    let at : n ≡ k = x.1 in
    let later : rest ≤ l = (operation_bounds b rest p l y).0 in
    inr (inl (omega (arith, size, at, later)))) h)
    (λ (x : HasOperation b rest o k).
    ⊎_elim (λ (y : (first ≡ p) × (n ≡ l)).
    let size : operation_size first ≡ operation_size p = ap operation_size y.0 in
    let at : n ≡ l = y.1 in
    let later : rest ≤ k = (operation_bounds b rest o k x).0 in
    inr (inr (omega (arith, size, at, later)))) (λ (y : HasOperation b rest p l). operations_apart b rest o k p l x y) h) g

regions_apart : (rs : Regions) (n : ℕ) (c : Body) (m : ℕ) (d : Body) (l : ℕ) → HasRegion rs n c m → HasRegion rs n d l → ((c ≡ d) × (m ≡ l)) ⊎ ((m + body_size c < l) ⊎ (l + body_size d < m))
regions_apart none n c m d l g h = absurd g
regions_apart (one from b to rs) n c m d l g h =
    let rest = suc n + suc (body_size b) in
    ⊎_elim (λ (x : (b ≡ c) × (suc n ≡ m)).
    ⊎_elim (λ (y : (b ≡ d) × (suc n ≡ l)). inl (sym x.0 ∙ y.0, sym x.1 ∙ y.1))
    (λ (y : HasRegion rs rest d l).
    let size : body_size b ≡ body_size c = ap body_size x.0 in
    let at : suc n ≡ m = x.1 in
    let later : rest < l = (region_bounds rs rest d l y).0 in
    inr (inl (omega (arith, size, at, later)))) h)
    (λ (x : HasRegion rs rest c m).
    ⊎_elim (λ (y : (b ≡ d) × (suc n ≡ l)).
    let size : body_size b ≡ body_size d = ap body_size y.0 in
    let at : suc n ≡ l = y.1 in
    let later : rest < m = (region_bounds rs rest c m x).0 in
    inr (inr (omega (arith, size, at, later)))) (λ (y : HasRegion rs rest d l). regions_apart rs rest c m d l x y) h) g

bodies_apart : (b : Body) (n : ℕ) (c : Body) (m : ℕ) (d : Body) (l : ℕ) → IsRegionOf c m b n → IsRegionOf d l b n → ((c ≡ d) × (m ≡ l)) ⊎ ((m + body_size c < l) ⊎ (l + body_size d < m))
bodies_apart b n c m d l g h =
    let o = g.0 in
    let k = g.1 in
    let p = h.0 in
    let j = h.1 in
    let one_ends : m + body_size c < k + head_size o.head + regions_size o.regions = (region_bounds o.regions (k + head_size o.head) c m g.3).1 in
    let one_begins : k + head_size o.head < m = (region_bounds o.regions (k + head_size o.head) c m g.3).0 in
    let other_ends : l + body_size d < j + head_size p.head + regions_size p.regions = (region_bounds p.regions (j + head_size p.head) d l h.3).1 in
    let other_begins : j + head_size p.head < l = (region_bounds p.regions (j + head_size p.head) d l h.3).0 in
    ⊎_elim (λ (same : (o ≡ p) × (k ≡ j)).
    let there : HasRegion o.regions (k + head_size o.head) d l =
    subst (λ (q : Operation). HasRegion q.regions (k + head_size q.head) d l) (sym same.0) (subst (λ (i : ℕ). HasRegion p.regions (i + head_size p.head) d l) (sym same.1) h.3) in
    regions_apart o.regions (k + head_size o.head) c m d l g.3 there)
    (λ (apart : (k + operation_size o ≤ j) ⊎ (j + operation_size p ≤ k)).
    ⊎_elim (λ (lt : k + operation_size o ≤ j). inr (inl (omega (arith, one_ends, other_begins, lt)))) (λ (lt : j + operation_size p ≤ k). inr (inr (omega (arith, other_ends, one_begins, lt)))) apart) (operations_apart b n o k p j g.2 h.2)

-- two bodies that begin at one part are one
pub one_body : {c : Body} {m : ℕ} {d : Body} {l : ℕ} {b : Body} {n : ℕ} → IsWithin c m b n → IsWithin d l b n → m ≡ l → c ≡ d
one_body itself itself e = refl
one_body {m = m} {d = d} {l = l} {b = b} itself (deeper {d = f} {k = k} r w) e =
    let x : m < k = (region_of_bounds f k b m r).0 in
    let y : k ≤ l = (within_bounds w).0 in
    absurd (omega (arith, x, y, e))
one_body {m = m} {l = l} {b = b} (deeper {d = f} {k = k} r w) itself e =
    let x : l < k = (region_of_bounds f k b l r).0 in
    let y : k ≤ m = (within_bounds w).0 in
    absurd (omega (arith, x, y, e))
one_body {c = c} {m = m} {d = d} {l = l} {b = b} {n = n} (deeper {d = f} {k = k} r w) (deeper {d = g} {k = j} s v) e =
    let x : k ≤ m = (within_bounds w).0 in
    let y : m + body_size c ≤ k + body_size f = (within_bounds w).1 in
    let z : j ≤ l = (within_bounds v).0 in
    let u : l + body_size d ≤ j + body_size g = (within_bounds v).1 in
    ⊎_elim (λ (same : (f ≡ g) × (k ≡ j)).
    let there : IsWithin d l f k = subst (λ (q : Body). IsWithin d l q k) (sym same.0) (subst (λ (i : ℕ). IsWithin d l g i) (sym same.1) v) in
    one_body w there e)
    (λ (apart : (k + body_size f < j) ⊎ (j + body_size g < k)).
    ⊎_elim (λ (lt : k + body_size f < j). absurd (omega (arith, lt, x, y, z, e))) (λ (lt : j + body_size g < k). absurd (omega (arith, lt, x, z, u, e))) apart) (bodies_apart b n f k g j r s)

-- what is within a body within another is within that
pub within_within : {c : Body} {m : ℕ} {d : Body} {l : ℕ} {b : Body} {n : ℕ} → IsWithin d l b n → IsWithin c m d l → IsWithin c m b n
within_within itself v = v
within_within (deeper r w) v = deeper r (within_within w v)
