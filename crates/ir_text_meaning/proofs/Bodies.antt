-- The bodies of a tree among its rows.
use Rattle.std.proofs.Common.{◌≡◌, ◌⊎◌, ◌↔◌, ℕ, ◌+◌, ◌<◌, List, [], ◌∷◌, length, refl, sym, ap, subst, ◌∙◌, inl, inr, ⊎_elim, arith}
use Rattle.ir_text_tree.specs.declared.row.Part.TheVariants as parts
use Rattle.ir_text_tree.specs.declared.row.Row.{Row}
use Rattle.ir_text_tree.specs.declared.row.Span.{Span}
use Rattle.ir_text_tree.specs.Rows.{row}
use Rattle.ir_text_tree.specs.Trees.{Body, body_rows, tree_rows}
use Rattle.ir_text_names.specs.Rows.{row_of, part_of, region_of, top}
use Rattle.ir_text_meaning.specs.Parts.{body_size, head_size}
use Rattle.ir_text_meaning.specs.Regions.{IsRegionOf, IsWithin, itself, deeper, StandsIn, IsInRegionAt}
use Rattle.ir_text_meaning.proofs.Cursors.{Cursor, cursor_as, start, fact_here}
use Rattle.ir_text_meaning.proofs.Walks.{body_on, operation_at, region_at, regions_from, Stands, stands_fact}
use Rattle.ir_text_meaning.proofs.Places.{IsThere, IsFound, found, one_body}

-- behind a body stands nothing, or the end of its region
abbrev IsEnd : ℕ → List Row → Type 0
IsEnd n xs = ((xs ≡ []) × (n ≡ 0)) ⊎ ((to : Span) × (ys : List Row) × (xs ≡ row parts.Close to ∷ ys))

-- the body stands among the rows from row n on
pub record Frame (rows : List Row) (c : Body) (n : ℕ) : Type 0 where
  pub around : List ℕ
  pub inner : List ℕ
  pub rest : List Row
  pub cursor : Cursor rows n around inner (body_rows c rest)
  pub own : top around ≡ n
  pub ends : IsEnd n rest

pub tree_frame : (b : Body) → Frame (tree_rows b) b 0
tree_frame b = record { around = []; inner = []; rest = []; cursor = start (tree_rows b); own = refl; ends = inl (refl, refl) }

region_frame : (rows : List Row) (c : Body) (m : ℕ) (b : Body) (n : ℕ) → Frame rows b n → IsRegionOf c m b n → Frame rows c m
region_frame rows c m b n f r =
    let o = operation_at b rows n f.around f.inner f.rest r.0 r.1 f.cursor r.2 in
    let g = region_at r.0.regions rows (r.1 + head_size r.0.head) f.around _ _ c m (regions_from r.0 o.1 o.2) r.3 in
    record { around = m ∷ f.around; inner = _; rest = row parts.Close g.0 ∷ g.1; cursor = g.2; own = refl; ends = inr (g.0, g.1, refl) }

pub frame : {rows : List Row} {c : Body} {m : ℕ} {b : Body} {n : ℕ} → IsWithin c m b n → Frame rows b n → Frame rows c m
frame itself f = f
frame {rows = rows} (deeper {b = b} {d = d} {n = n} {k = k} r w) f = frame w (region_frame rows d k b n f r)

pub in_frame : (rows : List Row) (c : Body) (n j : ℕ) (x : Row) → Frame rows c n → StandsIn c n j x → Stands rows j n x
in_frame rows c n j x f h = let s = stands_fact c rows n f.around f.inner f.rest j x f.cursor h in (s.0, s.1 ∙ f.own)

pub tree_size : (b : Body) → length (tree_rows b) ≡ body_size b
tree_size b =
    let r = body_on b (tree_rows b) 0 [] [] [] (start (tree_rows b)) in
    let w : length (tree_rows b) ≡ 0 + body_size b + 0 = r.2.whole in
    omega (arith, w)

-- the row behind a body closes its region
pub close_fact : (rows : List Row) (c : Body) (n i : ℕ) → Frame rows c n → i ≡ n + body_size c → i < length rows → (part_of rows i ≡ parts.Close) × (region_of rows i ≡ n)
close_fact rows c n i f e lt =
    let r = body_on c rows n f.around f.inner f.rest f.cursor in
    let w : length rows ≡ n + body_size c + length f.rest = r.2.whole in
    ⊎_elim (λ (h : (f.rest ≡ []) × (n ≡ 0)). let z : length f.rest ≡ 0 = ap (λ (xs : List Row). length xs) h.0 in absurd (omega (arith, w, z, e, lt)))
    (λ (h : (to : Span) × (ys : List Row) × (f.rest ≡ row parts.Close to ∷ ys)).
    let g = fact_here (row parts.Close h.0) h.1 (cursor_as (sym e) refl refl h.2 r.2) in (ap (λ (x : Row). x.part) g.is, g.region ∙ f.own)) f.ends

-- the part of each row is found in the tree
pub row_found : (b : Body) (i : ℕ) → i < length (tree_rows b) → IsFound b 0 i
row_found b i lt = let size = tree_size b in found b 0 i (omega arith) (omega (arith, lt, size))

pub regions_meet : (b : Body) (i r : ℕ) → i < length (tree_rows b) → (region_of (tree_rows b) i ≡ r) ↔ IsInRegionAt b i r
regions_meet b i r lt = (
  λ e.
      let f = row_found b i lt in
      let c = f.0 in
      let m = f.1 in
      let at = frame f.2 (tree_frame b) in
      ⊎_elim (λ (h : IsThere c m i).
      let s = in_frame (tree_rows b) c m i h.0 at h.1 in
      let same : m ≡ r = sym s.1 ∙ e in
      subst (λ (q : ℕ). IsInRegionAt b i q) same (c, f.2, inl h))
      (λ (h : (i ≡ m + body_size c) × (0 < m)).
      let s = close_fact (tree_rows b) c m i at h.0 lt in
      let same : m ≡ r = sym s.1 ∙ e in
      subst (λ (q : ℕ). IsInRegionAt b i q) same (c, f.2, inr h.0)) f.3,
  λ h.
      let c = h.0 in
      let at = frame h.1 (tree_frame b) in
      ⊎_elim (λ (s : (x : Row) × StandsIn c r i x). (in_frame (tree_rows b) c r i s.0 at s.1).1)
      (λ (s : i ≡ r + body_size c). (close_fact (tree_rows b) c r i at s lt).1) h.2,
)

pub parts_meet : (b c : Body) (n i : ℕ) (x : Row) → IsWithin c n b 0 → StandsIn c n i x → row_of (tree_rows b) i ≡ x
parts_meet b c n i x w h = (in_frame (tree_rows b) c n i x (frame w (tree_frame b)) h).0

pub one_begins : (b c d : Body) (n : ℕ) → IsWithin c n b 0 → IsWithin d n b 0 → c ≡ d
one_begins b c d n w v = one_body w v refl
