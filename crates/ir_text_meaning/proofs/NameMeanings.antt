-- Values' and blocks' names mean by rows what they mean in the tree.
use Rattle.std.proofs.Common.{◌≡◌, ◌↔◌, ℕ, ◌+◌, ◌<◌, ◌≤◌, Bool, true, List, length, refl, sym, ap, subst, ◌∙◌, inl, inr, ⊎_elim, arith}
use Rattle.std.proofs.lemmas.Bool.{cases_lt, false≢true}
use Rattle.std.proofs.lemmas.List.{get_or_past}
use Rattle.ir_text_tree.specs.declared.row.Part.{Part}
use Rattle.ir_text_tree.specs.declared.row.Part.TheVariants as parts
use Rattle.ir_text_tree.specs.declared.row.Row.{Row}
use Rattle.ir_text_tree.specs.declared.row.Span.{Span}
use Rattle.ir_text_tree.specs.Rows.{row}
use Rattle.ir_text_tree.specs.Trees.{Label, Body, tree_rows}
use Rattle.ir_text_names.specs.Rows.{no_row, row_of, part_of, region_of, piece}
use Rattle.ir_text_names.specs.Values.{defines, IsDefinition, IsInRegion, NamesValue}
use Rattle.ir_text_names.specs.Blocks.{NamesBlock}
use Rattle.ir_text_meaning.specs.Parts.{Operation, result_parts, operand_parts, label_parts, body_size, HasOperation, HasLabel, IsAmong, named_size}
use Rattle.ir_text_meaning.specs.Regions.{IsWithin, StandsIn}
use Rattle.ir_text_meaning.specs.Meanings.{HasDefinition, HasOperand, HasSuccessor, HasBlock, MeansValue, MeansBlock}
use Rattle.ir_text_meaning.proofs.Homes.{home, stands_bounds, of_operation, of_label, no_close, label_first}
use Rattle.ir_text_meaning.proofs.Places.{IsThere, found, one_body, within_bounds, within_within}
use Rattle.ir_text_meaning.proofs.Bodies.{tree_frame, frame, in_frame, tree_size, close_fact, row_found}

-- the part of a row that is one
abbrev pub part_in : Row → Part
part_in x = x.part

-- what is no result is one of the rows
pub row_within : (rows : List Row) (i : ℕ) (p : Part) → part_of rows i ≡ p → (home p ≡ 0 → ⊥) → i < length rows
row_within rows i p e apart =
    ⊎_elim (λ (l : i < length rows). l) (λ (l : length rows ≤ i). absurd (apart (ap home (sym e ∙ ap part_in (get_or_past rows i no_row l))))) (cases_lt i (length rows))

-- the body in which the row's part stands itself
pub record Home (b : Body) (i : ℕ) : Type 0 where
  pub body : Body
  pub at : ℕ
  pub part : Row
  pub within : IsWithin body at b 0
  pub stands : StandsIn body at i part
  pub is : row_of (tree_rows b) i ≡ part
  pub region : region_of (tree_rows b) i ≡ at

pub row_home : (b : Body) (i : ℕ) → i < length (tree_rows b) → (home (part_of (tree_rows b) i) ≡ 4 → ⊥) → Home b i
row_home b i lt apart =
    let f = row_found b i lt in
    let at = frame f.2 (tree_frame b) in
    ⊎_elim (λ (h : IsThere f.0 f.1 i). let s = in_frame (tree_rows b) f.0 f.1 i h.0 at h.1 in record { body = f.0; at = f.1; part = h.0; within = f.2; stands = h.1; is = s.0; region = s.1 })
    (λ (h : (i ≡ f.1 + body_size f.0) × (0 < f.1)). absurd (apart (ap home (close_fact (tree_rows b) f.0 f.1 i at h.0 lt).0))) f.3

-- a row of that sort, with its span
abbrev spanned : (x : Row) (p : Part) → x.part ≡ p → x ≡ row p x.span
spanned x p e = ap (λ (q : Part). row q x.span) e

-- ---- definitions, operands, successors and blocks

pub definition_of : (c : Body) (n k : ℕ) (x : Row) → StandsIn c n k x → defines x.part ≡ true → HasDefinition c n k x.span
definition_of c n k x h e = by_part x.part refl
  where
    results : x.part ≡ parts.Result → HasDefinition c n k x.span
    results f =
        let z : home x.part ≡ 0 = ap home f in
        let o = of_operation c n k x h (λ five. omega (arith, z, five)) in
        inl (o.0, o.1, o.2, subst (IsAmong (result_parts o.0.head) o.1 k) (spanned x parts.Result f) (o.3.results z))

    arguments : x.part ≡ parts.Argument → HasDefinition c n k x.span
    arguments f = let l = of_label c n k x h (ap home f) in inr (l.0, l.1, l.2, subst (IsAmong (label_parts l.0) l.1 k) (spanned x parts.Argument f) l.3)

    by_part : (p : Part) → x.part ≡ p → HasDefinition c n k x.span
    by_part parts.Result f = results f
    by_part parts.Argument f = arguments f
    by_part _ f = absurd (false≢true (sym (ap defines f) ∙ e))

pub operand_of : (c : Body) (n k : ℕ) (x : Row) → StandsIn c n k x → x.part ≡ parts.Operand → HasOperand c n k x.span
operand_of c n k x h f =
    let z : home x.part ≡ 2 = ap home f in
    let o = of_operation c n k x h (λ five. omega (arith, z, five)) in
    (o.0, o.1, o.2, subst (IsAmong (operand_parts o.0.head) (o.1 + named_size o.0.head) k) (spanned x parts.Operand f) (o.3.operands z))

pub successor_of : (c : Body) (n k : ℕ) (x : Row) → StandsIn c n k x → x.part ≡ parts.Successor → HasSuccessor c n k x.span
successor_of c n k x h f =
    let z : home x.part ≡ 2 = ap home f in
    let o = of_operation c n k x h (λ five. omega (arith, z, five)) in
    (o.0, o.1, o.2, subst (IsAmong (operand_parts o.0.head) (o.1 + named_size o.0.head) k) (spanned x parts.Successor f) (o.3.operands z))

pub block_of : (c : Body) (n k : ℕ) (x : Row) → StandsIn c n k x → x.part ≡ parts.Label → HasBlock c n k x.span
block_of c n k x h f =
    let l = of_label c n k x h (ap home f) in
    let first = label_first l.0 l.1 k x l.3 f in
    (l.0, subst (HasLabel c n l.0) first.0 l.2, ap (λ (y : Row). y.span) (sym first.1))

pub definition_stands : (c : Body) (n k : ℕ) (s : Span) → HasDefinition c n k s → (x : Row) × StandsIn c n k x × (defines x.part ≡ true) × (x.span ≡ s)
definition_stands c n k s h =
    ⊎_elim (λ (f : (o : Operation) × (i : ℕ) × HasOperation c n o i × IsAmong (result_parts o.head) i k (row parts.Result s)). (row parts.Result s, inl (f.0, f.1, f.2, inl (inl f.3)), refl, refl))
    (λ (f : (l : Label) × (i : ℕ) × HasLabel c n l i × IsAmong (label_parts l) i k (row parts.Argument s)). (row parts.Argument s, inr (f.0, f.1, f.2, f.3), refl, refl)) h

pub operand_stands : (c : Body) (n k : ℕ) (s : Span) → HasOperand c n k s → StandsIn c n k (row parts.Operand s)
operand_stands c n k s h = inl (h.0, h.1, h.2, inr (inl h.3))

pub successor_stands : (c : Body) (n k : ℕ) (s : Span) → HasSuccessor c n k s → StandsIn c n k (row parts.Successor s)
successor_stands c n k s h = inl (h.0, h.1, h.2, inr (inl h.3))

pub block_stands : (c : Body) (n k : ℕ) (s : Span) → HasBlock c n k s → StandsIn c n k (row parts.Label s)
block_stands c n k s h =
    let size : 0 < length (label_parts h.0) = omega arith in
    let at : k ≡ k + 0 = omega arith in
    inr (h.0, k, h.1, (0, size, at, ap (λ (x : Span). row parts.Label x) h.2))

-- ---- values

-- a row that ends no region is in the region of another only if it stands in that one's body
row_inside : (b : Body) (c : Body) (m d u : ℕ) → IsWithin c m b 0 → d < m + body_size c → region_of (tree_rows b) d ≡ m → u < length (tree_rows b) → (home (part_of (tree_rows b) u) ≡ 4 → ⊥) → IsInRegion (tree_rows b) u d → (m ≤ u) × (u < m + body_size c)
row_inside b c m d u w before own lt open_row at =
    let rows = tree_rows b in
    let end = m + body_size c in
    let begins : region_of rows d ≤ u = at.0 in
    let closes : end < length rows → (part_of rows end ≡ parts.Close) × (region_of rows end ≡ m) = close_fact rows c m end (frame w (tree_frame b)) refl in (
      omega (arith, begins, own),
      ⊎_elim (λ (l : u < end). l)
          (λ (l : end ≤ u).
          let close = closes (omega (arith, l, lt)) in
          ⊎_elim (λ (k : end < u). let le : d ≤ end = omega (arith, before) in absurd (at.1 (end, le, k, close.0, close.1 ∙ sym own)))
          (λ (k : u ≤ end).
          let same : u ≡ end = omega (arith, k, l) in
          absurd (open_row (ap (λ (i : ℕ). home (part_of rows i)) same ∙ ap home close.0))) (cases_lt end u)) (cases_lt u end),
    )

-- no region that is around a body ends in it
stays_open : (b : Body) (c : Body) (m k : ℕ) → IsWithin c m b 0 → m ≤ k → k < m + body_size c → part_of (tree_rows b) k ≡ parts.Close → region_of (tree_rows b) k ≡ m → ⊥
stays_open b c m k w from to close own =
    let rows = tree_rows b in
    let size = tree_size b in
    let bounds = within_bounds w in
    let inside : m + body_size c ≤ 0 + body_size b = bounds.1 in
    let f = found c m k from to in
    let at = frame f.2 (frame w (tree_frame b)) in
    ⊎_elim (λ (h : IsThere f.0 f.1 k).
    let s = in_frame rows f.0 f.1 k h.0 at h.1 in no_close f.0 f.1 k h.0 h.1 (ap (λ (x : Row). home x.part) (sym s.0) ∙ ap home close))
    (λ (h : (k ≡ f.1 + body_size f.0) × (m < f.1)).
    let lt : k < length rows = omega (arith, to, inside, size) in
    let other : region_of rows k ≡ f.1 = (close_fact rows f.0 f.1 k at h.0 lt).1 in
    let inner : m < f.1 = h.1 in
    absurd (omega (arith, other, own, inner))) f.3

-- a part that stands in a body itself is one of the rows
pub part_within : (b c : Body) (n k : ℕ) (x : Row) → IsWithin c n b 0 → StandsIn c n k x → k < length (tree_rows b)
part_within b c n k x w h =
    let size = tree_size b in
    let to : k < n + body_size c = (stands_bounds c n k x h).1 in
    let inside : n + body_size c ≤ 0 + body_size b = (within_bounds w).1 in
    omega (arith, size, to, inside)

-- what stands in a body itself closes no region
pub part_open : (b c : Body) (n k : ℕ) (x : Row) → IsWithin c n b 0 → StandsIn c n k x → home (part_of (tree_rows b) k) ≡ 4 → ⊥
part_open b c n k x w h four = no_close c n k x h (ap (λ (y : Row). home y.part) (sym (in_frame (tree_rows b) c n k x (frame w (tree_frame b)) h).0) ∙ four)

inside_meant : (b c d : Body) (m n i j : ℕ) (x y : Row) → IsWithin c m b 0 → StandsIn c m i x → IsWithin d n b 0 → StandsIn d n j y → IsInRegion (tree_rows b) j i → IsWithin d n c m
inside_meant b c d m n i j x y w s v t at =
    let rows = tree_rows b in
    let outer = frame w (tree_frame b) in
    let region_i = (in_frame rows c m i x outer s).1 in
    let region_j = (in_frame rows d n j y (frame v (tree_frame b)) t).1 in
    let inside = row_inside b c m i j w (stands_bounds c m i x s).1 region_i (part_within b d n j y v t) (part_open b d n j y v t) at in
    let f = found c m j inside.0 inside.1 in
    let there = frame f.2 outer in
    ⊎_elim (λ (g : IsThere f.0 f.1 j).
    let same : f.1 ≡ n = sym (in_frame rows f.0 f.1 j g.0 there g.1).1 ∙ region_j in
    let body : f.0 ≡ d = one_body (within_within w f.2) v same in
    subst (λ (z : Body). IsWithin z n c m) body (subst (λ (k : ℕ). IsWithin f.0 k c m) same f.2))
    (λ (g : (j ≡ f.1 + body_size f.0) × (m < f.1)). absurd (part_open b d n j y v t (ap home (close_fact rows f.0 f.1 j there g.0 (part_within b d n j y v t)).0))) f.3

inside_named : (b c d : Body) (m n i j : ℕ) (x y : Row) → IsWithin c m b 0 → StandsIn c m i x → StandsIn d n j y → IsWithin d n c m → IsInRegion (tree_rows b) j i
inside_named b c d m n i j x y w s t within =
    let rows = tree_rows b in
    let own : region_of rows i ≡ m = (in_frame rows c m i x (frame w (tree_frame b)) s).1 in
    let from : m ≤ n = (within_bounds within).0 in
    let to : n + body_size d ≤ m + body_size c = (within_bounds within).1 in
    let i_from : m ≤ i = (stands_bounds c m i x s).0 in
    let j_from : n ≤ j = (stands_bounds d n j y t).0 in
    let j_to : j < n + body_size d = (stands_bounds d n j y t).1 in (
      omega (arith, own, from, j_from),
      λ z.
          let after : i ≤ z.0 = z.1 in
          let less : z.0 < j = z.2 in
          stays_open b c m z.0 w (omega (arith, i_from, after)) (omega (arith, less, j_to, to)) z.3 (z.4 ∙ own),
    )

pub inside_meet : (b c d : Body) (m n i j : ℕ) (x y : Row) → IsWithin c m b 0 → StandsIn c m i x → IsWithin d n b 0 → StandsIn d n j y → IsInRegion (tree_rows b) j i ↔ IsWithin d n c m
inside_meet b c d m n i j x y w s v t = (inside_meant b c d m n i j x y w s v t, inside_named b c d m n i j x y w s t)

not_closing : (p : Part) → defines p ≡ true → home p ≡ 4 → ⊥
not_closing parts.Result e four = omega (arith, four)
not_closing parts.Argument e four = omega (arith, four)
not_closing _ e four = false≢true e

-- where a definition stands
pub definition_home : (b : Body) (d : ℕ) → IsDefinition (tree_rows b) d → Home b d
definition_home b d h = row_home b d h.0 (not_closing (part_of (tree_rows b) d) h.1)

pub operand_home : (b : Body) (u : ℕ) → part_of (tree_rows b) u ≡ parts.Operand → Home b u
operand_home b u e = row_home b u (row_within (tree_rows b) u parts.Operand e (λ q. omega (arith, q))) (λ four. let two : home (part_of (tree_rows b) u) ≡ 2 = ap home e in omega (arith, four, two))

pub successor_home : (b : Body) (s : ℕ) → part_of (tree_rows b) s ≡ parts.Successor → Home b s
successor_home b s e = row_home b s (row_within (tree_rows b) s parts.Successor e (λ q. omega (arith, q))) (λ four. let two : home (part_of (tree_rows b) s) ≡ 2 = ap home e in omega (arith, four, two))

pub label_home : (b : Body) (l : ℕ) → part_of (tree_rows b) l ≡ parts.Label → Home b l
label_home b l e = row_home b l (row_within (tree_rows b) l parts.Label e (λ q. omega (arith, q))) (λ four. let five : home (part_of (tree_rows b) l) ≡ 5 = ap home e in omega (arith, four, five))

abbrev pub text_in : List ℕ → Row → List ℕ
text_in text x = piece text x.span

abbrev pub defines_part : Row → Bool
defines_part x = defines x.part

value_meant : (text : List ℕ) (b : Body) (u d : ℕ) → NamesValue text (tree_rows b) u d → MeansValue text b u d
value_meant text b u d h =
    let x = definition_home b d h.1 in
    let y = operand_home b u h.0 in
    record {
      scope = x.body;
      scope_at = x.at;
      body = y.body;
      body_at = y.at;
      defined = x.part.span;
      named = y.part.span;
      in_tree = x.within;
      in_scope = inside_meant b x.body y.body x.at y.at d u x.part y.part x.within x.stands y.within y.stands h.3;
      definition = definition_of x.body x.at d x.part x.stands (ap (λ (r : Row). defines r.part) (sym x.is) ∙ h.1.1);
      operand = operand_of y.body y.at u y.part y.stands (ap part_in (sym y.is) ∙ h.0);
      same = ap (text_in text) (sym x.is) ∙ h.2 ∙ ap (text_in text) y.is;
    }

-- a definition of the tree is one of the rows
pub definition_row : (b c : Body) (n d : ℕ) (s : Span) → IsWithin c n b 0 → HasDefinition c n d s → IsDefinition (tree_rows b) d × ((row_of (tree_rows b) d).span ≡ s)
definition_row b c n d s w h =
    let x = definition_stands c n d s h in
    let f = in_frame (tree_rows b) c n d x.0 (frame w (tree_frame b)) x.1 in
    ((part_within b c n d x.0 w x.1, ap (λ (r : Row). defines r.part) f.0 ∙ x.2), ap (λ (r : Row). r.span) f.0 ∙ x.3)

value_named : (text : List ℕ) (b : Body) (u d : ℕ) → MeansValue text b u d → NamesValue text (tree_rows b) u d
value_named text b u d h =
    let rows = tree_rows b in
    let x = definition_stands h.scope h.scope_at d h.defined h.definition in
    let y = operand_stands h.body h.body_at u h.named h.operand in
    let is = definition_row b h.scope h.scope_at d h.defined h.in_tree h.definition in
    let t = in_frame rows h.body h.body_at u (row parts.Operand h.named) (frame (within_within h.in_tree h.in_scope) (tree_frame b)) y in (
      ap part_in t.0,
      is.0,
      ap (piece text) is.1 ∙ h.same ∙ ap (text_in text) (sym t.0),
      inside_named b h.scope h.body h.scope_at h.body_at d u x.0 (row parts.Operand h.named) h.in_tree x.1 y h.in_scope,
    )

pub values_meet : (text : List ℕ) (b : Body) (u d : ℕ) → NamesValue text (tree_rows b) u d ↔ MeansValue text b u d
values_meet text b u d = (value_meant text b u d, value_named text b u d)

-- ---- blocks

pub block_meant : (text : List ℕ) (b : Body) (s l : ℕ) → NamesBlock text (tree_rows b) s l → MeansBlock text b s l
block_meant text b s l h =
    let rows = tree_rows b in
    let is_label : part_of rows l ≡ parts.Label = h.1.0 in
    let same_region : region_of rows l ≡ region_of rows s = h.1.1 in
    let x = successor_home b s h.0 in
    let y = label_home b l is_label in
    let at : y.at ≡ x.at = sym y.region ∙ same_region ∙ x.region in
    let body : y.body ≡ x.body = one_body y.within x.within at in
    let block : HasBlock y.body y.at l y.part.span = block_of y.body y.at l y.part y.stands (ap part_in (sym y.is) ∙ is_label) in
    let there : HasBlock x.body x.at l y.part.span = subst (λ (c : Body). HasBlock c x.at l y.part.span) body (subst (λ (n : ℕ). HasBlock y.body n l y.part.span) at block) in
    record {
      body = x.body;
      body_at = x.at;
      given = y.part.span;
      named = x.part.span;
      in_tree = x.within;
      block = there;
      successor = successor_of x.body x.at s x.part x.stands (ap part_in (sym x.is) ∙ h.0);
      same = ap (λ (r : Row). piece text r.span) (sym y.is) ∙ h.1.2 ∙ ap (λ (r : Row). piece text r.span) x.is;
    }

pub block_named : (text : List ℕ) (b : Body) (s l : ℕ) → MeansBlock text b s l → NamesBlock text (tree_rows b) s l
block_named text b s l h =
    let rows = tree_rows b in
    let at = frame h.in_tree (tree_frame b) in
    let x = in_frame rows h.body h.body_at s (row parts.Successor h.named) at (successor_stands h.body h.body_at s h.named h.successor) in
    let y = in_frame rows h.body h.body_at l (row parts.Label h.given) at (block_stands h.body h.body_at l h.given h.block) in
    (ap part_in x.0, (ap part_in y.0, y.1 ∙ sym x.1, ap (λ (r : Row). piece text r.span) y.0 ∙ h.same ∙ ap (λ (r : Row). piece text r.span) (sym x.0)))

pub blocks_meet : (text : List ℕ) (b : Body) (s l : ℕ) → NamesBlock text (tree_rows b) s l ↔ MeansBlock text b s l
blocks_meet text b s l = (block_meant text b s l, block_named text b s l)
