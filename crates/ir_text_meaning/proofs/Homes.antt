-- Where parts of each sort stand.
use Rattle.std.proofs.Common.{◌≡◌, ◌⊎◌, ℕ, zero, suc, ◌+◌, ◌<◌, ◌≤◌, List, [], ◌∷◌, length, refl, sym, ap, subst, ◌∙◌, ⊎_elim, arith}
use Rattle.ir_text_tree.specs.declared.row.Part.{Part}
use Rattle.ir_text_tree.specs.declared.row.Part.TheVariants as parts
use Rattle.ir_text_tree.specs.declared.row.Row.{Row}
use Rattle.ir_text_tree.specs.Rows.{row}
use Rattle.ir_text_tree.specs.Trees.{Head, Tail, Label, Body, Regions, none, one, signed_rows}
use Rattle.ir_text_names.specs.Rows.{row_of}
use Rattle.ir_text_meaning.specs.Parts.{Operation, result_parts, operand_parts, tail_parts, label_parts, named_size, head_size, body_size, regions_size, operation_size, HasOperation, HasLabel, IsOpening, IsAmong}
use Rattle.ir_text_meaning.specs.Regions.{IsPartOf, StandsIn}
use Rattle.ir_text_meaning.proofs.PartLists.{Each, results_each, operands_each, tail_each, label_each, signed_each}
use Rattle.ir_text_meaning.proofs.Places.{operation_bounds, label_bounds}

-- where in a tree such a part stands
abbrev pub home : Part → ℕ
home parts.Result = 0
home parts.Count = 0
home parts.Name = 1
home parts.Operand = 2
home parts.Index = 2
home parts.Successor = 2
home parts.Properties = 2
home parts.Open = 3
home parts.Close = 4
home parts.Label = 5
home parts.Argument = 5
home parts.ArgumentType = 5
home parts.ArgumentLocation = 5
home _ = 6

pub each_at : (P : Part → Type 0) (ys : List Row) (j : ℕ) → Each P ys → j < length ys → P (row_of ys j).part
each_at P [] j h lt = absurd (omega (arith, lt))
each_at P (y ∷ ys) zero h lt = h.0
each_at P (y ∷ ys) (suc j) h lt = let less : j < length ys = omega (arith, lt) in each_at P ys j h.1 less

each_among : (P : Part → Type 0) (ys : List Row) (n k : ℕ) (x : Row) → Each P ys → IsAmong ys n k x → P x.part
each_among P ys n k x h t = subst (λ (y : Row). P y.part) t.3 (each_at P ys t.0 h t.1)

pub result_home : (h : Head) (n k : ℕ) (x : Row) → IsAmong (result_parts h) n k x → home x.part ≡ 0
result_home h n k x t = each_among (λ (p : Part). home p ≡ 0) (result_parts h) n k x (results_each (λ (p : Part). home p ≡ 0) h.results [] refl refl tt) t

pub operand_home : (h : Head) (n k : ℕ) (x : Row) → IsAmong (operand_parts h) n k x → home x.part ≡ 2
operand_home h n k x t = each_among (λ (p : Part). home p ≡ 2) (operand_parts h) n k x (operands_each (λ (p : Part). home p ≡ 2) h refl refl refl refl) t

pub tail_home : (l : Tail) (n k : ℕ) (x : Row) → IsAmong (tail_parts l) n k x → home x.part ≡ 6
tail_home l n k x t = each_among (λ (p : Part). home p ≡ 6) (tail_parts l) n k x (tail_each (λ (p : Part). home p ≡ 6) l refl refl refl refl refl refl) t

pub label_home : (l : Label) (n k : ℕ) (x : Row) → IsAmong (label_parts l) n k x → home x.part ≡ 5
label_home l n k x t = each_among (λ (p : Part). home p ≡ 5) (label_parts l) n k x (label_each (λ (p : Part). home p ≡ 5) l refl refl refl refl) t

opening_home : (rs : Regions) (n k : ℕ) (x : Row) → IsOpening rs n k x → home x.part ≡ 3
opening_home none n k x h = absurd h
opening_home (one from b to rs) n k x h =
    ⊎_elim (λ (f : (n ≡ k) × (row parts.Open from ≡ x)). ap (λ (y : Row). home y.part) (sym f.1)) (λ (f : IsOpening rs (suc n + suc (body_size b)) k x). opening_home rs (suc n + suc (body_size b)) k x f) h

opening_bounds : (rs : Regions) (n k : ℕ) (x : Row) → IsOpening rs n k x → (n ≤ k) × (k < n + regions_size rs)
unfolding body_size
opening_bounds none n k x h = absurd h
opening_bounds (one from b to rs) n k x h =
    ⊎_elim (λ (f : (n ≡ k) × (row parts.Open from ≡ x)). let e : n ≡ k = f.0 in (omega (arith, e), omega (arith, e)))
    (λ (f : IsOpening rs (suc n + suc (body_size b)) k x).
    let r = opening_bounds rs (suc n + suc (body_size b)) k x f in
    let from : suc n + suc (body_size b) ≤ k = r.0 in
    let to : k < suc n + suc (body_size b) + regions_size rs = r.1 in
    (omega (arith, from), omega (arith, to))) h

-- ---- a part by where it stands

-- what a part of an operation is, by its home
pub record PartCases (o : Operation) (i k : ℕ) (x : Row) : Type 0 where
  pub bounds : (i ≤ k) × (k < i + operation_size o)
  pub results : home x.part ≡ 0 → IsAmong (result_parts o.head) i k x
  pub name : home x.part ≡ 1 → i + length (result_parts o.head) ≡ k
  pub operands : home x.part ≡ 2 → IsAmong (operand_parts o.head) (i + named_size o.head) k x
  pub tail : home x.part ≡ 6 → IsAmong (tail_parts o.tail) (i + head_size o.head + regions_size o.regions) k x
  pub no_close : home x.part ≡ 4 → ⊥
  pub no_label : home x.part ≡ 5 → ⊥

differ : {A : Type 0} (m p q : ℕ) → m ≡ p → (p ≡ q → ⊥) → m ≡ q → A
differ m p q e apart f = absurd (apart (sym e ∙ f))

part_cases : (o : Operation) (i k : ℕ) (x : Row) → IsPartOf o i k x → PartCases o i k x
part_cases o i k x h =
    let at = home x.part in
    ⊎_elim (λ (f : IsAmong (result_parts o.head) i k x ⊎ ((i + length (result_parts o.head) ≡ k) × (row parts.Name o.head.name ≡ x))).
    ⊎_elim (λ (g : IsAmong (result_parts o.head) i k x).
    let e = result_home o.head i k x g in
    let lt : g.0 < length (result_parts o.head) = g.1 in
    let is : k ≡ i + g.0 = g.2 in
    record {
      bounds = (omega (arith, is), omega (arith, lt, is));
      results = λ z. g;
      name = λ z. differ at 0 1 e (λ q. omega (arith, q)) z;
      operands = λ z. differ at 0 2 e (λ q. omega (arith, q)) z;
      tail = λ z. differ at 0 6 e (λ q. omega (arith, q)) z;
      no_close = λ z. differ at 0 4 e (λ q. omega (arith, q)) z;
      no_label = λ z. differ at 0 5 e (λ q. omega (arith, q)) z;
    })
    (λ (g : (i + length (result_parts o.head) ≡ k) × (row parts.Name o.head.name ≡ x)).
    let e : home x.part ≡ 1 = ap (λ (y : Row). home y.part) (sym g.1) in
    let is : i + length (result_parts o.head) ≡ k = g.0 in
    record {
      bounds = (omega (arith, is), omega (arith, is));
      results = λ z. differ at 1 0 e (λ q. omega (arith, q)) z;
      name = λ z. is;
      operands = λ z. differ at 1 2 e (λ q. omega (arith, q)) z;
      tail = λ z. differ at 1 6 e (λ q. omega (arith, q)) z;
      no_close = λ z. differ at 1 4 e (λ q. omega (arith, q)) z;
      no_label = λ z. differ at 1 5 e (λ q. omega (arith, q)) z;
    }) f)
    (λ (f : IsAmong (operand_parts o.head) (i + named_size o.head) k x ⊎ (IsOpening o.regions (i + head_size o.head) k x ⊎ IsAmong (tail_parts o.tail) (i + head_size o.head + regions_size o.regions) k x)).
    ⊎_elim (λ (g : IsAmong (operand_parts o.head) (i + named_size o.head) k x).
    let e = operand_home o.head (i + named_size o.head) k x g in
    let lt : g.0 < length (operand_parts o.head) = g.1 in
    let is : k ≡ i + named_size o.head + g.0 = g.2 in
    record {
      bounds = (omega (arith, is), omega (arith, lt, is));
      results = λ z. differ at 2 0 e (λ q. omega (arith, q)) z;
      name = λ z. differ at 2 1 e (λ q. omega (arith, q)) z;
      operands = λ z. g;
      tail = λ z. differ at 2 6 e (λ q. omega (arith, q)) z;
      no_close = λ z. differ at 2 4 e (λ q. omega (arith, q)) z;
      no_label = λ z. differ at 2 5 e (λ q. omega (arith, q)) z;
    })
    (λ (g : IsOpening o.regions (i + head_size o.head) k x ⊎ IsAmong (tail_parts o.tail) (i + head_size o.head + regions_size o.regions) k x).
    ⊎_elim (λ (l : IsOpening o.regions (i + head_size o.head) k x).
    let e = opening_home o.regions (i + head_size o.head) k x l in
    let bounds = opening_bounds o.regions (i + head_size o.head) k x l in
    let from : i + head_size o.head ≤ k = bounds.0 in
    let to : k < i + head_size o.head + regions_size o.regions = bounds.1 in
    record {
      bounds = (omega (arith, from), omega (arith, to));
      results = λ z. differ at 3 0 e (λ q. omega (arith, q)) z;
      name = λ z. differ at 3 1 e (λ q. omega (arith, q)) z;
      operands = λ z. differ at 3 2 e (λ q. omega (arith, q)) z;
      tail = λ z. differ at 3 6 e (λ q. omega (arith, q)) z;
      no_close = λ z. differ at 3 4 e (λ q. omega (arith, q)) z;
      no_label = λ z. differ at 3 5 e (λ q. omega (arith, q)) z;
    })
    (λ (l : IsAmong (tail_parts o.tail) (i + head_size o.head + regions_size o.regions) k x).
    let e = tail_home o.tail (i + head_size o.head + regions_size o.regions) k x l in
    let lt : l.0 < length (tail_parts o.tail) = l.1 in
    let is : k ≡ i + head_size o.head + regions_size o.regions + l.0 = l.2 in
    record {
      bounds = (omega (arith, is), omega (arith, lt, is));
      results = λ z. differ at 6 0 e (λ q. omega (arith, q)) z;
      name = λ z. differ at 6 1 e (λ q. omega (arith, q)) z;
      operands = λ z. differ at 6 2 e (λ q. omega (arith, q)) z;
      tail = λ z. l;
      no_close = λ z. differ at 6 4 e (λ q. omega (arith, q)) z;
      no_label = λ z. differ at 6 5 e (λ q. omega (arith, q)) z;
    }) g) f) h

-- the operation of which the part is one, or the block's head
abbrev pub IsOfOperation : Body → ℕ → ℕ → Row → Type 0
IsOfOperation c n k x = (o : Operation) × (i : ℕ) × HasOperation c n o i × PartCases o i k x

abbrev pub IsOfLabel : Body → ℕ → ℕ → Row → Type 0
IsOfLabel c n k x = (l : Label) × (i : ℕ) × HasLabel c n l i × IsAmong (label_parts l) i k x

pub stands_bounds : (c : Body) (n k : ℕ) (x : Row) → StandsIn c n k x → (n ≤ k) × (k < n + body_size c)
stands_bounds c n k x h =
    ⊎_elim (λ (f : (o : Operation) × (i : ℕ) × HasOperation c n o i × IsPartOf o i k x).
    let outer = operation_bounds c n f.0 f.1 f.2 in
    let inner = (part_cases f.0 f.1 k x f.3).bounds in
    let a : n ≤ f.1 = outer.0 in
    let b : f.1 + operation_size f.0 ≤ n + body_size c = outer.1 in
    let d : f.1 ≤ k = inner.0 in
    let e : k < f.1 + operation_size f.0 = inner.1 in
    (omega (arith, a, d), omega (arith, b, e)))
    (λ (f : IsOfLabel c n k x).
    let outer = label_bounds c n f.0 f.1 f.2 in
    let a : n ≤ f.1 = outer.0 in
    let b : f.1 + length (label_parts f.0) ≤ n + body_size c = outer.1 in
    let lt : f.3.0 < length (label_parts f.0) = f.3.1 in
    let is : k ≡ f.1 + f.3.0 = f.3.2 in
    (omega (arith, a, is), omega (arith, b, lt, is))) h

-- a part whose home is no block's head is one of an operation
pub of_operation : (c : Body) (n k : ℕ) (x : Row) → StandsIn c n k x → (home x.part ≡ 5 → ⊥) → IsOfOperation c n k x
of_operation c n k x h apart =
    ⊎_elim (λ (f : (o : Operation) × (i : ℕ) × HasOperation c n o i × IsPartOf o i k x). (f.0, f.1, f.2, part_cases f.0 f.1 k x f.3))
    (λ (f : IsOfLabel c n k x). absurd (apart (label_home f.0 f.1 k x f.3))) h

pub of_label : (c : Body) (n k : ℕ) (x : Row) → StandsIn c n k x → home x.part ≡ 5 → IsOfLabel c n k x
of_label c n k x h e = ⊎_elim (λ (f : (o : Operation) × (i : ℕ) × HasOperation c n o i × IsPartOf o i k x). absurd ((part_cases f.0 f.1 k x f.3).no_label e)) (λ (f : IsOfLabel c n k x). f) h

-- no part that closes a region stands in a body itself
pub no_close : (c : Body) (n k : ℕ) (x : Row) → StandsIn c n k x → home x.part ≡ 4 → ⊥
no_close c n k x h e =
    ⊎_elim (λ (f : (o : Operation) × (i : ℕ) × HasOperation c n o i × IsPartOf o i k x). (part_cases f.0 f.1 k x f.3).no_close e)
    (λ (f : IsOfLabel c n k x). let g : home x.part ≡ 5 = label_home f.0 f.1 k x f.3 in omega (arith, e, g)) h

-- ---- a block's name is the first part of its head

abbrev begins : Part → ℕ
begins parts.Label = 1
begins _ = 0

pub label_first : (l : Label) (n k : ℕ) (x : Row) → IsAmong (label_parts l) n k x → x.part ≡ parts.Label → (n ≡ k) × (x ≡ row parts.Label l.name)
label_first l n k x t e = by_place t.0 t.1 t.2 t.3
  where
    others : Each (λ (p : Part). begins p ≡ 0) (signed_rows l.arguments [])
    others = signed_each (λ (p : Part). begins p ≡ 0) l.arguments refl refl refl

    by_place : (j : ℕ) → j < length (label_parts l) → k ≡ n + j → row_of (label_parts l) j ≡ x → (n ≡ k) × (x ≡ row parts.Label l.name)
    by_place zero lt at is = (omega (arith, at), sym is)
    by_place (suc j) lt at is =
        let none_begins : begins (row_of (signed_rows l.arguments []) j).part ≡ 0 = each_at (λ (p : Part). begins p ≡ 0) (signed_rows l.arguments []) j others (omega (arith, lt)) in
        let here : begins (row_of (signed_rows l.arguments []) j).part ≡ 1 = ap (λ (y : Row). begins y.part) is ∙ ap begins e in
        absurd (omega (arith, none_begins, here))
