-- The operation of a row is that of its part in the tree.
use Rattle.std.proofs.Common.{◌≡◌, ◌⊎◌, ◌↔◌, ℕ, ◌+◌, ◌≤◌, List, length, refl, sym, ap, subst, ◌∙◌, inl, inr, ⊎_elim, arith}
use Rattle.ir_text_tree.specs.declared.row.Part.{Part}
use Rattle.ir_text_tree.specs.declared.row.Part.TheVariants as parts
use Rattle.ir_text_tree.specs.declared.row.Row.{Row}
use Rattle.ir_text_tree.specs.Rows.{row}
use Rattle.ir_text_tree.specs.Trees.{Body, tree_rows}
use Rattle.ir_text_names.specs.Rows.{row_of, part_of, region_of, piece}
use Rattle.ir_text_names.specs.Types.{operation_of}
use Rattle.ir_text_names.specs.Given.{name_of}
use Rattle.ir_text_names.specs.Keys.{IsKeyAgain}
use Rattle.ir_text_meaning.specs.Parts.{Operation, result_parts, operand_parts, tail_parts, named_size, head_size, regions_size, operation_size, HasOperation, IsAmong}
use Rattle.ir_text_meaning.specs.Regions.{IsWithin, StandsIn}
use Rattle.ir_text_meaning.specs.Owners.{IsBehindName}
use Rattle.ir_text_meaning.specs.Meanings.{MeansKeyAgain}
use Rattle.ir_text_meaning.proofs.Cursors.{Fact}
use Rattle.ir_text_meaning.proofs.Walks.{operation_at, name_fact, operand_fact, tail_fact}
use Rattle.ir_text_meaning.proofs.Places.{operations_apart, one_body}
use Rattle.ir_text_meaning.proofs.Homes.{home, of_operation, PartCases}
use Rattle.ir_text_meaning.proofs.Bodies.{tree_frame, frame}
use Rattle.ir_text_meaning.proofs.NameMeanings.{row_home, row_within}

pub behind_fact : (b c : Body) (n : ℕ) (o : Operation) (k j : ℕ) (x : Row) → IsWithin c n b 0 → HasOperation c n o k → IsBehindName o k j x → Fact (tree_rows b) j n (k + named_size o.head) x
behind_fact b c n o k j x w h behind =
    let f = frame w (tree_frame b) in
    let at = operation_at c (tree_rows b) n f.around f.inner f.rest o k f.cursor h in
    let own = f.own in
    ⊎_elim (λ (g : IsAmong (operand_parts o.head) (k + named_size o.head) j x). let r = operand_fact o at.1 j x at.2 g in record { is = r.is; region = r.region ∙ own; operation = r.operation })
    (λ (g : IsAmong (tail_parts o.tail) (k + head_size o.head + regions_size o.regions) j x). let r = tail_fact o at.1 j x at.2 g in record { is = r.is; region = r.region ∙ own; operation = r.operation }) behind

pub owners_meet : (b c : Body) (n : ℕ) (o : Operation) (k i : ℕ) (x : Row) → IsWithin c n b 0 → HasOperation c n o k → IsBehindName o k i x → operation_of (tree_rows b) i ≡ k + named_size o.head
owners_meet b c n o k i x w h behind = (behind_fact b c n o k i x w h behind).operation

-- no operation has the name of another
same_operation : (b c : Body) (n : ℕ) (o : Operation) (k : ℕ) (d : Body) (m : ℕ) (p : Operation) (l : ℕ) → IsWithin c n b 0 → HasOperation c n o k → IsWithin d m b 0 → HasOperation d m p l → k + named_size o.head ≡ l + named_size p.head → (p ≡ o) × (l ≡ k)
same_operation b c n o k d m p l w h v g e =
    let rows = tree_rows b in
    let f = frame w (tree_frame b) in
    let at = operation_at c rows n f.around f.inner f.rest o k f.cursor h in
    let one_name = name_fact o at.1 at.2 in
    let q = frame v (tree_frame b) in
    let there = operation_at d rows m q.around q.inner q.rest p l q.cursor g in
    let other_name = name_fact p there.1 there.2 in
    let same : k + length (result_parts o.head) ≡ l + length (result_parts p.head) = omega (arith, e) in
    let region : m ≡ n = sym q.own ∙ sym other_name.region ∙ ap (region_of rows) (sym same) ∙ one_name.region ∙ f.own in
    let body : d ≡ c = one_body v w region in
    let moved : HasOperation c n p l = subst (λ (z : Body). HasOperation z n p l) body (subst (λ (z : ℕ). HasOperation d z p l) region g) in
    ⊎_elim (λ (z : (p ≡ o) × (l ≡ k)). z)
    (λ (z : (l + operation_size p ≤ k) ⊎ (k + operation_size o ≤ l)).
    ⊎_elim (λ (lt : l + operation_size p ≤ k). absurd (omega (arith, lt, same))) (λ (lt : k + operation_size o ≤ l). absurd (omega (arith, lt, same))) z) (operations_apart c n p l o k moved h)

-- the part behind a name that a row is, by its home
behind_of : (o : Operation) (i j : ℕ) (x : Row) → PartCases o i j x → (home x.part ≡ 2) ⊎ (home x.part ≡ 6) → IsBehindName o i j x
behind_of o i j x h e = ⊎_elim (λ (two : home x.part ≡ 2). inl (h.operands two)) (λ (six : home x.part ≡ 6). inr (h.tail six)) e

not_label : (p : Part) → (home p ≡ 2) ⊎ (home p ≡ 6) → home p ≡ 5 → ⊥
not_label p e five = ⊎_elim (λ (two : home p ≡ 2). omega (arith, two, five)) (λ (six : home p ≡ 6). omega (arith, six, five)) e

not_close : (p : Part) → (home p ≡ 2) ⊎ (home p ≡ 6) → home p ≡ 4 → ⊥
not_close p e four = ⊎_elim (λ (two : home p ≡ 2). omega (arith, two, four)) (λ (six : home p ≡ 6). omega (arith, six, four)) e

not_result : (p : Part) → (home p ≡ 2) ⊎ (home p ≡ 6) → home p ≡ 0 → ⊥
not_result p e none_of = ⊎_elim (λ (two : home p ≡ 2). omega (arith, two, none_of)) (λ (six : home p ≡ 6). omega (arith, six, none_of)) e

-- a row that may stand behind a name does, and its operation is that one
pub record Owner (b : Body) (j : ℕ) : Type 0 where
  pub body : Body
  pub at : ℕ
  pub owner : Operation
  pub owner_at : ℕ
  pub within : IsWithin body at b 0
  pub has : HasOperation body at owner owner_at
  pub behind : IsBehindName owner owner_at j (row_of (tree_rows b) j)
  pub cases : PartCases owner owner_at j (row_of (tree_rows b) j)
  pub operation : operation_of (tree_rows b) j ≡ owner_at + named_size owner.head

pub row_owner : (b : Body) (j : ℕ) → (home (part_of (tree_rows b) j) ≡ 2) ⊎ (home (part_of (tree_rows b) j) ≡ 6) → Owner b j
row_owner b j e =
    let rows = tree_rows b in
    let x = row_home b j (row_within rows j (part_of rows j) refl (not_result (part_of rows j) e)) (not_close (part_of rows j) e) in
    let stands : StandsIn x.body x.at j (row_of rows j) = subst (StandsIn x.body x.at j) (sym x.is) x.stands in
    let o = of_operation x.body x.at j (row_of rows j) stands (not_label (part_of rows j) e) in
    let behind = behind_of o.0 o.1 j (row_of rows j) o.3 e in
    let f = behind_fact b x.body x.at o.0 o.1 j (row_of rows j) x.within o.2 behind in
    record { body = x.body; at = x.at; owner = o.0; owner_at = o.1; within = x.within; has = o.2; behind = behind; cases = o.3; operation = f.operation }

-- a row of an operation that may stand behind its name does
pub owned : (b c : Body) (n : ℕ) (o : Operation) (k j : ℕ) → IsWithin c n b 0 → HasOperation c n o k → (home (part_of (tree_rows b) j) ≡ 2) ⊎ (home (part_of (tree_rows b) j) ≡ 6) → operation_of (tree_rows b) j ≡ k + named_size o.head
    → PartCases o k j (row_of (tree_rows b) j)
owned b c n o k j w h e is =
    let r = row_owner b j e in
    let same = same_operation b c n o k r.body r.at r.owner r.owner_at w h r.within r.has (sym is ∙ r.operation) in
    subst (λ (p : Operation). PartCases p k j (row_of (tree_rows b) j)) same.0 (subst (λ (l : ℕ). PartCases r.owner l j (row_of (tree_rows b) j)) same.1 r.cases)

-- ---- keys

abbrev spanned : (x : Row) (p : Part) → x.part ≡ p → x ≡ row p x.span
spanned x p e = ap (λ (q : Part). row q x.span) e

six_of : (p : Part) → p ≡ parts.Key → (home p ≡ 2) ⊎ (home p ≡ 6)
six_of p e = inr (ap home e)

-- a key before another of its operation
abbrev pub IsKeyBefore : List ℕ → Body → ℕ → Type 0
IsKeyBefore text b i = (j : ℕ) × MeansKeyAgain text b i j

key_meant : (text : List ℕ) (b : Body) (i : ℕ) → IsKeyAgain text (tree_rows b) i → IsKeyBefore text b i
key_meant text b i h =
    let rows = tree_rows b in
    let j = h.1.0 in
    let is_i : part_of rows i ≡ parts.Key = h.0 in
    let is_j : part_of rows j ≡ parts.Key = h.1.2.0 in
    let r = row_owner b i (six_of (part_of rows i) is_i) in
    let at_j = owned b r.body r.at r.owner r.owner_at j r.within r.has (six_of (part_of rows j) is_j) (h.1.2.1 ∙ r.operation) in
    let from = r.owner_at + head_size r.owner.head + regions_size r.owner.regions in (
      j,
      record {
        body = r.body;
        body_at = r.at;
        owner = r.owner;
        owner_at = r.owner_at;
        later = (row_of rows i).span;
        earlier = (row_of rows j).span;
        in_tree = r.within;
        in_body = r.has;
        is_later = subst (IsAmong (tail_parts r.owner.tail) from i) (spanned (row_of rows i) parts.Key is_i) (r.cases.tail (ap home is_i));
        is_earlier = subst (IsAmong (tail_parts r.owner.tail) from j) (spanned (row_of rows j) parts.Key is_j) (at_j.tail (ap home is_j));
        before = h.1.1;
        same = h.1.2.2;
      },
    )

key_named : (text : List ℕ) (b : Body) (i : ℕ) → IsKeyBefore text b i → IsKeyAgain text (tree_rows b) i
key_named text b i h =
    let j = h.0 in
    let k = h.1 in
    let x = behind_fact b k.body k.body_at k.owner k.owner_at i (row parts.Key k.later) k.in_tree k.in_body (inr k.is_later) in
    let y = behind_fact b k.body k.body_at k.owner k.owner_at j (row parts.Key k.earlier) k.in_tree k.in_body (inr k.is_earlier) in
    let name : Row → List ℕ = λ r. name_of parts.Key (piece text r.span) in
    (ap (λ (r : Row). r.part) x.is, (j, k.before, (ap (λ (r : Row). r.part) y.is, y.operation ∙ sym x.operation, ap name y.is ∙ k.same ∙ ap name (sym x.is))))

pub keys_meet : (text : List ℕ) (b : Body) (i : ℕ) → IsKeyAgain text (tree_rows b) i ↔ IsKeyBefore text b i
keys_meet text b i = (key_meant text b i, key_named text b i)
