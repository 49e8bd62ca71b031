-- A place among rows: what stands from there on, and which regions and operations stand around it.
use Rattle.std.proofs.Common.{◌≡◌, ℕ, zero, suc, ◌+◌, ◌<◌, List, [], ◌∷◌, ◌++◌, length, get_or, refl, sym, ap, subst, ◌∙◌, zero-add, arith}
use Rattle.std.specs.Bool.{⊤}
use Rattle.ir_text_tree.specs.declared.row.Part.{Part}
use Rattle.ir_text_tree.specs.declared.row.Part.TheVariants as parts
use Rattle.ir_text_tree.specs.declared.row.Row.{Row}
use Rattle.ir_text_names.specs.Rows.{row_of, region_of, top, scopes_from, regions_behind, operations_behind}
use Rattle.ir_text_names.specs.Types.{operation_of}
use Rattle.ir_text_meaning.specs.Parts.{IsAmong}
use Rattle.ir_text_meaning.proofs.PartLists.{Each}

-- all but the first
abbrev pub below : List ℕ → List ℕ
below [] = []
below (x ∷ xs) = xs

-- From row n on stand xs, around them these regions, and before them in these the operations.
pub record Cursor (rows : List Row) (n : ℕ) (around inner : List ℕ) (xs : List Row) : Type 0 where
  pub whole : length rows ≡ n + length xs
  pub here : (j : ℕ) → row_of rows (n + j) ≡ row_of xs j
  pub region : (j : ℕ) → region_of rows (n + j) ≡ get_or (scopes_from regions_behind around n xs) j 0
  pub operation : (j : ℕ) → operation_of rows (n + j) ≡ get_or (scopes_from operations_behind inner n xs) j 0

-- what a row is, its region and its operation
pub record Fact (rows : List Row) (i r o : ℕ) (x : Row) : Type 0 where
  pub is : row_of rows i ≡ x
  pub region : region_of rows i ≡ r
  pub operation : operation_of rows i ≡ o

pub start : (rows : List Row) → Cursor rows 0 [] [] rows
start rows = record {
  whole = sym (zero-add (length rows));
  here = λ j. ap (row_of rows) (zero-add j);
  region = λ j. ap (region_of rows) (zero-add j);
  operation = λ j. ap (operation_of rows) (zero-add j);
}

pub cursor_as : {rows : List Row} {n m : ℕ} {a b i j : List ℕ} {xs ys : List Row} → n ≡ m → a ≡ b → i ≡ j → xs ≡ ys → Cursor rows n a i xs → Cursor rows m b j ys
cursor_as {rows = rows} {m = m} {a = a} {b = b} {i = i} {j = j} {xs = xs} {ys = ys} e f g h c =
    subst (λ (zs : List Row). Cursor rows m b j zs) h (subst (λ (l : List ℕ). Cursor rows m b l xs) g (subst (λ (l : List ℕ). Cursor rows m l i xs) f (subst (λ (k : ℕ). Cursor rows k a i xs) e c)))

pub fact_as : {rows : List Row} {i k r q o p : ℕ} {x y : Row} → i ≡ k → r ≡ q → o ≡ p → x ≡ y → Fact rows i r o x → Fact rows k q p y
fact_as {rows = rows} {q = q} {p = p} {y = y} e f g h c = subst (λ (z : ℕ). Fact rows z q p y) e (record { is = c.is ∙ h; region = c.region ∙ f; operation = c.operation ∙ g })

pub next : {rows : List Row} {n : ℕ} {a i : List ℕ} (x : Row) (xs : List Row) → Cursor rows n a i (x ∷ xs) → Cursor rows (suc n) (regions_behind x.part (suc n) a) (operations_behind x.part (suc n) i) xs
unfolding scopes_from
next {rows = rows} {n = n} x xs c =
    let w : length rows ≡ n + suc (length xs) = c.whole in
    let e : (j : ℕ) → suc n + j ≡ n + suc j = λ j. omega arith in
    record {
      whole = omega (arith, w);
      here = λ j. ap (row_of rows) (e j) ∙ c.here (suc j);
      region = λ j. ap (region_of rows) (e j) ∙ c.region (suc j);
      operation = λ j. ap (operation_of rows) (e j) ∙ c.operation (suc j);
    }

pub fact_here : {rows : List Row} {n : ℕ} {a i : List ℕ} (x : Row) (xs : List Row) → Cursor rows n a i (x ∷ xs) → Fact rows n (top a) (top i) x
unfolding scopes_from
fact_here {rows = rows} {n = n} x xs c =
    let e : n ≡ n + 0 = omega arith in
    record { is = ap (row_of rows) e ∙ c.here 0; region = ap (region_of rows) e ∙ c.region 0; operation = ap (operation_of rows) e ∙ c.operation 0 }

-- ---- rows that open and close no region and name no operation

abbrev pub IsPlain : Part → Type 0
IsPlain parts.Open = ⊥
IsPlain parts.Close = ⊥
IsPlain parts.Name = ⊥
IsPlain _ = ⊤

plain_regions : (p : Part) (m : ℕ) (a : List ℕ) → IsPlain p → regions_behind p m a ≡ a
plain_regions parts.Open m a h = absurd h
plain_regions parts.Close m a h = absurd h
plain_regions _ m a h = refl

plain_operations : (p : Part) (m : ℕ) (i : List ℕ) → IsPlain p → operations_behind p m i ≡ i
plain_operations parts.Open m i h = absurd h
plain_operations parts.Close m i h = absurd h
plain_operations parts.Name m i h = absurd h
plain_operations _ m i h = refl

plain_next : {rows : List Row} {n : ℕ} {a i : List ℕ} (x : Row) (xs : List Row) → IsPlain x.part → Cursor rows n a i (x ∷ xs) → Cursor rows (suc n) a i xs
plain_next {n = n} {a = a} {i = i} x xs h c = cursor_as refl (plain_regions x.part (suc n) a h) (plain_operations x.part (suc n) i h) refl (next x xs c)

pub plain_on : {rows : List Row} {n : ℕ} {a i : List ℕ} (ys xs : List Row) → Each IsPlain ys → Cursor rows n a i (ys ++ xs) → Cursor rows (n + length ys) a i xs
plain_on {n = n} [] xs h c = let e : n ≡ n + 0 = omega arith in cursor_as e refl refl refl c
plain_on {n = n} (y ∷ ys) xs h c = let e : suc n + length ys ≡ n + suc (length ys) = omega arith in cursor_as e refl refl refl (plain_on ys xs h.1 (plain_next y (ys ++ xs) h.0 c))

plain_facts : {rows : List Row} {n : ℕ} {a i : List ℕ} (ys xs : List Row) → Each IsPlain ys → Cursor rows n a i (ys ++ xs) → (j : ℕ) → j < length ys → Fact rows (n + j) (top a) (top i) (row_of ys j)
plain_facts [] xs h c j lt = absurd (omega (arith, lt))
plain_facts {n = n} (y ∷ ys) xs h c zero lt = let e : n ≡ n + 0 = omega arith in fact_as e refl refl refl (fact_here y (ys ++ xs) c)
plain_facts {n = n} (y ∷ ys) xs h c (suc j) lt =
    let e : suc n + j ≡ n + suc j = omega arith in
    let less : j < length ys = omega (arith, lt) in
    fact_as e refl refl refl (plain_facts ys xs h.1 (plain_next y (ys ++ xs) h.0 c) j less)

pub among_fact : {rows : List Row} {n : ℕ} {a i : List ℕ} (ys xs : List Row) → Each IsPlain ys → Cursor rows n a i (ys ++ xs) → (k : ℕ) (x : Row) → IsAmong ys n k x → Fact rows k (top a) (top i) x
among_fact ys xs h c k x t = fact_as (sym t.2) refl refl t.3 (plain_facts ys xs h c t.0 t.1)

-- ---- behind a name, and behind the end of a region

pub named_operations : (m : ℕ) (i : List ℕ) → operations_behind parts.Name m i ≡ m ∷ below i
named_operations m [] = refl
named_operations m (x ∷ i) = refl

pub closed_operations : (m : ℕ) (i : List ℕ) → operations_behind parts.Close m i ≡ below i
closed_operations m [] = refl
closed_operations m (x ∷ i) = refl
