-- Tables with an entry for each row, from one row to the next.
use Rattle.std.proofs.Common.{◌≡◌, ℕ, ◌+◌, ◌<◌, ◌≤◌, Bool, true, false, List, [], ◌∷◌, ◌++◌, length, get_or, set, Option, Some, None, refl, sym, ap, subst, ◌∙◌, ⊎_elim, arith}
use Rattle.std.proofs.lemmas.Bool.{cases_lt, cases_eq, false≢true}
use Rattle.std.proofs.lemmas.List.{get_or_push, get_or_append_left, length_push, get_or-set_same, get_or-set_other}
use Rattle.ir_text_tree.specs.declared.row.Part.TheVariants as parts
use Rattle.ir_text_tree.specs.declared.row.Row.{Row}
use Rattle.ir_text_names.specs.Blocks.{misses}
use Rattle.ir_text_names.specs.Firsts.{IsFirst, noted}
use Rattle.ir_text_names.specs.Rows.{part_of}
use Rattle.ir_text_names.specs.Values.{IsMissing}
use Rattle.ir_text_names.proofs.FirstRows.{first_as, first_more, noted_not}

-- one entry more
pub entries_more : (P : ℕ → Option ℕ → Type 0) (n : ℕ) (o : Option ℕ) (table out : List (Option ℕ)) → P n o → out ≡ table ++ o ∷ [] → (length table ≡ n) × ((u : ℕ) → u < n → P u (get_or table u None)) → (length out ≡ n + 1) × ((u : ℕ) → u < n + 1 → P u (get_or out u None))
entries_more P n o table out here pushed h = (
  ap length pushed ∙ length_push table o ∙ ap (λ (k : ℕ). k + 1) h.0,
  λ s lt.
      subst (λ (t : List (Option ℕ)). P s (get_or t s None)) (sym pushed)
      (⊎_elim (λ (l : s < n). let m : s < length table = omega (arith, h.0) in subst (P s) (sym (get_or_append_left table (o ∷ []) None s m)) (h.1 s l))
      (λ (l : n ≤ s). let e : n ≡ s = omega arith in subst (λ (k : ℕ). P k (get_or (table ++ o ∷ []) k None)) e (subst (P n) (sym (get_or_push table o None n h.0)) here)) (cases_lt s n)),
)

-- one entry written
pub entries_set : (P : ℕ → Option ℕ → Type 0) (n m : ℕ) (o : Option ℕ) (table out : List (Option ℕ)) → n < length table → P n o → out ≡ set table n o → ((u : ℕ) → n + 1 ≤ u → u < m → P u (get_or table u None)) → (u : ℕ) → n ≤ u → u < m → P u (get_or out u None)
entries_set P n m o table out within here written h u le lt =
    subst (λ (t : List (Option ℕ)). P u (get_or t u None)) (sym written)
    (⊎_elim (λ (e : n ≡ u). subst (λ (k : ℕ). P k (get_or (set table n o) k None)) e (subst (P n) (sym (get_or-set_same table n o None within)) here))
    (λ (apart : n ≡ u → ⊥). subst (P u) (sym (get_or-set_other table n u o None (λ (e : u ≡ n). apart (sym e)))) (h u (omega arith) lt)) (cases_eq n u))

pub misses_is : (b : Bool) (o : Option ℕ) → misses b o ≡ true → (b ≡ true) × (o ≡ None)
misses_is b None e = (e, refl)
misses_is b (Some i) e = absurd (false≢true e)

pub misses_told : (b : Bool) (o : Option ℕ) → b ≡ true → o ≡ None → misses b o ≡ true
misses_told b o e f = ap (misses b) f ∙ e

-- the first operand without an entry, where one entry more is put behind the others
pub missing_more : (rows : List Row) (n : ℕ) (o : Option ℕ) (b : Bool) (e : Option ℕ) (table out : List (Option ℕ)) → out ≡ table ++ e ∷ [] → length table ≡ n → (b ≡ true → (part_of rows n ≡ parts.Operand) × (e ≡ None)) → ((part_of rows n ≡ parts.Operand) × (e ≡ None) → b ≡ true)
    → IsFirst (IsMissing rows table) n o → IsFirst (IsMissing rows out) (n + 1) (noted o n b)
missing_more rows n o b e table out pushed long holds known h =
    let here : get_or out n None ≡ e = ap (λ (t : List (Option ℕ)). get_or t n None) pushed ∙ get_or_push table e None n long in
    let before : (k : ℕ) → k < n → get_or out k None ≡ get_or table k None =
    λ k lt. ap (λ (t : List (Option ℕ)). get_or t k None) pushed ∙ get_or_append_left table (e ∷ []) None k (omega (arith, lt, long)) in
    first_more (IsMissing rows out) n o b (λ t. let m = holds t in (m.0, here ∙ m.1)) (λ m. known (m.0, sym here ∙ m.1))
    (first_as (IsMissing rows table) (IsMissing rows out) n o (λ k lt m. (m.0, before k lt ∙ m.1)) (λ k lt m. (m.0, sym (before k lt) ∙ m.1)) h)

-- the same, where the row is no operand
pub missing_kept : (rows : List Row) (n : ℕ) (o e : Option ℕ) (table out : List (Option ℕ)) → out ≡ table ++ e ∷ [] → length table ≡ n → (part_of rows n ≡ parts.Operand → ⊥) → IsFirst (IsMissing rows table) n o → IsFirst (IsMissing rows out) (n + 1) o
missing_kept rows n o e table out pushed long other h =
    subst (λ (r : Option ℕ). IsFirst (IsMissing rows out) (n + 1) r) (noted_not o n) (missing_more rows n o false e table out pushed long (λ f. absurd (false≢true f)) (λ m. absurd (other m.0)) h)

-- one item more, of any sort
pub items_more : (X : Type 0) (P : ℕ → X → Type 0) (d : X) (n : ℕ) (o : X) (table out : List X) → P n o → out ≡ table ++ o ∷ [] → length table ≡ n → ((u : ℕ) → u < n → P u (get_or table u d)) → (u : ℕ) → u < n + 1 → P u (get_or out u d)
items_more X P d n o table out here pushed long h s lt =
    subst (λ (t : List X). P s (get_or t s d)) (sym pushed)
    (⊎_elim (λ (l : s < n). let m : s < length table = omega (arith, long) in subst (P s) (sym (get_or_append_left table (o ∷ []) d s m)) (h s l))
    (λ (l : n ≤ s). let e : n ≡ s = omega arith in subst (λ (k : ℕ). P k (get_or (table ++ o ∷ []) k d)) e (subst (P n) (sym (get_or_push table o d n long)) here)) (cases_lt s n))

pub items_long : (X : Type 0) (n : ℕ) (o : X) (table out : List X) → out ≡ table ++ o ∷ [] → length table ≡ n → length out ≡ n + 1
items_long X n o table out pushed long = ap length pushed ∙ length_push table o ∙ ap (λ (k : ℕ). k + 1) long

-- one item written, of any sort
pub items_set : (X : Type 0) (P : ℕ → X → Type 0) (d : X) (n m : ℕ) (o : X) (table : List X) → n < length table → P n o → ((u : ℕ) → n + 1 ≤ u → u < m → P u (get_or table u d)) → (u : ℕ) → n ≤ u → u < m → P u (get_or (set table n o) u d)
items_set X P d n m o table within here h u le lt =
    ⊎_elim (λ (e : n ≡ u). subst (λ (k : ℕ). P k (get_or (set table n o) k d)) e (subst (P n) (sym (get_or-set_same table n o d within)) here))
    (λ (apart : n ≡ u → ⊥). subst (P u) (sym (get_or-set_other table n u o d (λ (e : u ≡ n). apart (sym e)))) (h u (omega arith) lt)) (cases_eq n u)
