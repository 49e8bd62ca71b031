-- The blocks that rows name, from one row to the next.
use Rattle.std.proofs.Common.{◌≡◌, ◌↔◌, ◌⊎◌, ℕ, ◌+◌, ◌<◌, ◌≤◌, Bool, true, false, cond, List, [], ◌∷◌, ◌++◌, length, get_or, Option, Some, None, IsSome, IfSome, refl, sym, ap, subst, subst₂, ◌∙◌, inl, inr, ⊎_elim, arith}
use Rattle.std.proofs.lemmas.Bool.{cases_lt, false≢true}
use Rattle.std.proofs.lemmas.List.{get_or_past, get_or_push, get_or_append_left, length_push}
use Rattle.ir_text_tree.specs.declared.row.Part.{Part}
use Rattle.ir_text_tree.specs.declared.row.Part.TheVariants as parts
use Rattle.ir_text_tree.specs.declared.row.Row.{Row}
use Rattle.ir_text_names.specs.declared.fault.Wrong.{Wrong}
use Rattle.ir_text_names.specs.declared.fault.Wrong.TheVariants as wrongs
use Rattle.ir_text_names.specs.Rows.{no_row, part_of, text_of, row_regions, region_of}
use Rattle.ir_text_names.specs.Given.{AreGiven, anywhere}
use Rattle.ir_text_names.specs.Firsts.{IsFirst, IsFirstWrong, told, sooner}
use Rattle.ir_text_names.proofs.FirstRows.{told_first, sooner_first, first_wrong_as}
use Rattle.ir_text_names.specs.Blocks.{IsBlockNamed, AreBlocksNamed, misses, NamesNoBlock, IsBlockAgain, IsBlockWrong}

-- a row that is no result is one of the rows
pub part_within : (rows : List Row) (i : ℕ) (part : Part) → part_of rows i ≡ part → (parts.Result ≡ part → ⊥) → i < length rows
part_within rows i part is other =
    ⊎_elim (λ (l : i < length rows). l) (λ (l : length rows ≤ i). absurd (other (ap (λ (r : Row). r.part) (sym (get_or_past rows i no_row l)) ∙ is))) (cases_lt i (length rows))

pub result_is_no_label : parts.Result ≡ parts.Label → ⊥
result_is_no_label e = cc

nothing_known : (o : Option ℕ) → o ≡ None → IsSome o → ⊥
nothing_known None e s = false≢true s
nothing_known (Some i) e s = cc

block_known : (text : List ℕ) (rows : List Row) (n : ℕ) (known : ℕ → List ℕ → Option ℕ) (o : Option ℕ) → AreGiven parts.Label text rows (row_regions rows) anywhere (length rows) known → part_of rows n ≡ parts.Successor → known (region_of rows n) (text_of text rows n) ≡ o → IsBlockNamed text rows n o
block_known text rows n known None h is e =
    λ l b.
    let g = b.1 in
    nothing_known (known (region_of rows n) (text_of text rows n)) e (subst₂ (λ (s : ℕ) (m : List ℕ). IsSome (known s m)) g.1 g.2 (h.all l (part_within rows l parts.Label g.0 result_is_no_label) g.0 refl))
block_known text rows n known (Some l) h is e = (is, (h.only (region_of rows n) (text_of text rows n) l e).1)

-- what row n names
pub block_is : (text : List ℕ) (rows : List Row) (n : ℕ) (known : ℕ → List ℕ → Option ℕ) (b : Bool) (o : Option ℕ) → AreGiven parts.Label text rows (row_regions rows) anywhere (length rows) known → ((b ≡ true) ↔ (part_of rows n ≡ parts.Successor))
    → o ≡ cond b (known (region_of rows n) (text_of text rows n)) None → IsBlockNamed text rows n o
block_is text rows n known true o h is e = block_known text rows n known o h (is.0 refl) (sym e)
block_is text rows n known false o h is e = subst (IsBlockNamed text rows n) (sym e) (λ l b. false≢true (is.1 b.0))

-- what it names is one of few rows
pub block_few : (text : List ℕ) (rows : List Row) (n m : ℕ) (o : Option ℕ) → length rows < m → IsBlockNamed text rows n o → IfSome o (λ d. d < m)
block_few text rows n m None few h = tt
block_few text rows n m (Some l) few h = let within = part_within rows l parts.Label h.1.0 result_is_no_label in omega (arith, within, few)

pub table_more : (text : List ℕ) (rows : List Row) (n : ℕ) (o : Option ℕ) (table out : List (Option ℕ)) → IsBlockNamed text rows n o → out ≡ table ++ o ∷ [] → AreBlocksNamed text rows n table → AreBlocksNamed text rows (n + 1) out
table_more text rows n o table out named pushed h = (
  ap length pushed ∙ length_push table o ∙ ap (λ (k : ℕ). k + 1) h.0,
  λ s lt.
      subst (λ (t : List (Option ℕ)). IsBlockNamed text rows s (get_or t s None)) (sym pushed)
      (⊎_elim (λ (l : s < n). let m : s < length table = omega (arith, h.0) in subst (IsBlockNamed text rows s) (sym (get_or_append_left table (o ∷ []) None s m)) (h.1 s l))
      (λ (l : n ≤ s). let e : n ≡ s = omega arith in subst (λ (k : ℕ). IsBlockNamed text rows k (get_or (table ++ o ∷ []) k None)) e (subst (IsBlockNamed text rows n) (sym (get_or_push table o None n h.0)) named)) (cases_lt s n)),
)

pub missed_is : (text : List ℕ) (rows : List Row) (n : ℕ) (b : Bool) (o : Option ℕ) → ((b ≡ true) ↔ (part_of rows n ≡ parts.Successor)) → IsBlockNamed text rows n o → misses b o ≡ true → NamesNoBlock text rows n
missed_is text rows n b None is named e = (is.0 e, named)
missed_is text rows n b (Some l) is named e = absurd (false≢true e)

pub missed_told : (text : List ℕ) (rows : List Row) (n : ℕ) (b : Bool) (o : Option ℕ) → ((b ≡ true) ↔ (part_of rows n ≡ parts.Successor)) → IsBlockNamed text rows n o → NamesNoBlock text rows n → misses b o ≡ true
missed_told text rows n b None is named none = is.1 none.0
missed_told text rows n b (Some l) is named none = absurd (none.1 l named)

-- the two sorts of faults
pub wrong_to : (text : List ℕ) (rows : List Row) (v : Wrong) (i : ℕ) → ((v ≡ wrongs.BlockTwice) × IsBlockAgain text rows i) ⊎ ((v ≡ wrongs.UnknownBlock) × NamesNoBlock text rows i) → IsBlockWrong text rows v i
wrong_to text rows v i h =
    ⊎_elim (λ (a : (v ≡ wrongs.BlockTwice) × IsBlockAgain text rows i). subst (λ (w : Wrong). IsBlockWrong text rows w i) (sym a.0) a.1)
    (λ (a : (v ≡ wrongs.UnknownBlock) × NamesNoBlock text rows i). subst (λ (w : Wrong). IsBlockWrong text rows w i) (sym a.0) a.1) h

pub wrong_from : (text : List ℕ) (rows : List Row) (v : Wrong) (i : ℕ) → IsBlockWrong text rows v i → ((v ≡ wrongs.BlockTwice) × IsBlockAgain text rows i) ⊎ ((v ≡ wrongs.UnknownBlock) × NamesNoBlock text rows i)
wrong_from text rows wrongs.BlockTwice i h = inl (refl, h)
wrong_from text rows wrongs.UnknownBlock i h = inr (refl, h)
wrong_from text rows _ i h = absurd h

pub block_wrong : (text : List ℕ) (rows : List Row) (a b : Option ℕ) → IsFirst (IsBlockAgain text rows) (length rows) a → IsFirst (NamesNoBlock text rows) (length rows) b
    → IsFirstWrong (IsBlockWrong text rows) (length rows) (sooner (told a wrongs.BlockTwice) (told b wrongs.UnknownBlock))
block_wrong text rows a b h j =
    let A : Wrong → ℕ → Type 0 = λ v i. (v ≡ wrongs.BlockTwice) × IsBlockAgain text rows i in
    let B : Wrong → ℕ → Type 0 = λ v i. (v ≡ wrongs.UnknownBlock) × NamesNoBlock text rows i in
    first_wrong_as (λ v i. A v i ⊎ B v i) (IsBlockWrong text rows) (length rows) (sooner (told a wrongs.BlockTwice) (told b wrongs.UnknownBlock)) (wrong_to text rows) (wrong_from text rows)
    (sooner_first A B (length rows) (told a wrongs.BlockTwice) (told b wrongs.UnknownBlock) (told_first (IsBlockAgain text rows) wrongs.BlockTwice (length rows) a h) (told_first (NamesNoBlock text rows) wrongs.UnknownBlock (length rows) b j))
