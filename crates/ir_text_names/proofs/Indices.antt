-- Which of the values under its name an operand is.
use Rattle.std.proofs.Common.{◌≡◌, ◌⊎◌, ℕ, ◌+◌, ◌<◌, ◌≤◌, Bool, true, false, List, length, get_or, drop, Option, Some, None, refl, sym, ap, subst, ◌∙◌, inl, inr, ⊎_elim, arith}
use Rattle.std.proofs.lemmas.List.{get_or_past}
use Rattle.ir_text_tree.specs.declared.row.Row.{Row}
use Rattle.ir_text_names.specs.declared.firsts.Found.{Found}
use Rattle.ir_text_names.specs.declared.fault.Wrong.{Wrong}
use Rattle.ir_text_names.specs.declared.fault.Wrong.TheVariants as wrongs
use Rattle.ir_text_names.specs.Rows.{no_row, part_of, text_of}
use Rattle.ir_text_names.specs.Firsts.{IsFirst, IsFirstWrong, told, sooner}
use Rattle.ir_text_names.specs.Indices.{is_index, number_of, which, IsBeyond, IsEntryBeyond, IsIndexWrong}
use Rattle.ir_text_names.specs.Numbers.{number_in}
use Rattle.ir_text_names.specs.Uses.{IsNameWrong}
use Rattle.ir_text_names.specs.Values.{NamesValue, IsValueAgain, IsValueWrong, IsClear, IsNamedUnlessAgain}
use Rattle.ir_text_names.proofs.FirstRows.{told_first, sooner_first, first_as, first_wrong_as}
use Rattle.ir_text_names.proofs.OneMeaning.{one_value}

-- an operand that no number follows
pub which_first : (text : List ℕ) (rows : List Row) (u : ℕ) → is_index (part_of rows (u + 1)) ≡ false → which text rows u ≡ Some 0
which_first text rows u e = ap (λ (b : Bool). number_of b (number_in (drop 1 (text_of text rows (u + 1))))) e

-- one that a number follows
pub which_numbered : (text : List ℕ) (rows : List Row) (u : ℕ) → is_index (part_of rows (u + 1)) ≡ true → which text rows u ≡ number_in (drop 1 (text_of text rows (u + 1)))
which_numbered text rows u e = ap (λ (b : Bool). number_of b (number_in (drop 1 (text_of text rows (u + 1))))) e

-- nothing follows the last row
pub which_last : (text : List ℕ) (rows : List Row) (u : ℕ) → length rows ≤ u + 1 → which text rows u ≡ Some 0
which_last text rows u le = which_first text rows u (ap (λ (r : Row). is_index r.part) (get_or_past rows (u + 1) no_row le))

-- ---- what is told of an entry

pub entry_names : (text : List ℕ) (rows : List Row) (u d : ℕ) (o : Option ℕ) → IsNamedUnlessAgain text rows u o → o ≡ Some d → NamesValue text rows u d
entry_names text rows u d o h e = subst (IsNamedUnlessAgain text rows u) e h

-- the entry of an operand that names a definition is that one
pub named_entry : (text : List ℕ) (rows : List Row) (u d : ℕ) (o : Option ℕ) → u < length rows → IsClear text rows (length rows) → IsNamedUnlessAgain text rows u o → NamesValue text rows u d → o ≡ Some d
named_entry text rows u d None lt clear h names = absurd (h (λ k l. clear k (omega (arith, l, lt))) d names)
named_entry text rows u d (Some e) lt clear h names = ap (λ (x : ℕ). Some x) (one_value text rows u e d clear h names)

pub beyond_is : (text : List ℕ) (rows : List Row) (table : List (Option ℕ)) (o : Option ℕ) → IsFirst (IsValueAgain text rows) (length rows) None → ((u : ℕ) → u < length rows → IsNamedUnlessAgain text rows u (get_or table u None))
    → IsFirst (IsEntryBeyond text rows table) (length rows) o → IsFirst (IsBeyond text rows) (length rows) o
beyond_is text rows table o clear named h =
    first_as (IsEntryBeyond text rows table) (IsBeyond text rows) (length rows) o (λ u lt b. (clear, (b.0, entry_names text rows u b.0 (get_or table u None) (named u lt) b.1, b.3)))
    (λ u lt b. let d = b.1.0 in (d, named_entry text rows u d (get_or table u None) lt clear (named u lt) b.1.1, b.1.1.1.0, b.1.2)) h

-- nothing is told where a value is defined twice
pub none_beyond : (text : List ℕ) (rows : List Row) (i : ℕ) → IsFirst (IsValueAgain text rows) (length rows) (Some i) → IsFirst (IsBeyond text rows) (length rows) None
none_beyond text rows i h = λ k lt b. b.0 i h.0 h.1

-- ---- the first fault

wrong_to : (text : List ℕ) (rows : List Row) (v : Wrong) (i : ℕ) → IsValueWrong text rows v i ⊎ ((v ≡ wrongs.UnknownValue) × IsBeyond text rows i) → IsNameWrong text rows v i
wrong_to text rows v i h =
    ⊎_elim (λ (a : IsValueWrong text rows v i). inl a) (λ (a : (v ≡ wrongs.UnknownValue) × IsBeyond text rows i). inr (subst (λ (w : Wrong). IsIndexWrong text rows w i) (sym a.0) a.1)) h

index_from : (text : List ℕ) (rows : List Row) (v : Wrong) (i : ℕ) → IsIndexWrong text rows v i → (v ≡ wrongs.UnknownValue) × IsBeyond text rows i
index_from text rows wrongs.UnknownValue i h = (refl, h)
index_from text rows _ i h = absurd h

wrong_from : (text : List ℕ) (rows : List Row) (v : Wrong) (i : ℕ) → IsNameWrong text rows v i → IsValueWrong text rows v i ⊎ ((v ≡ wrongs.UnknownValue) × IsBeyond text rows i)
wrong_from text rows v i h = ⊎_elim (λ (a : IsValueWrong text rows v i). inl a) (λ (a : IsIndexWrong text rows v i). inr (index_from text rows v i a)) h

pub use_wrong : (text : List ℕ) (rows : List Row) (named numbered found : Option Found) (past : Option ℕ) → numbered ≡ told past wrongs.UnknownValue → found ≡ sooner named numbered → IsFirstWrong (IsValueWrong text rows) (length rows) named
    → IsFirst (IsBeyond text rows) (length rows) past → IsFirstWrong (IsNameWrong text rows) (length rows) found
use_wrong text rows named numbered found past e f h j =
    let n = length rows in
    let B : Wrong → ℕ → Type 0 = λ v i. (v ≡ wrongs.UnknownValue) × IsBeyond text rows i in
    let is : found ≡ sooner named (told past wrongs.UnknownValue) = f ∙ ap (sooner named) e in
    subst (IsFirstWrong (IsNameWrong text rows) n) (sym is)
    (first_wrong_as (λ v i. IsValueWrong text rows v i ⊎ B v i) (IsNameWrong text rows) n (sooner named (told past wrongs.UnknownValue)) (wrong_to text rows) (wrong_from text rows)
    (sooner_first (IsValueWrong text rows) B n named (told past wrongs.UnknownValue) h (told_first (IsBeyond text rows) wrongs.UnknownValue n past j)))
