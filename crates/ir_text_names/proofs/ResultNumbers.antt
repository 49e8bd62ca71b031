-- How many results an operation has, from one row to the next.
use Rattle.std.proofs.Common.{◌≡◌, ◌≢◌, ◌⊎◌, ℕ, suc, ◌+◌, ◌≤◌, Bool, true, false, List, length, get_or, Option, refl, sym, ap, subst, ◌∙◌, inl, inr, ⊎_elim, arith}
use Rattle.std.proofs.lemmas.List.{get_or_past}
use Rattle.std.specs.Option.{unwrap_or}
use Rattle.ir_text_tree.specs.declared.row.Part.TheVariants as parts
use Rattle.ir_text_tree.specs.declared.row.Row.{Row}
use Rattle.ir_text_names.specs.declared.counting.Counted.TheVariants as counted
use Rattle.ir_text_names.specs.declared.fault.Wrong.{Wrong}
use Rattle.ir_text_names.specs.declared.fault.Wrong.TheVariants as wrongs
use Rattle.ir_text_names.specs.Rows.{no_row, part_of, text_of}
use Rattle.ir_text_names.specs.Counts.{how_many}
use Rattle.ir_text_names.specs.Operations.{number_of, IsOperation}
use Rattle.ir_text_names.specs.Firsts.{IsFirst, IsFirstWrong, told, sooner}
use Rattle.ir_text_names.specs.Numbers.{number_in, is_count, values_under, width, results_on, results_before, IsNoCount, HasOtherResults, IsResultWrong}
use Rattle.ir_text_names.proofs.FirstRows.{told_first, sooner_first, first_as, first_wrong_as}

-- a name that no number follows
pub width_one : (text : List ℕ) (rows : List Row) (d : ℕ) → is_count (part_of rows (d + 1)) ≡ false → width text rows d ≡ 1
width_one text rows d e = ap (λ (b : Bool). values_under b (number_in (text_of text rows (d + 1)))) e

-- one that a number follows
pub width_counted : (text : List ℕ) (rows : List Row) (d : ℕ) → is_count (part_of rows (d + 1)) ≡ true → width text rows d ≡ unwrap_or (number_in (text_of text rows (d + 1))) 0
width_counted text rows d e = ap (λ (b : Bool). values_under b (number_in (text_of text rows (d + 1)))) e

-- nothing follows the last row
pub width_last : (text : List ℕ) (rows : List Row) (d : ℕ) → length rows ≤ d + 1 → width text rows d ≡ 1
width_last text rows d le = width_one text rows d (ap (λ (r : Row). is_count r.part) (get_or_past rows (d + 1) no_row le))

pub results_none : (text : List ℕ) (rows : List Row) → results_before text rows 0 ≡ 0
unfolding results_before
results_none text rows = refl

pub results_more : (text : List ℕ) (rows : List Row) (n : ℕ) → results_on (part_of rows n) (width text rows n) (results_before text rows n) ≡ results_before text rows (n + 1)
unfolding results_before
results_more text rows n = let next : suc n ≡ n + 1 = omega arith in ap (results_before text rows) next

-- the numbers are those of the result types
pub other_results : (text : List ℕ) (rows : List Row) (types : List ℕ) (o : Option ℕ) → ((k : ℕ) → IsOperation rows k → k ≤ length rows → get_or types (number_of rows k) 0 ≡ how_many counted.ResultTypes rows k)
    → IsFirst (λ i. (part_of rows i ≡ parts.Name) × (results_before text rows i ≢ get_or types (number_of rows (i + 1)) 0)) (length rows) o → IsFirst (HasOtherResults text rows) (length rows) o
other_results text rows types o a h =
    first_as (λ i. (part_of rows i ≡ parts.Name) × (results_before text rows i ≢ get_or types (number_of rows (i + 1)) 0)) (HasOtherResults text rows) (length rows) o
    (λ i lt p. let le : i + 1 ≤ length rows = omega arith in let is : IsOperation rows (i + 1) = inr (i, refl, p.0) in (p.0, λ e. p.1 (e ∙ sym (a (i + 1) is le))))
    (λ i lt p. let le : i + 1 ≤ length rows = omega arith in let is : IsOperation rows (i + 1) = inr (i, refl, p.0) in (p.0, λ e. p.1 (e ∙ a (i + 1) is le))) h

wrong_to : (text : List ℕ) (rows : List Row) (v : Wrong) (i : ℕ) → ((v ≡ wrongs.ResultCount) × IsNoCount text rows i) ⊎ ((v ≡ wrongs.ResultTypes) × HasOtherResults text rows i) → IsResultWrong text rows v i
wrong_to text rows v i h =
    ⊎_elim (λ (a : (v ≡ wrongs.ResultCount) × IsNoCount text rows i). subst (λ (w : Wrong). IsResultWrong text rows w i) (sym a.0) a.1)
    (λ (a : (v ≡ wrongs.ResultTypes) × HasOtherResults text rows i). subst (λ (w : Wrong). IsResultWrong text rows w i) (sym a.0) a.1) h

wrong_from : (text : List ℕ) (rows : List Row) (v : Wrong) (i : ℕ) → IsResultWrong text rows v i → ((v ≡ wrongs.ResultCount) × IsNoCount text rows i) ⊎ ((v ≡ wrongs.ResultTypes) × HasOtherResults text rows i)
wrong_from text rows wrongs.ResultCount i h = inl (refl, h)
wrong_from text rows wrongs.ResultTypes i h = inr (refl, h)
wrong_from text rows _ i h = absurd h

pub result_wrong : (text : List ℕ) (rows : List Row) (a b : Option ℕ) → IsFirst (IsNoCount text rows) (length rows) a → IsFirst (HasOtherResults text rows) (length rows) b
    → IsFirstWrong (IsResultWrong text rows) (length rows) (sooner (told a wrongs.ResultCount) (told b wrongs.ResultTypes))
result_wrong text rows a b h j =
    let A : Wrong → ℕ → Type 0 = λ v i. (v ≡ wrongs.ResultCount) × IsNoCount text rows i in
    let B : Wrong → ℕ → Type 0 = λ v i. (v ≡ wrongs.ResultTypes) × HasOtherResults text rows i in
    first_wrong_as (λ v i. A v i ⊎ B v i) (IsResultWrong text rows) (length rows) (sooner (told a wrongs.ResultCount) (told b wrongs.ResultTypes)) (wrong_to text rows) (wrong_from text rows)
    (sooner_first A B (length rows) (told a wrongs.ResultCount) (told b wrongs.ResultTypes) (told_first (IsNoCount text rows) wrongs.ResultCount (length rows) a h) (told_first (HasOtherResults text rows) wrongs.ResultTypes (length rows) b j))
