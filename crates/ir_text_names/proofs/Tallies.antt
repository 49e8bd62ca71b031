-- How many there are, from one row to the next.
use Rattle.std.proofs.Common.{◌≡◌, ◌≢◌, ℕ, zero, suc, ◌+◌, ◌<◌, ◌≤◌, Bool, true, false, cond, ◌&&◌, nat_eq, List, length, get_or, set, Option, refl, sym, ap, subst, ◌∙◌, inr, ⊎_elim, eq-eqb, ne_eqb, add-zero, arith}
use Rattle.std.proofs.lemmas.Bool.{cases_eq}
use Rattle.std.proofs.lemmas.List.{length-set, get_or-set_same, get_or-set_other}
use Rattle.ir_text_tree.specs.declared.row.Part.TheVariants as parts
use Rattle.ir_text_tree.specs.declared.row.Row.{Row}
use Rattle.ir_text_names.specs.declared.counting.Counted.TheVariants as counted
use Rattle.ir_text_names.specs.declared.fault.Wrong.{Wrong}
use Rattle.ir_text_names.specs.declared.fault.Wrong.TheVariants as wrongs
use Rattle.ir_text_names.specs.Rows.{part_of}
use Rattle.ir_text_names.specs.Firsts.{IsFirst, IsFirstWrong, told}
use Rattle.ir_text_names.specs.Operations.{number_of, IsOperation}
use Rattle.ir_text_names.specs.Counts.{tally, how_many, HasOtherTypes, IsCountWrong}
use Rattle.ir_text_names.proofs.FirstRows.{told_first, first_as, first_wrong_as}

pub tally_is : (test : ℕ → Bool) (n : ℕ) → test n ≡ true → tally test (n + 1) ≡ tally test n + 1
unfolding tally
tally_is test n t = let next : n + 1 ≡ suc n = omega arith in ap (tally test) next ∙ ap (λ (b : Bool). tally test n + cond b 1 0) t

pub tally_not : (test : ℕ → Bool) (n : ℕ) → test n ≡ false → tally test (n + 1) ≡ tally test n
unfolding tally
tally_not test n t = let next : n + 1 ≡ suc n = omega arith in ap (tally test) next ∙ ap (λ (b : Bool). tally test n + cond b 1 0) t ∙ add-zero (tally test n)

one_at_most : (b : Bool) → cond b 1 0 ≤ 1
one_at_most true = omega arith
one_at_most false = omega arith

pub tally_at_most : (test : ℕ → Bool) (n : ℕ) → tally test n ≤ n
unfolding tally
tally_at_most test zero = omega arith
tally_at_most test (suc n) = let before = tally_at_most test n in let here = one_at_most (test n) in omega (arith, before, here)

pub tally_none : (test : ℕ → Bool) → tally test 0 ≡ 0
unfolding tally
tally_none test = refl

pub counted_more : (test : ℕ → Bool) (n o w : ℕ) (b : Bool) (old new : List ℕ) → w < length old → test n ≡ (b && nat_eq w o) → new ≡ cond b (set old w (get_or old w 0 + 1)) old → get_or old o 0 ≡ tally test n → get_or new o 0 ≡ tally test (n + 1)
counted_more test n o w false old new lt t e h = ap (λ (xs : List ℕ). get_or xs o 0) e ∙ h ∙ sym (tally_not test n t)
counted_more test n o w true old new lt t e h =
    let more = get_or old w 0 + 1 in
    ap (λ (xs : List ℕ). get_or xs o 0) e
    ∙ ⊎_elim (λ (same : w ≡ o). ap (λ (k : ℕ). get_or (set old w more) k 0) (sym same) ∙ get_or-set_same old w more 0 lt ∙ ap (λ (k : ℕ). get_or old k 0 + 1) same ∙ ap (λ (m : ℕ). m + 1) h ∙ sym (tally_is test n (t ∙ eq-eqb w o same)))
    (λ (apart : w ≡ o → ⊥). get_or-set_other old w o more 0 (λ (f : o ≡ w). apart (sym f)) ∙ h ∙ sym (tally_not test n (t ∙ ne_eqb w o apart))) (cases_eq w o)

tally_grows_by : (test : ℕ → Bool) (n : ℕ) (b : Bool) → test n ≡ b → tally test n ≤ tally test (n + 1)
tally_grows_by test n true e = let more = tally_is test n e in omega (arith, more)
tally_grows_by test n false e = let same = tally_not test n e in omega (arith, same)

pub tally_grows : (test : ℕ → Bool) (m j : ℕ) → tally test m ≤ tally test (m + j)
tally_grows test m zero = let e : m + zero ≡ m = omega arith in let f : tally test (m + zero) ≡ tally test m = ap (tally test) e in omega (arith, f)
tally_grows test m (suc j) =
    let before = tally_grows test m j in
    let step = tally_grows_by test (m + j) (test (m + j)) refl in
    let e : m + suc j ≡ (m + j) + 1 = omega arith in
    let f : tally test (m + suc j) ≡ tally test ((m + j) + 1) = ap (tally test) e in
    omega (arith, before, step, f)

-- as many entries as before
pub kept_length : (b : Bool) (xs : List ℕ) (w m : ℕ) → length (cond b (set xs w m) xs) ≡ length xs
kept_length true xs w m = length-set xs w m
kept_length false xs w m = refl

-- the numbers are those of the operations
pub other_types : (rows : List Row) (some others : List ℕ) (o : Option ℕ) → ((k : ℕ) → IsOperation rows k → k ≤ length rows → get_or some (number_of rows k) 0 ≡ how_many counted.Operands rows k)
    → ((k : ℕ) → IsOperation rows k → k ≤ length rows → get_or others (number_of rows k) 0 ≡ how_many counted.OperandTypes rows k)
    → IsFirst (λ i. (part_of rows i ≡ parts.Name) × (get_or some (number_of rows (i + 1)) 0 ≢ get_or others (number_of rows (i + 1)) 0)) (length rows) o → IsFirst (HasOtherTypes rows) (length rows) o
other_types rows some others o a b h =
    first_as (λ i. (part_of rows i ≡ parts.Name) × (get_or some (number_of rows (i + 1)) 0 ≢ get_or others (number_of rows (i + 1)) 0)) (HasOtherTypes rows) (length rows) o
    (λ i lt p. let le : i + 1 ≤ length rows = omega arith in let is : IsOperation rows (i + 1) = inr (i, refl, p.0) in (p.0, λ e. p.1 (a (i + 1) is le ∙ e ∙ sym (b (i + 1) is le))))
    (λ i lt p. let le : i + 1 ≤ length rows = omega arith in let is : IsOperation rows (i + 1) = inr (i, refl, p.0) in (p.0, λ e. p.1 (sym (a (i + 1) is le) ∙ e ∙ b (i + 1) is le))) h

wrong_to : (rows : List Row) (v : Wrong) (i : ℕ) → (v ≡ wrongs.OperandTypes) × HasOtherTypes rows i → IsCountWrong rows v i
wrong_to rows v i h = subst (λ (w : Wrong). IsCountWrong rows w i) (sym h.0) h.1

wrong_from : (rows : List Row) (v : Wrong) (i : ℕ) → IsCountWrong rows v i → (v ≡ wrongs.OperandTypes) × HasOtherTypes rows i
wrong_from rows wrongs.OperandTypes i h = (refl, h)
wrong_from rows _ i h = absurd h

pub count_wrong : (rows : List Row) (o : Option ℕ) → IsFirst (HasOtherTypes rows) (length rows) o → IsFirstWrong (IsCountWrong rows) (length rows) (told o wrongs.OperandTypes)
count_wrong rows o h =
    first_wrong_as (λ v i. (v ≡ wrongs.OperandTypes) × HasOtherTypes rows i) (IsCountWrong rows) (length rows) (told o wrongs.OperandTypes) (wrong_to rows) (wrong_from rows) (told_first (HasOtherTypes rows) wrongs.OperandTypes (length rows) o h)
