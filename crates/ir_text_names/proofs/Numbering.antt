-- The numbers of operations.
use Rattle.std.proofs.Common.{◌≡◌, ◌⊎◌, ℕ, zero, suc, ◌+◌, ◌-◌, ◌<◌, ◌≤◌, Bool, true, false, cond, nat_eq, List, [], ◌∷◌, map, length, get_or, drop, refl, sym, ap, subst, ◌∙◌, inl, inr, ⊎_elim, eqb-true, eq-eqb, arith}
use Rattle.std.proofs.lemmas.Bool.{cases_Bool, cases_order}
use Rattle.std.proofs.lemmas.List.{drop_more}
use Rattle.ir_text_tree.specs.declared.row.Part.{Part}
use Rattle.ir_text_tree.specs.declared.row.Part.TheVariants as parts
use Rattle.ir_text_tree.specs.declared.row.Row.{Row}
use Rattle.ir_text_names.specs.Operations.{is_name, is_name_at, number_of, number_on, number_off, IsOperation}
use Rattle.ir_text_names.specs.Types.{name_or}
use Rattle.ir_text_names.specs.Rows.{no_row, part_of, top, scopes_from, operations_behind, row_operations}
use Rattle.ir_text_names.proofs.Tallies.{tally_is, tally_not, tally_none, tally_at_most, tally_grows}

-- ---- from one row to the next

on_by : (rows : List Row) (n : ℕ) (b : Bool) → is_name_at rows n ≡ b → cond b (number_of rows n + 1) (number_of rows n) ≡ number_of rows (n + 1)
on_by rows n true e = sym (tally_is (is_name_at rows) n e)
on_by rows n false e = sym (tally_not (is_name_at rows) n e)

pub number_more : (rows : List Row) (n : ℕ) → number_on (part_of rows n) (number_of rows n) ≡ number_of rows (n + 1)
number_more rows n = on_by rows n (is_name_at rows n) refl

pub number_none : (rows : List Row) → number_of rows 0 ≡ 0
number_none rows = tally_none (is_name_at rows)

pub number_at_most : (rows : List Row) (a n : ℕ) → a ≤ n → number_of rows a ≤ number_of rows n
number_at_most rows a n le =
    let grows = tally_grows (is_name_at rows) a (n - a) in
    let up : a + (n - a) ≡ n = omega (arith, le) in
    let same : number_of rows (a + (n - a)) ≡ number_of rows n = ap (number_of rows) up in
    omega (arith, grows, same)

pub number_few : (rows : List Row) (n : ℕ) → number_of rows n ≤ n
number_few rows n = tally_at_most (is_name_at rows) n

-- ---- a number belongs to one operation

number_less : (rows : List Row) (a b : ℕ) → a < b → IsOperation rows b → number_of rows a < number_of rows b
number_less rows a b lt (inl z) = absurd (omega (arith, lt, z))
number_less rows a b lt (inr h) =
    let k = h.0 in
    let behind : b ≡ k + 1 = h.1 in
    let le = number_at_most rows a k (omega (arith, lt, behind)) in
    let more : number_of rows (k + 1) ≡ number_of rows k + 1 = tally_is (is_name_at rows) k (ap is_name h.2) in
    let same : number_of rows b ≡ number_of rows (k + 1) = ap (number_of rows) behind in
    omega (arith, le, more, same)

pub number_once : (rows : List Row) (a b : ℕ) → IsOperation rows a → IsOperation rows b → number_of rows a ≡ number_of rows b → a ≡ b
number_once rows a b is_a is_b e =
    ⊎_elim (λ (s : a ≡ b). s)
    (λ (o : (a < b) ⊎ (b < a)).
    ⊎_elim (λ (lt : a < b). let less = number_less rows a b lt is_b in absurd (omega (arith, less, e))) (λ (lt : b < a). let less = number_less rows b a lt is_a in absurd (omega (arith, less, e))) o) (cases_order a b)

pub number_same : (rows : List Row) (a b : ℕ) → IsOperation rows a → IsOperation rows b → nat_eq (number_of rows a) (number_of rows b) ≡ nat_eq a b
number_same rows a b is_a is_b =
    ⊎_elim (λ (t : nat_eq a b ≡ true). eq-eqb (number_of rows a) (number_of rows b) (ap (number_of rows) (eqb-true a b t)) ∙ sym t)
    (λ (f : nat_eq a b ≡ false).
    ⊎_elim (λ (t : nat_eq (number_of rows a) (number_of rows b) ≡ true). t ∙ sym (eq-eqb a b (number_once rows a b is_a is_b (eqb-true (number_of rows a) (number_of rows b) t)))) (λ (g : nat_eq (number_of rows a) (number_of rows b) ≡ false). g ∙ sym f)
    (cases_Bool (nat_eq (number_of rows a) (number_of rows b)))) (cases_Bool (nat_eq a b))

-- ---- the operations around a row

pub stack_at : List Row → ℕ → List ℕ
stack_at rows zero = []
stack_at rows (suc n) = operations_behind (part_of rows n) (suc n) (stack_at rows n)

pub stack_none : (rows : List Row) → stack_at rows 0 ≡ []
unfolding stack_at
stack_none rows = refl

top_from : (rows : List Row) (i at : ℕ) → at + i < length rows → get_or (scopes_from operations_behind (stack_at rows at) at (drop at rows)) i 0 ≡ top (stack_at rows (at + i))
unfolding scopes_from stack_at
top_from rows zero at lt =
    let here : at < length rows = omega (arith, lt) in
    let same : at ≡ at + zero = omega arith in
    ap (λ (r : List Row). get_or (scopes_from operations_behind (stack_at rows at) at r) zero 0) (drop_more rows at no_row here) ∙ ap (λ (n : ℕ). top (stack_at rows n)) same
top_from rows (suc i) at lt =
    let here : at < length rows = omega (arith, lt) in
    let next : at + 1 ≡ suc at = omega arith in
    let same : suc at + i ≡ at + suc i = omega arith in
    ap (λ (r : List Row). get_or (scopes_from operations_behind (stack_at rows at) at r) (suc i) 0) (drop_more rows at no_row here)
    ∙ ap (λ (n : ℕ). get_or (scopes_from operations_behind (stack_at rows (suc at)) (suc at) (drop n rows)) i 0) next
    ∙ top_from rows i (suc at) (omega (arith, lt)) ∙ ap (λ (n : ℕ). top (stack_at rows n)) same

pub operation_top : (rows : List Row) (n : ℕ) → n < length rows → get_or (row_operations rows) n 0 ≡ top (stack_at rows n)
unfolding stack_at
operation_top rows n lt = let e : 0 + n ≡ n = omega arith in top_from rows n 0 (omega (arith, lt)) ∙ ap (λ (k : ℕ). top (stack_at rows k)) e

AllOperations : List Row → List ℕ → Type 0
AllOperations rows [] = Unit {0}
AllOperations rows (o ∷ os) = IsOperation rows o × AllOperations rows os

named_one : (rows : List Row) (n : ℕ) → part_of rows n ≡ parts.Name → IsOperation rows (suc n)
named_one rows n e = let next : suc n ≡ n + 1 = omega arith in inr (n, next, e)

all_behind : (rows : List Row) (part : Part) (n : ℕ) (around : List ℕ) → part_of rows n ≡ part → AllOperations rows around → AllOperations rows (operations_behind part (suc n) around)
unfolding AllOperations
all_behind rows parts.Open n around e h = (inl refl, h)
all_behind rows parts.Close n [] e h = tt
all_behind rows parts.Close n (o ∷ around) e h = h.1
all_behind rows parts.Name n [] e h = (named_one rows n e, tt)
all_behind rows parts.Name n (o ∷ around) e h = (named_one rows n e, h.1)
all_behind rows _ n around e h = h

all_at : (rows : List Row) (n : ℕ) → AllOperations rows (stack_at rows n)
unfolding AllOperations stack_at
all_at rows zero = tt
all_at rows (suc n) = all_behind rows (part_of rows n) n (stack_at rows n) refl (all_at rows n)

top_is : (rows : List Row) (around : List ℕ) → AllOperations rows around → IsOperation rows (top around)
unfolding AllOperations
top_is rows [] h = inl refl
top_is rows (o ∷ around) h = h.0

pub operation_is : (rows : List Row) (n : ℕ) → n < length rows → IsOperation rows (get_or (row_operations rows) n 0)
operation_is rows n lt = subst (IsOperation rows) (sym (operation_top rows n lt)) (top_is rows (stack_at rows n) (all_at rows n))

-- an operation whose name is row n
pub name_is : (rows : List Row) (n : ℕ) → part_of rows n ≡ parts.Name → IsOperation rows (n + 1)
name_is rows n e = inr (n, refl, e)

-- ---- their numbers

numbers_behind : (rows : List Row) (part : Part) (n : ℕ) (around : List ℕ) → operations_behind part (number_of rows (suc n)) (map (number_of rows) around) ≡ map (number_of rows) (operations_behind part (suc n) around)
numbers_behind rows parts.Open n around = ap (λ (z : ℕ). z ∷ map (number_of rows) around) (sym (number_none rows))
numbers_behind rows parts.Close n [] = refl
numbers_behind rows parts.Close n (o ∷ around) = refl
numbers_behind rows parts.Name n [] = refl
numbers_behind rows parts.Name n (o ∷ around) = refl
numbers_behind rows _ n around = refl

pub stack_more : (rows : List Row) (n : ℕ) → operations_behind (part_of rows n) (number_of rows (n + 1)) (map (number_of rows) (stack_at rows n)) ≡ map (number_of rows) (stack_at rows (n + 1))
unfolding stack_at
stack_more rows n =
    let next : n + 1 ≡ suc n = omega arith in
    ap (λ (k : ℕ). operations_behind (part_of rows n) (number_of rows k) (map (number_of rows) (stack_at rows n))) next
    ∙ numbers_behind rows (part_of rows n) n (stack_at rows n) ∙ ap (λ (k : ℕ). map (number_of rows) (stack_at rows k)) (sym next)

number_top : (rows : List Row) (around : List ℕ) → top (map (number_of rows) around) ≡ number_of rows (top around)
number_top rows [] = sym (number_none rows)
number_top rows (o ∷ around) = refl

-- the number of the operation of row n
pub top_number : (rows : List Row) (n : ℕ) → n < length rows → top (map (number_of rows) (stack_at rows n)) ≡ number_of rows (get_or (row_operations rows) n 0)
top_number rows n lt = number_top rows (stack_at rows n) ∙ ap (number_of rows) (sym (operation_top rows n lt))

-- ---- backwards

off_by : (rows : List Row) (n : ℕ) (b : Bool) → is_name_at rows n ≡ b → cond b (number_of rows (n + 1) - 1) (number_of rows (n + 1)) ≡ number_of rows n
off_by rows n true e = let more = tally_is (is_name_at rows) n e in omega (arith, more)
off_by rows n false e = tally_not (is_name_at rows) n e

pub number_less_one : (rows : List Row) (n : ℕ) → number_off (part_of rows n) (number_of rows (n + 1)) ≡ number_of rows n
number_less_one rows n = off_by rows n (is_name_at rows n) refl

next_number_by : (rows : List Row) (b : Bool) (m k : ℕ) → cond b (number_of rows m) (number_of rows k) ≡ number_of rows (cond b m k)
next_number_by rows true m k = refl
next_number_by rows false m k = refl

pub next_number_of : (rows : List Row) (p : Part) (m k : ℕ) → name_or p (number_of rows m) (number_of rows k) ≡ number_of rows (name_or p m k)
next_number_of rows p m k = next_number_by rows (is_name p) m k
