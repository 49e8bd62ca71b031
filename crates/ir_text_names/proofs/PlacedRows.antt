-- Rows of one sort by their operation and their place in it, from one row to the next.
use Rattle.std.proofs.Common.{◌≡◌, ◌⊎◌, ℕ, zero, suc, ◌+◌, ◌-◌, ◌<◌, ◌≤◌, Bool, true, false, cond, nat_eq, List, length, drop, refl, sym, ap, subst, ◌∙◌, inl, inr, ⊎_elim, eq-eqb, arith}
use Rattle.std.proofs.lemmas.Bool.{and_from, cases_lt, cases_order, cases_Bool, false≢true}
use Rattle.std.proofs.lemmas.List.{get_or_past, drop_more, drop_all}
use Rattle.ir_text_tree.specs.declared.row.Part.{Part}
use Rattle.ir_text_tree.specs.declared.row.Part.TheVariants as parts
use Rattle.ir_text_tree.specs.declared.row.Row.{Row}
use Rattle.ir_text_names.specs.declared.counting.Counted.{Counted}
use Rattle.ir_text_names.specs.declared.counting.Counted.TheVariants as counted
use Rattle.ir_text_names.specs.Rows.{no_row, part_of}
use Rattle.ir_text_names.specs.Counts.{tally, is_counted, belongs, how_many}
use Rattle.ir_text_names.specs.Operations.{is_name, IsOperation}
use Rattle.ir_text_names.specs.Types.{operation_of, place_of, IsAt, name_or, next_from, next_operation}
use Rattle.ir_text_names.proofs.Tallies.{tally_is, tally_grows, tally_at_most}

result_not_counted : (sort : Counted) → is_counted sort parts.Result ≡ false
result_not_counted counted.Operands = refl
result_not_counted counted.OperandTypes = refl
result_not_counted counted.ResultTypes = refl
result_not_counted counted.Keys = refl

-- what is counted is one of the rows
pub counted_within : (sort : Counted) (rows : List Row) (i : ℕ) → is_counted sort (part_of rows i) ≡ true → i < length rows
counted_within sort rows i is =
    ⊎_elim (λ (l : i < length rows). l)
    (λ (l : length rows ≤ i). absurd (false≢true (sym (result_not_counted sort) ∙ ap (λ (r : Row). is_counted sort r.part) (sym (get_or_past rows i no_row l)) ∙ is))) (cases_lt i (length rows))

-- a row of the sort stands at a later place than one before it in its operation
pub place_less : (sort : Counted) (rows : List Row) (i j : ℕ) → is_counted sort (part_of rows i) ≡ true → operation_of rows i ≡ operation_of rows ((i + 1) + j) → place_of sort rows i < place_of sort rows ((i + 1) + j)
place_less sort rows i j is same =
    let test = belongs sort rows (operation_of rows i) in
    let here : test i ≡ true = and_from (is_counted sort (part_of rows i)) (nat_eq (operation_of rows i) (operation_of rows i)) is (eq-eqb (operation_of rows i) (operation_of rows i) refl) in
    let step = tally_is test i here in
    let grows = tally_grows test (i + 1) j in
    let later : tally test ((i + 1) + j) ≡ place_of sort rows ((i + 1) + j) = ap (λ (o : ℕ). tally (belongs sort rows o) ((i + 1) + j)) same in
    omega (arith, step, grows, later)

place_apart : (sort : Counted) (rows : List Row) (i n : ℕ) → i < n → is_counted sort (part_of rows i) ≡ true → operation_of rows n ≡ operation_of rows i → place_of sort rows n ≡ place_of sort rows i → ⊥
place_apart sort rows i n lt is same place =
    let e : (i + 1) + (n - (i + 1)) ≡ n = omega arith in
    let less : place_of sort rows i < place_of sort rows ((i + 1) + (n - (i + 1))) = place_less sort rows i (n - (i + 1)) is (sym same ∙ ap (operation_of rows) (sym e)) in
    let f : place_of sort rows ((i + 1) + (n - (i + 1))) ≡ place_of sort rows n = ap (place_of sort rows) e in
    omega (arith, less, f, place)

-- what stands at a place is one row
pub one_at : (sort : Counted) (rows : List Row) (o p i j : ℕ) → IsAt sort rows o p i → IsAt sort rows o p j → i ≡ j
one_at sort rows o p i j a b =
    ⊎_elim (λ (e : i ≡ j). e)
    (λ (d : (i < j) ⊎ (j < i)).
    ⊎_elim (λ (lt : i < j). absurd (place_apart sort rows i j lt a.0 (b.1 ∙ sym a.1) (b.2 ∙ sym a.2))) (λ (lt : j < i). absurd (place_apart sort rows j i lt b.0 (a.1 ∙ sym b.1) (a.2 ∙ sym b.2))) d) (cases_order i j)

-- a row stands at one of the places of its operation
pub place_within : (sort : Counted) (rows : List Row) (o p i : ℕ) → IsAt sort rows o p i → p < how_many sort rows o
place_within sort rows o p i a =
    let test = belongs sort rows o in
    let lt : i < length rows = counted_within sort rows i a.0 in
    let here : test i ≡ true = and_from (is_counted sort (part_of rows i)) (nat_eq (operation_of rows i) o) a.0 (eq-eqb (operation_of rows i) o a.1) in
    let step = tally_is test i here in
    let grows = tally_grows test (i + 1) (length rows - (i + 1)) in
    let end : (i + 1) + (length rows - (i + 1)) ≡ length rows = omega (arith, lt) in
    let all : tally test ((i + 1) + (length rows - (i + 1))) ≡ tally test (length rows) = ap (tally test) end in
    let place : tally test i ≡ p = ap (λ (q : ℕ). tally (belongs sort rows q) i) (sym a.1) ∙ a.2 in
    omega (arith, step, grows, all, place)

pub place_few : (sort : Counted) (rows : List Row) (o p i : ℕ) → IsAt sort rows o p i → p < length rows
place_few sort rows o p i a =
    let few = tally_at_most (belongs sort rows (operation_of rows i)) i in
    let lt : i < length rows = counted_within sort rows i a.0 in
    omega (arith, few, lt, a.2)

-- ---- the operation that comes next

pub next_done : (rows : List Row) (at : ℕ) → length rows ≤ at → next_operation rows at ≡ 0
unfolding next_from
next_done rows at le = ap (next_from at) (drop_all at rows le)

pub next_more : (rows : List Row) (n : ℕ) → n < length rows → name_or (part_of rows n) (n + 1) (next_operation rows (n + 1)) ≡ next_operation rows n
unfolding next_from
next_more rows n lt =
    let next : n + 1 ≡ suc n = omega arith in
    ap (λ (k : ℕ). name_or (part_of rows n) k (next_from k (drop (n + 1) rows))) next ∙ sym (ap (next_from n) (drop_more rows n no_row lt))

a_name : (p : Part) → is_name p ≡ true → p ≡ parts.Name
a_name parts.Name e = refl
a_name _ e = absurd (false≢true e)

-- it is one, or none
next_by : (rows : List Row) (j d : ℕ) → d + j ≡ length rows → IsOperation rows (next_operation rows d) × (next_operation rows d ≤ length rows)
next_by rows zero d e = let none = next_done rows d (omega (arith, e)) in (inl none, omega (arith, none))
next_by rows (suc j) d e =
    let lt : d < length rows = omega (arith, e) in
    let later = next_by rows j (d + 1) (omega (arith, e)) in
    let more = next_more rows d lt in
    ⊎_elim (λ (t : is_name (part_of rows d) ≡ true).
    let here : d + 1 ≡ next_operation rows d = sym (ap (λ (b : Bool). cond b (d + 1) (next_operation rows (d + 1))) t) ∙ more in
    let is : IsOperation rows (d + 1) = inr (d, refl, a_name (part_of rows d) t) in
    (subst (IsOperation rows) here is, omega (arith, here, lt)))
    (λ (f : is_name (part_of rows d) ≡ false).
    let here : next_operation rows (d + 1) ≡ next_operation rows d = sym (ap (λ (b : Bool). cond b (d + 1) (next_operation rows (d + 1))) f) ∙ more in
    (subst (IsOperation rows) here later.0, omega (arith, here, later.1))) (cases_Bool (is_name (part_of rows d)))

pub next_is : (rows : List Row) (d : ℕ) → d < length rows → IsOperation rows (next_operation rows d) × (next_operation rows d ≤ length rows)
next_is rows d lt = next_by rows (length rows - d) d (omega (arith, lt))
