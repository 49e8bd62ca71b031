-- Operations whose names rise: each name stands once, and a search by halves finds it.
use Rattle.std.proofs.Common.{◌≡◌, ◌&&◌, ℕ, zero, suc, ◌<◌, ◌≤◌, Bool, true, false, cond, List, [], ◌∷◌, length, get_or, Some, None, refl, sym, ap, ◌∙◌, true≢false, arith, le_of_suc-le-suc, Ordering, Less, Equal, Greater, ◌⊎◌, inl, inr, nat_cmp, is_lt, is_eq, bytes_eq, position, nat_lt, lt-ltb, le-ltb}
use Rattle.std.specs.Ordering.{ordering_reverse}
use Rattle.std.specs.List.{position_or_len}
use Rattle.std.specs.Cmp.Lexicographic.{slice_cmp}
use Rattle.std.proofs.lemmas.Bool.{and_parts, cases_eq, cases_lt}
use Rattle.std.proofs.lemmas.Cmp.{nat_list_cmp_total}
use Rattle.std.proofs.lemmas.Map.Text.{is_eq-slice_cmp}
use Rattle.std.proofs.lemmas.List.Sums.{position_or_len_is}
use Rattle.std.proofs.lemmas.Slice.Eq.{bytes_eq-Decides}
use Rattle.generic_table.specs.Cut.{Operation}
use Rattle.generic_table.specs.Safe.{is_below_first, names_rise}

-- how a name stands to another
abbrev pub by_name : List ℕ → List ℕ → Ordering
by_name = slice_cmp nat_cmp

is_less : (o : Ordering) → is_lt o ≡ true → o ≡ Less
is_less Less h = refl
is_less Equal h = absurd (true≢false (sym h))
is_less Greater h = absurd (true≢false (sym h))

-- the first name is below each later one
first_below : (o : Operation) (os : List Operation) (j : ℕ) (d : Operation) → names_rise (o ∷ os) ≡ true → j < length os → by_name o.0 (get_or os j d).0 ≡ Less
unfolding names_rise
first_below o [] j d rise lt = absurd (omega (arith, lt))
first_below o (p ∷ os) zero d rise lt =
    is_less (by_name o.0 p.0) (and_parts (is_lt (by_name o.0 p.0)) (is_below_first p.0 os && names_rise os) rise).0
first_below o (p ∷ os) (suc j) d rise lt =
    let both = and_parts (is_lt (by_name o.0 p.0)) (is_below_first p.0 os && names_rise os) rise in
    nat_list_cmp_total.trans o.0 p.0 (get_or os j d).0 (is_less (by_name o.0 p.0) both.0) (first_below p os j d both.1 (le_of_suc-le-suc lt))

-- an earlier name is below a later one
pub earlier_below : (os : List Operation) (i j : ℕ) (d : Operation) → names_rise os ≡ true → i < j → j < length os → by_name (get_or os i d).0 (get_or os j d).0 ≡ Less
unfolding names_rise
earlier_below [] i j d rise less lt = absurd (omega (arith, lt))
earlier_below (o ∷ os) i zero d rise less lt = absurd (omega (arith, less))
earlier_below (o ∷ os) zero (suc j) d rise less lt = first_below o os j d rise (le_of_suc-le-suc lt)
earlier_below (o ∷ os) (suc i) (suc j) d rise less lt =
    earlier_below os i j d (and_parts (is_below_first o.0 os) (names_rise os) rise).1 (le_of_suc-le-suc less) (le_of_suc-le-suc lt)

not_same : (a b : List ℕ) (o : Ordering) → is_eq o ≡ false → by_name a b ≡ o → bytes_eq a b ≡ false
not_same a b o other e = sym (is_eq-slice_cmp a b) ∙ ap is_eq e ∙ other

pub less_not_same : (a b : List ℕ) → by_name a b ≡ Less → bytes_eq a b ≡ false
less_not_same a b = not_same a b Less refl

pub greater_not_same : (a b : List ℕ) → by_name a b ≡ Greater → bytes_eq a b ≡ false
greater_not_same a b = not_same a b Greater refl

pub equal_same : (a b : List ℕ) → by_name a b ≡ Equal → bytes_eq a b ≡ true
equal_same a b e = sym (is_eq-slice_cmp a b) ∙ ap is_eq e

-- what is below one name that is below or at another is below that one
pub up_to_below : (os : List Operation) (name : List ℕ) (middle : ℕ) → names_rise os ≡ true → middle < length os → ((d : Operation) → by_name (get_or os middle d).0 name ≡ Less) → (k : ℕ) (d : Operation) → k ≤ middle → by_name (get_or os k d).0 name ≡ Less
up_to_below os name middle rise lt below k d le =
    elim (cases_eq k middle) [
      | inl same ↦ ap (λ (i : ℕ). by_name (get_or os i d).0 name) same ∙ below d
      | inr other ↦ nat_list_cmp_total.trans (get_or os k d).0 (get_or os middle d).0 name (earlier_below os k middle d rise (omega (arith, le, other)) lt) (below d)
    ]

flipped : (a b : List ℕ) (o : Ordering) → by_name a b ≡ o → by_name b a ≡ ordering_reverse o
flipped a b o e = nat_list_cmp_total.antisymm b a ∙ ap ordering_reverse e

-- what is above one name that is above or at another is above that one
pub from_above : (os : List Operation) (name : List ℕ) (middle : ℕ) → names_rise os ≡ true → ((d : Operation) → by_name (get_or os middle d).0 name ≡ Greater) → (k : ℕ) (d : Operation) → middle ≤ k → k < length os → by_name (get_or os k d).0 name ≡ Greater
from_above os name middle rise above k d le lt =
    elim (cases_eq k middle) [
      | inl same ↦ ap (λ (i : ℕ). by_name (get_or os i d).0 name) same ∙ above d
      | inr other ↦ flipped name (get_or os k d).0 Less (nat_list_cmp_total.trans name (get_or os middle d).0 (get_or os k d).0 (flipped (get_or os middle d).0 name Greater (above d)) (earlier_below os middle k d rise (omega (arith, le, other)) lt))
    ]

abbrev has_name : List ℕ → Operation → Bool
has_name name o = bytes_eq o.0 name

-- stands where no operation is
pub no_operation : Operation
no_operation = ([], record { terminator = false; no_terminator = false; dominance = false; pure_operation = false; symbol = false; regions = false })

-- the row whose name it is, where the names rise
pub position_found : (os : List Operation) (name : List ℕ) (i : ℕ) → names_rise os ≡ true → i < length os → ((d : Operation) → by_name (get_or os i d).0 name ≡ Equal) → Some i ≡ position (has_name name) os
position_found os name i rise lt at =
    let test = has_name name in
    let same : (d : Operation) → (get_or os i d).0 ≡ name = λ d. texts_same (get_or os i d).0 name (at d) in
    let here = position_or_len_is test os i no_operation (omega (arith, lt)) (λ k less. less_not_same (get_or os k no_operation).0 name (ap (by_name (get_or os k no_operation).0) (sym (same no_operation)) ∙ earlier_below os k i no_operation rise less lt)) (λ _. equal_same (get_or os i no_operation).0 name (at no_operation)) in
    let within : nat_lt (position_or_len test os) (length os) ≡ true = ap (λ (n : ℕ). nat_lt n (length os)) here ∙ lt-ltb i (length os) lt in
    ap Some (sym here) ∙ ap (λ (b : Bool). cond b (Some (position_or_len test os)) None) (sym within)
  where
    texts_same : (a b : List ℕ) → by_name a b ≡ Equal → a ≡ b
    texts_same a b e = (bytes_eq-Decides a b).0 (equal_same a b e)

-- no row, where each name is below or above
pub position_none : (os : List Operation) (name : List ℕ) (low : ℕ) → ((k : ℕ) (d : Operation) → k < low → by_name (get_or os k d).0 name ≡ Less) → ((k : ℕ) (d : Operation) → low ≤ k → k < length os → by_name (get_or os k d).0 name ≡ Greater) → None ≡ position (has_name name) os
position_none os name low below above =
    let test = has_name name in
    let none = position_or_len_is test os (length os) no_operation (omega arith) (λ k less. other k less (cases_lt k low)) (λ lt. absurd (omega (arith, lt))) in
    let past : nat_lt (position_or_len test os) (length os) ≡ false = ap (λ (n : ℕ). nat_lt n (length os)) none ∙ le-ltb (length os) (length os) (omega arith) in
    ap (λ (b : Bool). cond b (Some (position_or_len test os)) None) (sym past)
  where
    other : (k : ℕ) → k < length os → (k < low) ⊎ (low ≤ k) → has_name name (get_or os k no_operation) ≡ false
    other k less (inl front) = less_not_same (get_or os k no_operation).0 name (below k no_operation front)
    other k less (inr back) = greater_not_same (get_or os k no_operation).0 name (above k no_operation back less)
