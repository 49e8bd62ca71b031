-- Numbers that can be held, or not.
use Rattle.std.proofs.Common.{◌≡◌, ℕ, ◌+◌, ◌*◌, ◌-◌, ◌<◌, ◌≤◌, Bool, true, false, cond, List, [], ◌∷◌, length, get_or, drop, Option, Some, None, refl, sym, ap, ◌∙◌, ⊎_elim, lt-ltb, le-ltb, arith}
use Rattle.std.proofs.lemmas.Bool.{cases_lt}
use Rattle.std.proofs.lemmas.List.{drop_more, drop_all}
use Rattle.ir_text_names.specs.declared.numbers.Amount.TheVariants as amounts
use Rattle.ir_text_names.specs.Numbers.{is_digit, digits_behind, number_in, held}

held_small : (limit n : ℕ) → n < limit → held limit (Some n) ≡ amounts.Small n
held_small limit n lt = ap (λ (b : Bool). cond b (amounts.Small n) amounts.Large) (lt-ltb n limit lt)

held_large : (limit n : ℕ) → limit ≤ n → held limit (Some n) ≡ amounts.Large
held_large limit n le = ap (λ (b : Bool). cond b (amounts.Small n) amounts.Large) (le-ltb n limit le)

small_same : (a b : ℕ) → amounts.Small a ≡ amounts.Small b → a ≡ b
small_same a b e = cc

small_large : (a : ℕ) → amounts.Small a ≡ amounts.Large → ⊥
small_large a e = cc

nothing_small : (a : ℕ) → amounts.Nothing ≡ amounts.Small a → ⊥
nothing_small a e = cc

nothing_large : amounts.Nothing ≡ amounts.Large → ⊥
nothing_large e = cc

pub small_is : (limit n a : ℕ) → amounts.Small a ≡ held limit (Some n) → (a ≡ n) × (n < limit)
small_is limit n a e =
    ⊎_elim (λ (lt : n < limit). (small_same a n (e ∙ held_small limit n lt), lt)) (λ (le : limit ≤ n). absurd (small_large a (e ∙ held_large limit n le))) (cases_lt n limit)

pub large_is : (limit n : ℕ) → amounts.Large ≡ held limit (Some n) → limit ≤ n
large_is limit n e = ⊎_elim (λ (lt : n < limit). absurd (small_large n (sym (e ∙ held_small limit n lt)))) (λ (le : limit ≤ n). le) (cases_lt n limit)

pub nothing_is : (limit n : ℕ) → amounts.Nothing ≡ held limit (Some n) → ⊥
nothing_is limit n e = ⊎_elim (λ (lt : n < limit). nothing_small n (e ∙ held_small limit n lt)) (λ (le : limit ≤ n). nothing_large (e ∙ held_large limit n le)) (cases_lt n limit)

-- a number that is larger than one that can't be held
pub still_large : (limit n m : ℕ) → n ≤ m → amounts.Large ≡ held limit (Some n) → amounts.Large ≡ held limit (Some m)
still_large limit n m le e = let large = large_is limit n e in sym (held_large limit m (omega (arith, large, le)))

pub is_held : (limit n : ℕ) → n < limit → amounts.Small n ≡ held limit (Some n)
is_held limit n lt = sym (held_small limit n lt)

pub is_large : (limit n : ℕ) → limit ≤ n → amounts.Large ≡ held limit (Some n)
is_large limit n le = sym (held_large limit n le)

-- one more digit
pub digits_more : (xs : List ℕ) (i n : ℕ) (total : Option ℕ) → i < length xs → is_digit (get_or xs i 0) ≡ true → digits_behind n (drop i xs) ≡ total → digits_behind (10 * n + (get_or xs i 0 - 48)) (drop (i + 1) xs) ≡ total
digits_more xs i n total lt digit h =
    sym (ap (λ (b : Bool). cond b (digits_behind (10 * n + (get_or xs i 0 - 48)) (drop (i + 1) xs)) None) digit) ∙ sym (ap (digits_behind n) (drop_more xs i 0 lt)) ∙ h

pub digits_stop : (xs : List ℕ) (i n : ℕ) (total : Option ℕ) → i < length xs → is_digit (get_or xs i 0) ≡ false → digits_behind n (drop i xs) ≡ total → total ≡ None
digits_stop xs i n total lt digit h =
    sym h ∙ ap (digits_behind n) (drop_more xs i 0 lt) ∙ ap (λ (b : Bool). cond b (digits_behind (10 * n + (get_or xs i 0 - 48)) (drop (i + 1) xs)) None) digit

pub digits_end : (xs : List ℕ) (i n : ℕ) (total : Option ℕ) → length xs ≤ i → digits_behind n (drop i xs) ≡ total → total ≡ Some n
digits_end xs i n total le h = sym h ∙ ap (digits_behind n) (drop_all i xs le)

pub number_some : (xs : List ℕ) → 0 < length xs → digits_behind 0 xs ≡ number_in xs
number_some [] lt = absurd (omega (arith, lt))
number_some (b ∷ bs) lt = refl

pub number_none : (xs : List ℕ) → length xs ≡ 0 → number_in xs ≡ None
number_none [] e = refl
number_none (b ∷ bs) e = absurd (omega (arith, e))
