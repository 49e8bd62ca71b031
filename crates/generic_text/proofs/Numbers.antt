-- Numbers that can be held.
use Rattle.std.proofs.Common.{◌≡◌, ℕ, Bool, cond, Option, Some, None, ap, sym, ⊎_elim, lt-ltb, le-ltb, ◌∙◌, ◌<◌, ◌≤◌}
use Rattle.std.proofs.lemmas.Bool.{cases_lt}
use Rattle.ir_text_names.specs.declared.numbers.Amount.TheVariants as amounts
use Rattle.ir_text_names.specs.Numbers.{held}

small_same : (a b : ℕ) → amounts.Small a ≡ amounts.Small b → a ≡ b
small_same a b e = cc

held_small : (limit n k : ℕ) → held limit (Some n) ≡ amounts.Small k → n ≡ k
held_small limit n k e =
    ⊎_elim
    (λ (lt : n < limit). small_same n k (ap (λ (b : Bool). cond b (amounts.Small n) amounts.Large) (sym (lt-ltb n limit lt)) ∙ e))
    (λ (le : limit ≤ n). let no : amounts.Large ≡ amounts.Small k = ap (λ (b : Bool). cond b (amounts.Small n) amounts.Large) (sym (le-ltb n limit le)) ∙ e in cc)
    (cases_lt n limit)

-- a number that is held is that number
pub small_is : (limit : ℕ) (o : Option ℕ) (k : ℕ) → held limit o ≡ amounts.Small k → o ≡ Some k
small_is limit None k e = cc
small_is limit (Some n) k e = ap Some (held_small limit n k e)
