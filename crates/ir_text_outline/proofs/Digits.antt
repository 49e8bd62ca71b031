-- Numbers as far as 64 bits hold them.
use Rattle.std.proofs.Common.{◌≡◌, ◌∙◌, ℕ, ◌+◌, ◌-◌, ◌*◌, ◌≤◌, Bool, true, false, cond, List, [], ◌∷◌, sym, ap, arith}
use Rattle.std.specs.Char.{is_ascii_digit}
use Rattle.ir_text_outline.specs.Sources.{digits_behind, held, with_digit}

held_again : (n : ℕ) → held (held n) ≡ held n
held_again n = omega arith

by_digit : (is : Bool) (n d : ℕ) → held (cond is (10 * held n + d) (held n)) ≡ held (cond is (10 * n + d) n)
by_digit true n d = omega arith
by_digit false n d = held_again n

held_behind : (n : ℕ) (text : List ℕ) → held (digits_behind (held n) text) ≡ held (digits_behind n text)
unfolding digits_behind
held_behind n [] = held_again n
held_behind n (b ∷ text) =
    sym (held_behind (with_digit (held n) b) text) ∙ (ap (λ (k : ℕ). held (digits_behind k text)) (by_digit (is_ascii_digit b) n (b - 48)) ∙ held_behind (with_digit n b) text)

-- one byte more was read
pub one_read : (n m b all : ℕ) (here text : List ℕ) → m ≡ held (with_digit n b) → here ≡ b ∷ text → held (digits_behind n here) ≡ all → held (digits_behind m text) ≡ all
unfolding digits_behind
one_read n m b all here text is cut h =
    ap (λ (k : ℕ). held (digits_behind k text)) is ∙ (held_behind (with_digit n b) text ∙ (sym (ap (λ (t : List ℕ). held (digits_behind n t)) cut) ∙ h))

-- all was read
pub all_read : (n all : ℕ) (here : List ℕ) → here ≡ [] → n ≤ 18446744073709551615 → held (digits_behind n here) ≡ all → n ≡ all
unfolding digits_behind
all_read n all here none small h = let is : held n ≡ all = sym (ap (λ (t : List ℕ). held (digits_behind n t)) none) ∙ h in omega (arith, is, small)
