-- Numbers that are handed out in order.
use Rattle.std.proofs.Common.{◌≡◌, ◌≢◌, ◌⊎◌, ◌↔◌, ℕ, zero, suc, ◌+◌, ◌<◌, ◌≤◌, Bool, true, false, nat_eq, nat_lt, List, [], ◌∷◌, ◌++◌, IsTrue, refl, ap, ◌∙◌, inl, inr, arith}
use Rattle.std.specs.List.{range_with_len}
use Rattle.std.proofs.lemmas.Bool.{le-ltb, lt-ltb, ltb-true}
use Rattle.std.proofs.lemmas.Bool.Decides.{nat_tests, eqb_tells}
use Rattle.ir_model.specs.Ids.{Distinct}
use Rattle.ir_model.specs.Nesting.{In}
use Rattle.ir_model.specs.Sessions.{IsNewNumber}
use Rattle.ir_model.proofs.Nests.{Absent-not_in}

-- numbers from n on
pub In-range : (n k i : ℕ) → In i (range_with_len n k) → (n ≤ i) × (i < n + k)
In-range n zero i h = absurd h
In-range n (suc k) i (inl e) = (omega (arith, e), omega (arith, e))
In-range n (suc k) i (inr h) = let r = In-range (n + 1) k i h in (omega (arith, r.0), omega (arith, r.1))

range-In : (n k i : ℕ) → n ≤ i → i < n + k → In i (range_with_len n k)
range-In n zero i low high = absurd (omega arith)
range-In n (suc k) i low high = by (range-In (n + 1) k i) (eqb_tells i n)
  where
    by : (n + 1 ≤ i → i < n + 1 + k → In i (range_with_len (n + 1) k)) → ((nat_eq i n ≡ true) × (i ≡ n)) ⊎ ((nat_eq i n ≡ false) × (i ≢ n)) → In i (range_with_len n (suc k))
    by more (inl e) = inl e.1
    by more (inr e) = inr (more (let differs = e.1 in omega arith) (omega arith))

pub range-distinct : (n k : ℕ) → Distinct (range_with_len n k)
range-distinct n zero = tt
range-distinct n (suc k) = (Absent-not_in n (range_with_len (n + 1) k) (λ h. absurd (omega (arith, (In-range (n + 1) k n h).0))), range-distinct (n + 1) k)

-- what is passed once these were handed out
pub passed-range : (n k i : ℕ) → IsTrue (nat_lt i (n + k)) ↔ (IsTrue (nat_lt i n) ⊎ In i (range_with_len n k))
passed-range n k i = (forth, back)
  where
    forth : IsTrue (nat_lt i (n + k)) → IsTrue (nat_lt i n) ⊎ In i (range_with_len n k)
    forth h = by (nat_lt i n) refl
      where
        by : (b : Bool) → nat_lt i n ≡ b → IsTrue b ⊎ In i (range_with_len n k)
        by true e = inl refl
        by false e = inr (range-In n k i (grind (arith, nat_tests)) (ltb-true i (n + k) h))

    back : IsTrue (nat_lt i n) ⊎ In i (range_with_len n k) → IsTrue (nat_lt i (n + k))
    back (inl h) = lt-ltb i (n + k) (omega (arith, ltb-true i n h))
    back (inr h) = lt-ltb i (n + k) (In-range n k i h).1

pub new-range : (limit n k i : ℕ) → n + k ≤ limit → In i (range_with_len n k) → IsNewNumber limit (λ m. nat_lt m n) i
new-range limit n k i fits h = let r = In-range n k i h in (omega (arith, r.1), le-ltb i n r.0)

-- two ranges, one behind the other
pub range-joined : (n a b : ℕ) → range_with_len n a ++ range_with_len (n + a) b ≡ range_with_len n (a + b)
range-joined n zero b = (let e : n + 0 ≡ n = omega arith in ap (λ m. range_with_len m b) e) ∙ (let z : b ≡ 0 + b = omega arith in ap (λ k. range_with_len n k) z)
range-joined n (suc a) b = let e : n + suc a ≡ n + 1 + a = omega arith in let z : suc (a + b) ≡ suc a + b = omega arith in ap (λ m. n ∷ (range_with_len (n + 1) a ++ range_with_len m b)) e ∙ ap (λ (xs : List ℕ). n ∷ xs) (range-joined (n + 1) a b) ∙ ap (λ k. range_with_len n k) z
