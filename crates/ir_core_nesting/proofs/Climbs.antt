-- Climbs in lists of children that have no cycle: no entity comes twice, and enough steps are enough.
use Rattle.std.proofs.Common.{◌≡◌, ℕ, suc, zero, ◌≤◌, List, [], ◌∷◌, length, Option, Some, None, refl, sym, ap, subst, inl, inr, arith}
use Rattle.ir_model.specs.Ids.{Absent, Distinct}
use Rattle.ir_model.specs.Nesting.{In, Within, itself, below}
use Rattle.ir_model.proofs.Nests.{Absent-not_in}
use Rattle.ir_core_nesting.specs.Climbs.{climb}

pub climb-None : {E : Type 0} (n : ℕ) (up : E → Option E) → climb n up None ≡ []
climb-None zero up = refl
climb-None (suc n) up = refl

pub climb-length : {E : Type 0} (n : ℕ) (up : E → Option E) (o : Option E) → length (climb n up o) ≤ n
climb-length zero up o = omega arith
climb-length (suc n) up None = omega arith
climb-length (suc n) up (Some x) = omega (arith, climb-length n up (up x))

-- a climb that ends before its last step has all steps that it needs
pub climb-stable : {E : Type 0} (n : ℕ) (up : E → Option E) (o : Option E) → length (climb (suc n) up o) ≤ n → climb n up o ≡ climb (suc n) up o
climb-stable n up None h = climb-None n up
climb-stable zero up (Some x) h = absurd (omega arith)
climb-stable (suc n) up (Some x) h = ap (λ xs. x ∷ xs) (climb-stable n up (up x) (omega arith))

module _ {E : Type 0} (lists : E → List E) (up : E → Option E) (exact : (x y : E) → up x ≡ Some y → In x (lists y)) where
  -- what a climb meets is what the start stands in
  pub climb-within : (n : ℕ) (x y : E) → In y (climb n up (Some x)) → Within lists y x
  climb-within zero x y h = absurd h
  climb-within (suc n) x y (inl e) = subst (λ z. Within lists z x) (sym e) itself
  climb-within (suc n) x y (inr h) = by (λ z. climb-within n z y) (up x) refl h
    where
      by : ((z : E) → In y (climb n up (Some z)) → Within lists y z) → (o : Option E) → up x ≡ o → In y (climb n up o) → Within lists y x
      by more None e k = absurd (subst (λ xs. In y xs) (climb-None n up) k)
      by more (Some z) e k = below (exact x z e) (more z k)

  pub climb-apart : ((x y : E) → In x (lists y) → Within lists x y → ⊥) → (n : ℕ) (x : E) → Distinct (climb n up (Some x))
  climb-apart no_cycle zero x = tt
  climb-apart no_cycle (suc n) x = by (climb-apart no_cycle n) (up x) refl
    where
      by : ((z : E) → Distinct (climb n up (Some z))) → (o : Option E) → up x ≡ o → Absent x (climb n up o) × Distinct (climb n up o)
      by more None e = subst (λ xs. Absent x xs × Distinct xs) (sym (climb-None n up)) (tt, tt)
      by more (Some z) e = (Absent-not_in x (climb n up (Some z)) (λ h. no_cycle x z (exact x z e) (climb-within n z x h)), more z)

  pub climb-live : (Live : E → Type 0) → ((x y : E) → In x (lists y) → Live y) → (n : ℕ) (x : E) → Live x → (y : E) → In y (climb n up (Some x)) → Live y
  climb-live Live owner zero x live y h = absurd h
  climb-live Live owner (suc n) x live y (inl e) = subst Live (sym e) live
  climb-live Live owner (suc n) x live y (inr h) = by (λ z l. climb-live Live owner n z l y) (up x) refl h
    where
      by : ((z : E) → Live z → In y (climb n up (Some z)) → Live y) → (o : Option E) → up x ≡ o → In y (climb n up o) → Live y
      by more None e k = absurd (subst (λ xs. In y xs) (climb-None n up) k)
      by more (Some z) e k = more z (owner x z (exact x z e)) k
