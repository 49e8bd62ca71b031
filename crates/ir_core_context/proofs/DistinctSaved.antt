-- Among distinct values none is equal to an earlier one.
use Rattle.std.proofs.Common.{◌≡◌, sym, ap, ◌∙◌, ℕ, zero, suc, ◌<◌, Bool, false, List, [], ◌∷◌, Some, arith}
use Rattle.std.specs.Prelude.{slice_get}
use Rattle.std.specs.List.{IsDistinct, AllByRecursion}
use Rattle.std.proofs.lemmas.Map.Keys.{IsDistinct-head, IsDistinct-tail}

module _ (S : Type 0) (same : S → S → Bool) where
  apart : (x : S) (xs : List S) (k : ℕ) (y : S) → AllByRecursion (λ z. same x z ≡ false) xs → slice_get xs k ≡ Some y → same x y ≡ false
  apart x [] k y all h = absurd (cc)
  apart x (z ∷ zs) zero y all h = let e : z ≡ y = cc in ap (λ w. same x w) (sym e) ∙ all.0
  apart x (z ∷ zs) (suc k) y all h = apart x zs k y all.1 h

  pub saved_apart : (xs : List S) → IsDistinct same xs → (i j : ℕ) (x y : S) → i < j → slice_get xs i ≡ Some x → slice_get xs j ≡ Some y → same x y ≡ false
  saved_apart [] d i j x y before h k = absurd (cc)
  saved_apart (z ∷ zs) d i zero x y before h k = absurd (omega (arith, before))
  saved_apart (z ∷ zs) d zero (suc j) x y before h k = let e : z ≡ x = cc in ap (λ w. same w y) (sym e) ∙ apart z zs j y (IsDistinct-head same z zs d) k
  saved_apart (z ∷ zs) d (suc i) (suc j) x y before h k = saved_apart zs (IsDistinct-tail same z zs d) i j x y (omega (arith, before)) h k
