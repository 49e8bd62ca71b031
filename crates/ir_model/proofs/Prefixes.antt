-- The items before a place are those of the list.
use Rattle.std.proofs.Common.{◌≡◌, ℕ, zero, suc, ◌<◌, List, [], ◌∷◌, take, slice_get, refl, arith}

pub slice_get-take : {X : Type 0} (xs : List X) (n k : ℕ) → k < n → slice_get (take n xs) k ≡ slice_get xs k
slice_get-take [] zero k lt = refl
slice_get-take [] (suc n) k lt = refl
slice_get-take (x ∷ xs) zero k lt = absurd (omega arith)
slice_get-take (x ∷ xs) (suc n) zero lt = refl
slice_get-take (x ∷ xs) (suc n) (suc k) lt = slice_get-take xs n k (omega arith)
