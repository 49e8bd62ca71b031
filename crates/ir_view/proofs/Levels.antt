-- The listing that is made level by level is the listing.
use Rattle.std.proofs.Common.{◌≡◌, ◌≤◌, ◌<◌, ◌+◌, ℕ, zero, suc, inl, inr, List, [], ◌∷◌, refl, arith}
use Rattle.ir_model.specs.Nesting.{In}
use Rattle.ir_view.specs.Orders.{IsOrder, no_more, one_more}
use Rattle.ir_view.specs.Left.{ordered}

module _ {E : Type 0} (ahead behind lists : E → List E) (level : E → ℕ) (bound : ℕ) (fits : (x : E) → level x ≤ bound) (follow : (x y : E) → In x (lists y) → level x ≡ suc (level y)) where
  pub ordered-is : (n : ℕ) (es : List E) → ((x : E) → In x es → bound < n + level x) → IsOrder ahead behind lists es (ordered n ahead behind lists es)
  ordered-is zero [] deep = no_more
  ordered-is zero (e ∷ es) deep = absurd (let d = deep e (inl refl) in let f = fits e in omega (arith, d, f))
  ordered-is (suc n) [] deep = no_more
  ordered-is (suc n) (e ∷ es) deep =
      one_more (ordered-is n (lists e) (λ x i. (let d = deep e (inl refl) in let f = follow x e i in omega (arith, d, f)))) (ordered-is (suc n) es (λ x i. deep x (inr i)))
