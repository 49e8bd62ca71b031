-- What stands so many levels above an entity, by what stands above its parent.
use Rattle.std.proofs.Common.{◌≡◌, ℕ, suc, Option, Some, None, refl, subst}
use Rattle.ir_model.specs.Ids.{Ids}
use Rattle.ir_model.specs.Forest.{Dialect, Entity, Forest}
use Rattle.ir_model.specs.Nesting.{Nested}
use Rattle.ir_model.specs.Parent.{IsParent}
use Rattle.ir_core_queries.specs.Above.{IsAbove, LeadsUp}

module _ {N : Ids} {W : Dialect} (f : Forest N W) where
  -- the parent is what stands one level above
  pub above-one : (x : Entity N) (answer : Option (Entity N)) → IsParent f x answer → IsAbove f 1 x answer
  above-one x None h = λ y up. h up.0 up.1
  above-one x (Some y) h = (y, h, refl)

  -- nothing stands above what has no parent
  pub above-none : (n : ℕ) (x : Entity N) → IsParent f x None → IsAbove f (suc n) x None
  above-none n x h = λ y up. h up.0 up.1

  -- what stands above the parent stands one level more above
  pub above-parent : Nested f → (n : ℕ) (x z : Entity N) (answer : Option (Entity N)) → IsParent f x (Some z) → IsAbove f n z answer → IsAbove f (suc n) x answer
  above-parent nested n x z None p h = λ y up. h y (subst (λ w. LeadsUp f n w y) (nested.one_list x up.0 z up.1 p) up.2)
  above-parent nested n x z (Some y) p h = (z, p, h)
