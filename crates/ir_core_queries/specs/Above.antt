-- What stands so many levels above an entity.
use Rattle.std.specs.Prelude.{◌≡◌, ℕ, zero, suc, Option}
use Rattle.ir_model.specs.Ids.{Ids}
use Rattle.ir_model.specs.Forest.{Dialect, Entity, Forest}
use Rattle.ir_model.specs.Parent.{FindsOne, IsIn}

module _ {N : Ids} {W : Dialect} where
  -- so many steps up from x, each to what has it in its list, lead to y
  abbrev pub LeadsUp : Forest N W → ℕ → Entity N → Entity N → Type 0
  LeadsUp f zero x y = x ≡ y
  LeadsUp f (suc n) x y = (z : Entity N) × IsIn f x z × LeadsUp f n z y

  -- the answer is what stands so many levels above x, or nothing where nothing does
  abbrev pub IsAbove : Forest N W → ℕ → Entity N → Option (Entity N) → Type 0
  IsAbove f n x answer = FindsOne (LeadsUp f n x) answer
