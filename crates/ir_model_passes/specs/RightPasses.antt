-- What makes a pass right, and that it stays so when another one follows.
use Rattle.std.specs.Prelude.{ℕ}
use Rattle.ir_model.specs.Ids.{Ids}
use Rattle.ir_model.specs.Forest.{Dialect, Behaviour, Forest}
use Rattle.ir_model.specs.Nesting.{WellFormed}
use Rattle.ir_model_passes.specs.Meaning.{Interpretation, OnlyPureGo, KeepsValues}
use Rattle.ir_model_passes.specs.Merging.{OperandsMoveBack}

module _ {N : Ids} {W : Dialect} (B : Behaviour W) {V : Type 0} (gives : Interpretation W V) (keys : ℕ) where
  -- the second forest is well formed, only pure operations went, what stays sees the same values, and its operands moved back
  pub record IsRight (f g : Forest N W) : Type 0 where
    pub formed : WellFormed g keys
    pub only_pure : OnlyPureGo B f g
    pub values : KeepsValues B gives f g
    pub moves_back : OperandsMoveBack f g
