-- Small passes that are wrong: each lacks one of the four points of a right pass, and has the other three.
use Rattle.std.specs.Prelude.{◌≡◌, [], ◌∷◌}
use Rattle.ir_model.specs.Forest.{Forest}
use Rattle.ir_model.specs.Nesting.{WellFormed}
use Rattle.ir_model.specs.SmallForests.{n0, n1, n2, small_ids, result}
use Rattle.ir_model_passes.specs.Meaning.{Interpretation, OnlyPureGo, KeepsValues}
use Rattle.ir_model_passes.specs.Merging.{OperandsMoveBack}
use Rattle.ir_model_passes.specs.RightPasses.{IsRight}
use Rattle.ir_model_passes.specs.MarkedForests.{marked, two_pure, gives_mark, constant, effect, one_block, two_marks, one_mark}

-- n2 is gone, and n1 still names it
abbrev pub left_dangling : Forest small_ids marked
left_dangling = one_block (constant n0 1 ∷ effect (result n2 n2) ∷ []) (n0 ∷ n1 ∷ [])

-- the effect is gone
abbrev pub no_effect : Forest small_ids marked
no_effect = one_block (constant n0 1 ∷ []) (n0 ∷ [])

-- the constant n2, then n1, which names it, and then an alike constant n0
abbrev pub used_between : Forest small_ids marked
used_between = one_block (constant n0 1 ∷ effect (result n2 n2) ∷ constant n2 1 ∷ []) (n2 ∷ n1 ∷ n0 ∷ [])

-- the earlier constant is gone, and n1 names the one behind it
abbrev pub named_behind : Forest small_ids marked
named_behind = one_block (constant n0 1 ∷ effect (result n0 n0) ∷ []) (n1 ∷ n0 ∷ [])

-- the four points of a right pass
pub data Point : Type 0 where
  is_formed only_pure_go same_values move_back : Point

module _ {V : Type 0} (gives : Interpretation marked V) where
  -- the pass from the one forest to the other has the point; there is one type
  abbrev pub Has : Point → Forest small_ids marked → Forest small_ids marked → Type 0
  Has is_formed f g = WellFormed g 1
  Has only_pure_go f g = OnlyPureGo two_pure f g
  Has same_values f g = KeepsValues two_pure gives f g
  Has move_back f g = OperandsMoveBack f g

  -- it begins with a well-formed forest, lacks this point and no other, and is not right
  pub record LacksAlone (point : Point) (f g : Forest small_ids marked) : Type 0 where
    pub begins : WellFormed f 1
    pub lacks : Has point f g → ⊥
    pub others : (other : Point) → (other ≡ point → ⊥) → Has other f g
    pub not_right : IsRight two_pure gives 1 f g → ⊥

-- what each of the four points refuses and the others let through, whatever pure operations give
pub record WrongPasses {V : Type 0} (gives : Interpretation marked V) : Type 0 where
  -- a pure operation went that is still named
  pub dangling : LacksAlone gives is_formed (two_marks 1 1) left_dangling
  -- an operation with an effect went
  pub effect_gone : LacksAlone gives only_pure_go (one_mark 1) no_effect
  -- operations with different attributes were merged
  pub other_attributes : LacksAlone gives_mark same_values (two_marks 1 2) (one_mark 1)
  -- an operation was merged into a later one, with its user in between
  pub merged_forward : LacksAlone gives move_back used_between named_behind
