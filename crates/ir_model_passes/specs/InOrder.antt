-- Blocks in which what is defined stands before its users, and what a merging leaves of them.
use Rattle.std.specs.Prelude.{◌≡◌, Bool, IsTrue}
use Rattle.ir_model.specs.Ids.{Ids}
use Rattle.ir_model.specs.Forest.{Dialect, Behaviour, Forest, Value, of_op, Operand}
use Rattle.ir_model.specs.Nesting.{In, ops_of, operands_of}
use Rattle.ir_model_passes.specs.Meaning.{SameAttributes}
use Rattle.ir_model_passes.specs.Merging.{StandsBefore, IsGivenBefore, MergesOne}

module _ {N : Ids} {W : Dialect} where
  -- no operation of the block stands before one of the block whose result it names
  abbrev pub InOrder : Forest N W → N.Block → Type 0
  InOrder f b = (user o : N.Op) (p : Operand N) → In p (operands_of f user) → p.value.definer ≡ of_op o → StandsBefore user o (ops_of f b) → ⊥

  -- each operand names what its operation may see, by some test
  abbrev pub EachIsSeen : (Value N → N.Op → Bool) → Forest N W → Type 0
  EachIsSeen may_see f = (user : N.Op) (p : Operand N) → In p (operands_of f user) → IsTrue (may_see p.value user)

  -- what sees a value sees all that is given before it in its block
  abbrev pub SeesEarlier : (Value N → N.Op → Bool) → Forest N W → Type 0
  SeesEarlier may_see f = (v u : Value N) (user : N.Op) → IsGivenBefore f v u → IsTrue (may_see u user) → IsTrue (may_see v user)

  module _ (B : Behaviour W) (same : SameAttributes W) (f : Forest N W) (b : N.Block) (g : Forest N W) where
    -- what one merging leaves of a block in order
    pub record LeavesInOrder (m : MergesOne B same f b g) : Type 0 where
      pub in_order : InOrder g b
      -- what stands before the later one is as it was, so what was compared stays so
      pub front : (o : N.Op) → StandsBefore o m.later (ops_of f b) → g.ops o ≡ f.ops o
