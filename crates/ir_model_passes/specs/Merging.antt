-- The operations of a block that a merging of alike ones takes out.
use Rattle.std.specs.Prelude.{◌≡◌, ℕ, zero, suc, List, [], ◌∷◌, ◌⊎◌, map, take, Some, None, IsTrue}
use Rattle.std.specs.List.{zip, AllZip}
use Rattle.ir_model.specs.Ids.{Ids}
use Rattle.ir_model.specs.Forest.{Dialect, Behaviour, Forest, Value, of_op, an_op, Operand, OpRecord}
use Rattle.ir_model.specs.Nesting.{In, IsLive, ops_of, operands_of, definitions_of}
use Rattle.ir_model.specs.Changes.{redirect, Removes}
use Rattle.ir_model_passes.specs.Meaning.{SameAttributes, IsPlain, named_values, result_types, given_by}

-- x stands in the list, and y somewhere behind it
abbrev pub StandsBefore : {A : Type 0} → A → A → List A → Type 0
StandsBefore x y [] = ⊥
StandsBefore x y (z ∷ zs) = ((x ≡ z) × In y zs) ⊎ StandsBefore x y zs

module _ {N : Ids} {W : Dialect} where
  -- the values that the operation gives, in order
  abbrev pub values_given : Forest N W → N.Op → List (Value N)
  values_given f o = map (given_by o) (definitions_of f (of_op o))

  -- each value that stands first in a pair is replaced by the one beside it, one pair after the other
  abbrev pub redirect_each : Forest N W → List (Value N × Value N) → Forest N W
  redirect_each f [] = f
  redirect_each f (p ∷ ps) = redirect_each (redirect f p.0 p.1) ps

  -- all that names a result of the one operation names the result of the other one at the same place
  abbrev pub redirect_results : Forest N W → N.Op → N.Op → Forest N W
  redirect_results f old new = redirect_each f (zip (values_given f old) (values_given f new))

  module _ (B : Behaviour W) (same : SameAttributes W) (f : Forest N W) where
    -- both are plain, of one kind, with equal attributes, the same operands and the same types of results
    pub record Alike (o p : N.Op) : Type 0 where
      pub one : OpRecord N W
      pub other : OpRecord N W
      pub one_is : f.ops o ≡ Some one
      pub other_is : f.ops p ≡ Some other
      pub one_plain : IsPlain B one
      pub other_plain : IsPlain B other
      pub kinds : one.kind ≡ other.kind
      pub attributes : IsTrue (same one.attributes other.attributes)
      pub operands : named_values one ≡ named_values other
      pub types : result_types one ≡ result_types other

    -- what named the results of the later one names those of the earlier one, and the later one is gone
    pub record MergesOne (b : N.Block) (g : Forest N W) : Type 0 where
      pub earlier : N.Op
      pub later : N.Op
      pub in_order : StandsBefore earlier later (ops_of f b)
      pub alike : Alike earlier later
      pub removes : Removes (redirect_results f later earlier) (an_op later) g

    -- some results of the later one were replaced by those of the earlier one, and nothing is gone yet: so far a merging came that was broken off
    pub record MergesPartly (b : N.Block) (g : Forest N W) : Type 0 where
      pub earlier : N.Op
      pub later : N.Op
      pub stand_in_block : StandsBefore earlier later (ops_of f b)
      pub alike : Alike earlier later
      pub count : ℕ
      pub redirects : g ≡ redirect_each f (take count (zip (values_given f later) (values_given f earlier)))

  module _ (B : Behaviour W) (same : SameAttributes W) (b : N.Block) where
    -- so many operations were merged into earlier ones, one after the other
    pub data MergesSome (f : Forest N W) : Forest N W → ℕ → Type 0 where
      none_merges : MergesSome f f zero
      one_merges : {g h : Forest N W} {n : ℕ} → MergesSome f g n → MergesOne B same g b h → MergesSome f h (suc n)

    -- no two alike stand in the block
    abbrev pub NoneAlike : Forest N W → Type 0
    NoneAlike f = (o p : N.Op) → StandsBefore o p (ops_of f b) → Alike B same f o p → ⊥

    -- alike operations were merged until no two were left
    pub record Merges (f g : Forest N W) (count : ℕ) : Type 0 where
      pub steps : MergesSome f g count
      pub none_alike : NoneAlike g

    -- so many operations were merged, and after them one merging may have been broken off
    pub record MergesBrokenOff (f h : Forest N W) : Type 0 where
      pub between : Forest N W
      pub count : ℕ
      pub merges : MergesSome f between count
      pub broken_off : (h ≡ between) ⊎ MergesPartly B same between b h

  -- both values are given by operations of one block, and the operation of the first stands before that of the second
  abbrev pub IsGivenBefore : Forest N W → Value N → Value N → Type 0
  IsGivenBefore f v w = (c : N.Block) × (o : N.Op) × (p : N.Op) × (v.definer ≡ of_op o) × (w.definer ≡ of_op p) × StandsBefore o p (ops_of f c)

  -- an operation gave the value that is no longer there
  abbrev pub IsGoneWith : Forest N W → Value N → Type 0
  IsGoneWith g v = (o : N.Op) × (v.definer ≡ of_op o) × (g.ops o ≡ None)

  -- the operand is what it was; or what gave its value is gone, and it names what is given before that in the same block, under its old use number
  abbrev pub MovesBack : Forest N W → Forest N W → Operand N → Operand N → Type 0
  MovesBack f g was now = (now ≡ was) ⊎ (IsGoneWith g was.value × IsGivenBefore f now.value was.value × (now.use_number ≡ was.use_number))

  -- all operands of what is there are what they were, or have moved back
  abbrev pub OperandsMoveBack : Forest N W → Forest N W → Type 0
  OperandsMoveBack f g = (o : N.Op) → IsLive g (an_op o) → AllZip (MovesBack f g) (operands_of f o) (operands_of g o)
