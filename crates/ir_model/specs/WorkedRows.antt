-- What the definitions say of small forests, each beside a neighbour that they refuse.
use Rattle.std.specs.Prelude.{◌↔◌, ◌≡◌, ◌≢◌, ℕ, List, [], ◌∷◌, None}
use Rattle.std.specs.List.{insert, remove}
use Rattle.ir_model.specs.Forest.{Forest, Value, an_op, a_region, a_value}
use Rattle.ir_model.specs.Nesting.{In, IsClosed, regions_of, ops_of}
use Rattle.ir_model.specs.Changes.{on_op, on_operands, move_region, Removes}
use Rattle.ir_model.specs.Edits.{Condition, Change, OpBack, EraseOp, MoveRegion, ReplaceOperand, State}
use Rattle.ir_model.specs.Ids.{Fresh}
use Rattle.ir_model.specs.Uses.{Use, IsUse, AreUses, IsOperandAt}
use Rattle.ir_model.specs.Subtree.{IsSubtreeSize}
use Rattle.ir_model.specs.Parent.{IsIndex}
use Rattle.ir_model.specs.BlockGraph.{succs, IsSuccessor, IsSuccessorOf, IsPredecessorCount, ArePredecessors}
use Rattle.ir_model.specs.Dead.{Dead, Sweeps}
use Rattle.ir_model.specs.SmallForests.{Small, n0, n1, n2, n3, n4, small_ids, bare, behaviour, result, operand, successor, operation, block, forest, over_tables}

-- the use of operation o with this number
abbrev pub use_ : Small → Small → Use small_ids
use_ o n = record { user = o; number = n }

-- ## Regions that move

-- two operations with these regions, all empty
abbrev pub owners : List Small → List Small → Forest small_ids bare
owners first second = forest (operation 5 [] [] [] first ∷ operation 5 [] [] [] second ∷ []) [] ([] ∷ [] ∷ [] ∷ [] ∷ [] ∷ [])

-- three regions of one operation and none of the other, and a state over them
abbrev pub before_the_move : State small_ids bare
before_the_move = over_tables (owners (n0 ∷ n1 ∷ n2 ∷ []) []) (n0 ∷ n1 ∷ []) [] (n0 ∷ n1 ∷ n2 ∷ []) []

-- the first of three regions goes to an operation without regions
abbrev pub moved_once : Forest small_ids bare
moved_once = move_region (owners (n0 ∷ n1 ∷ n2 ∷ []) []) n0 n1

-- the second of four regions goes behind the one of another operation
abbrev pub moved_from_four : Forest small_ids bare
moved_from_four = move_region (owners (n0 ∷ n1 ∷ n2 ∷ n3 ∷ []) (n4 ∷ [])) n1 n1

-- the state after the first move
abbrev pub after_one_move : State small_ids bare
after_one_move = over_tables moved_once (n0 ∷ n1 ∷ []) [] (n0 ∷ n1 ∷ n2 ∷ []) []

-- the regions that stay behind keep their order, and the moved one goes last
pub record RegionMoves : Type 0 where
  -- the edit makes this of the three and the none
  pub moved : (new : Fresh small_ids) → Change behaviour before_the_move (MoveRegion 0 1) new after_one_move
  pub left : regions_of moved_once n0 ≡ n1 ∷ n2 ∷ []
  pub last : regions_of moved_once n1 ≡ n0 ∷ []
  pub index : IsIndex moved_once (a_region n2) 1
  pub no_other_index : IsIndex moved_once (a_region n2) 2 → ⊥
  -- the last region does not fill the gap
  pub no_gap_filled : regions_of moved_once n0 ≢ n2 ∷ n1 ∷ []
  -- the same move again changes nothing
  pub again : (new : Fresh small_ids) (t : State small_ids bare) → Change behaviour after_one_move (MoveRegion 0 1) new t → t ≡ after_one_move
  pub left_of_four : regions_of moved_from_four n0 ≡ n0 ∷ n2 ∷ n3 ∷ []
  pub no_gap_filled_of_four : regions_of moved_from_four n0 ≢ n0 ∷ n3 ∷ n2 ∷ []
  pub behind_the_other : regions_of moved_from_four n1 ≡ n4 ∷ n1 ∷ []
  pub left_of_three : regions_of (move_region moved_from_four n3 n1) n0 ≡ n0 ∷ n2 ∷ []
  pub behind_both : regions_of (move_region moved_from_four n3 n1) n1 ≡ n4 ∷ n1 ∷ n3 ∷ []

-- ## An operation that uses its own result

-- an operation whose operand is its own result, and another one with a result
abbrev pub own_use : Forest small_ids bare
own_use = forest (operation 4 (n0 ∷ []) (operand n0 (result n0 n0) ∷ []) [] [] ∷ operation 0 (n1 ∷ []) [] [] [] ∷ []) [] []

-- the only operand of the first operation is replaced
abbrev pub with_operand : Forest small_ids bare → Small → Value small_ids → Forest small_ids bare
with_operand f u v = on_op f n0 (on_operands (λ ps. insert (remove ps 0) 0 (operand u v)))

-- its operand is the result of the other one, under a new use number
abbrev pub own_replaced : Forest small_ids bare
own_replaced = with_operand own_use n1 (result n1 n1)

-- its operand is its own result again, under a third use number
abbrev pub own_put_back : Forest small_ids bare
own_put_back = with_operand own_replaced n2 (result n0 n0)

-- a state over such a forest, which lists both operations and both results
abbrev pub own_state : Forest small_ids bare → State small_ids bare
own_state f = over_tables f (n0 ∷ n1 ∷ []) [] [] (result n0 n0 ∷ result n1 n1 ∷ [])

-- the use number that an edit makes
abbrev pub one_use_made : Small → Fresh small_ids
one_use_made u = record { ops = []; blocks = []; regions = []; numbers = []; uses = u ∷ [] }

-- the operand can be replaced, and a use of its own keeps no operation
pub record OwnResult : Type 0 where
  -- the edits make these of the first forest
  pub replaced : Change behaviour (own_state own_use) (ReplaceOperand 0 0 1) (one_use_made n1) (own_state own_replaced)
  pub put_back : Change behaviour (own_state own_replaced) (ReplaceOperand 0 0 0) (one_use_made n2) (own_state own_put_back)
  pub unused : (u : Use small_ids) → IsUse own_replaced (a_value (result n0 n0)) u → ⊥
  pub used : AreUses own_replaced (a_value (result n1 n1)) (use_ n0 n1 ∷ [])
  -- the new use has not the number of the old one
  pub not_the_old_number : AreUses own_replaced (a_value (result n1 n1)) (use_ n0 n0 ∷ []) → ⊥
  -- the old use finds no operand
  pub old_use_gone : (index : ℕ) → IsOperandAt own_replaced (use_ n0 n0) index → ⊥
  pub closed : IsClosed own_put_back (an_op n0)
  pub erasable : Condition (own_state own_put_back) (EraseOp 0)
  pub gone : (g : Forest small_ids bare) → Removes own_put_back (an_op n0) g → g.ops n0 ≡ None
  -- while another operation's result is used elsewhere it is not closed
  pub not_closed : IsClosed own_replaced (an_op n1) → ⊥

-- ## A definition deep inside that is used outside

-- the first operation holds a block with the second, whose result the operand names
abbrev pub nest : Value small_ids → Forest small_ids bare
nest v = forest (operation 5 [] [] [] (n0 ∷ []) ∷ operation 0 (n0 ∷ []) [] [] [] ∷ operation 4 [] (operand n0 v ∷ []) [] [] ∷ operation 0 (n1 ∷ []) [] [] [] ∷ []) (block (n1 ∷ []) ∷ []) ((n0 ∷ []) ∷ [])

-- a state over the nest, which lists all in it
abbrev pub nest_state : Value small_ids → State small_ids bare
nest_state v = over_tables (nest v) (n0 ∷ n1 ∷ n2 ∷ n3 ∷ []) (n0 ∷ []) (n0 ∷ []) (result n1 n0 ∷ result n3 n1 ∷ [])

-- a use from outside of what is defined deep inside keeps an operation, and without it all four entities go
pub record OutsideUseInDepth : Type 0 where
  pub not_closed : IsClosed (nest (result n1 n0)) (an_op n0) → ⊥
  pub refused : Condition (nest_state (result n1 n0)) (EraseOp 0) → ⊥
  pub closed : IsClosed (nest (result n3 n1)) (an_op n0)
  pub allowed : Condition (nest_state (result n3 n1)) (EraseOp 0)
  pub four : IsSubtreeSize (nest (result n3 n1)) (an_op n0) 4
  pub not_three : IsSubtreeSize (nest (result n3 n1)) (an_op n0) 3 → ⊥

-- ## An operation that would stand inside itself

-- an operation that holds an empty block, and another one
abbrev pub holder : Forest small_ids bare
holder = forest (operation 5 [] [] [] (n0 ∷ []) ∷ operation 4 [] [] [] [] ∷ []) (block [] ∷ []) ((n0 ∷ []) ∷ [])

-- no operation goes into a block inside it
pub record InsertIntoItself : Type 0 where
  pub refused : Condition (over_tables holder (n0 ∷ n1 ∷ []) (n0 ∷ []) (n0 ∷ []) []) (OpBack 0 0) → ⊥
  -- another operation may go there
  pub other : Condition (over_tables holder (n0 ∷ n1 ∷ []) (n0 ∷ []) (n0 ∷ []) []) (OpBack 1 0)

-- ## A block that one operation names twice

-- blocks n0 and n1 of one region; the operation n1, last in n0, names n1 twice
abbrev pub twice_named : ℕ → Forest small_ids bare
twice_named kind = forest (operation 5 [] [] [] (n0 ∷ []) ∷ operation kind [] [] (successor n0 n1 ∷ successor n1 n1 ∷ []) [] ∷ []) (block (n1 ∷ []) ∷ block [] ∷ []) ((n0 ∷ n1 ∷ []) ∷ [])

-- a block that is named twice is listed twice, and is no successor where no terminator names it
pub record PredsTwice : Type 0 where
  pub two : IsPredecessorCount (twice_named 4) n1 2
  pub not_one : IsPredecessorCount (twice_named 4) n1 1 → ⊥
  pub listed_twice : ArePredecessors (twice_named 4) n1 (n0 ∷ n0 ∷ [])
  pub not_once : ArePredecessors (twice_named 4) n1 (n0 ∷ []) → ⊥
  pub last_names_it : IsSuccessorOf (twice_named 4) n1 n0
  pub no_successors : succs behaviour (twice_named 4) n0 ≡ []
  pub no_successor : IsSuccessor behaviour (twice_named 4) n0 n1 → ⊥
  -- were it a terminator, both would be successors
  pub successors : succs behaviour (twice_named 3) n0 ≡ n1 ∷ n1 ∷ []

-- ## What a sweep takes out

-- these are the dead operations of the block n0
abbrev pub AreDead : Forest small_ids bare → List Small → Type 0
AreDead f ops = (o : Small) → Dead behaviour f n0 o ↔ In o ops

-- two constants, a sum of both, and an operation that uses the second constant
abbrev pub kept_constant : Forest small_ids bare
kept_constant = forest (operation 0 (n0 ∷ []) [] [] [] ∷ operation 0 (n1 ∷ []) [] [] []
    ∷ operation 1 (n2 ∷ []) (operand n0 (result n0 n0) ∷ operand n1 (result n1 n1) ∷ []) [] [] ∷ operation 4 [] (operand n2 (result n1 n1) ∷ []) [] [] ∷ []) (block (n0 ∷ n1 ∷ n2 ∷ n3 ∷ []) ∷ []) []

-- two sums, each of the other's result
abbrev pub ring : Forest small_ids bare
ring = forest (operation 1 (n0 ∷ []) (operand n0 (result n1 n1) ∷ operand n1 (result n1 n1) ∷ []) [] []
    ∷ operation 1 (n1 ∷ []) (operand n2 (result n0 n0) ∷ operand n3 (result n0 n0) ∷ []) [] [] ∷ []) (block (n0 ∷ n1 ∷ []) ∷ []) []

-- a sum of the constant that stands behind it
abbrev pub constant_behind : Forest small_ids bare
constant_behind = forest (operation 1 (n0 ∷ []) (operand n0 (result n1 n1) ∷ operand n1 (result n1 n1) ∷ []) [] []
    ∷ operation 0 (n1 ∷ []) [] [] [] ∷ []) (block (n0 ∷ n1 ∷ []) ∷ []) []

-- a sum of its own result
abbrev pub own_sum : Forest small_ids bare
own_sum = forest (operation 1 (n0 ∷ []) (operand n0 (result n0 n0) ∷ operand n1 (result n0 n0) ∷ []) [] [] ∷ []) (block (n0 ∷ []) ∷ []) []

-- a constant that an operation of another block uses
abbrev pub used_elsewhere : Forest small_ids bare
used_elsewhere = forest (operation 0 (n0 ∷ []) [] [] [] ∷ operation 4 [] (operand n0 (result n0 n0) ∷ []) [] [] ∷ []) (block (n0 ∷ []) ∷ block (n1 ∷ []) ∷ []) []

-- a constant, and a pure operation with one inside that uses it
abbrev pub used_inside : Forest small_ids bare
used_inside = forest (operation 0 (n0 ∷ []) [] [] [] ∷ operation 0 [] [] [] (n0 ∷ []) ∷ operation 4 [] (operand n0 (result n0 n0) ∷ []) [] [] ∷ []) (block (n0 ∷ n1 ∷ []) ∷ block (n2 ∷ []) ∷ []) ((n1 ∷ []) ∷ [])

-- a block without operations
abbrev pub nothing_there : Forest small_ids bare
nothing_there = forest [] (block [] ∷ []) []

-- these operations of the block n0 are dead, and a sweep, which there is, answers how many they are and leaves the others
pub record SweepsTo (f : Forest small_ids bare) (ops : List Small) (count : ℕ) (left : List Small) : Type 0 where
  pub are_dead : AreDead f ops
  pub can_be : (g : Forest small_ids bare) × Sweeps behaviour f n0 g count
  pub answers : (g : Forest small_ids bare) (answer : ℕ) → Sweeps behaviour f n0 g answer → answer ≡ count
  pub leaves : (g : Forest small_ids bare) (answer : ℕ) → Sweeps behaviour f n0 g answer → ops_of g n0 ≡ left

-- each block with what a sweep takes out of it, and beside it what it would not take
pub record SweptRows : Type 0 where
  pub constant_stays : SweepsTo kept_constant (n0 ∷ n2 ∷ []) 2 (n1 ∷ n3 ∷ [])
  -- not in one pass from the front
  pub not_the_sum_alone : AreDead kept_constant (n2 ∷ []) → ⊥
  pub ring_stays : SweepsTo ring [] 0 (n0 ∷ n1 ∷ [])
  -- not the greatest relation
  pub not_the_ring : AreDead ring (n0 ∷ n1 ∷ []) → ⊥
  pub both_go : SweepsTo constant_behind (n0 ∷ n1 ∷ []) 2 []
  -- not in one pass from the back
  pub not_the_front_alone : AreDead constant_behind (n0 ∷ []) → ⊥
  pub own_goes : SweepsTo own_sum (n0 ∷ []) 1 []
  -- its own use does not keep it
  pub not_kept_by_itself : AreDead own_sum [] → ⊥
  pub other_block : SweepsTo used_elsewhere [] 0 (n0 ∷ [])
  -- the uses of other blocks count
  pub not_without_the_user : AreDead used_elsewhere (n0 ∷ []) → ⊥
  pub with_inside : SweepsTo used_inside (n0 ∷ n1 ∷ []) 2 []
  -- a use inside what goes does not keep it
  pub not_kept_by_the_inside : AreDead used_inside (n1 ∷ []) → ⊥
  pub nothing : SweepsTo nothing_there [] 0 []
  pub not_something : AreDead nothing_there (n0 ∷ []) → ⊥
