-- What becomes of the uses of two values when operands are replaced or removed, each beside a neighbour that is refused.
use Rattle.std.specs.Prelude.{◌≡◌, ◌≢◌, ◌↔◌, ℕ, Bool, ◌&&◌, IsTrue, List, [], ◌∷◌, length}
use Rattle.std.specs.List.{list_any}
use Rattle.ir_model.specs.declared.answer.Answer.TheVariants.{Done}
use Rattle.ir_model.specs.Ids.{Fresh}
use Rattle.ir_model.specs.Forest.{Forest, Value, Operand, a_value}
use Rattle.ir_model.specs.Edits.{State, Condition, Change, answer as reply, ReplaceAllUses, RemoveOperand, ReplaceOperand}
use Rattle.ir_model.specs.Redirect.{redirect_uses}
use Rattle.ir_model.specs.Uses.{Use, IsUse, AreUses, IsOperandAt}
use Rattle.ir_model.specs.SmallForests.{same_small, n0, n1, n2, n3, n4, small_ids, bare, behaviour, result, operand, operation, forest, over_tables}
use Rattle.ir_model.specs.WorkedRows.{use_, one_use_made}

-- ## An operation that names two constants

-- the results of two constants
abbrev pub v : Value small_ids
v = result n0 n0

-- the other one's
abbrev pub w : Value small_ids
w = result n1 n1

-- two constants, and an operation with these operands
abbrev pub with_operands : List (Operand small_ids) → Forest small_ids bare
with_operands operands = forest (operation 0 (n0 ∷ []) [] [] [] ∷ operation 0 (n1 ∷ []) [] [] [] ∷ operation 4 [] operands [] [] ∷ []) [] []

-- a state over it, which lists the three operations and both results
abbrev pub naming : List (Operand small_ids) → State small_ids bare
naming operands = over_tables (with_operands operands) (n0 ∷ n1 ∷ n2 ∷ []) [] [] (v ∷ w ∷ [])

-- ## All uses of one are replaced by the other

-- v, v and w
abbrev pub mixed : List (Operand small_ids)
mixed = operand n0 v ∷ operand n1 v ∷ operand n2 w ∷ []

-- three times w, under the use numbers that were there
abbrev pub all_w : List (Operand small_ids)
all_w = operand n0 w ∷ operand n1 w ∷ operand n2 w ∷ []

-- all uses of v go to w, with their numbers
pub record ReplaceAll : Type 0 where
  pub allowed : Condition (naming mixed) (ReplaceAllUses 0 1)
  pub replaced : (new : Fresh small_ids) → Change behaviour (naming mixed) (ReplaceAllUses 0 1) new (naming all_w)
  pub answer : reply (naming mixed) (ReplaceAllUses 0 1) ≡ Done
  pub unused : AreUses (with_operands all_w) (a_value v) []
  pub three : AreUses (with_operands all_w) (a_value w) (use_ n2 n0 ∷ use_ n2 n1 ∷ use_ n2 n2 ∷ [])
  -- the old uses find their operands where these were
  pub first_old : IsOperandAt (with_operands all_w) (use_ n2 n0) 0
  pub second_old : IsOperandAt (with_operands all_w) (use_ n2 n1) 1
  -- the uses get no new numbers, none is left out, and w does not become v
  pub not_renumbered : (new : Fresh small_ids) → Change behaviour (naming mixed) (ReplaceAllUses 0 1) new (naming (operand n3 w ∷ operand n4 w ∷ operand n2 w ∷ [])) → ⊥
  pub not_the_first_alone : (new : Fresh small_ids) → Change behaviour (naming mixed) (ReplaceAllUses 0 1) new (naming (operand n0 w ∷ operand n1 v ∷ operand n2 w ∷ [])) → ⊥
  pub not_the_other_way : (new : Fresh small_ids) → Change behaviour (naming mixed) (ReplaceAllUses 0 1) new (naming (operand n0 v ∷ operand n1 v ∷ operand n2 v ∷ [])) → ⊥

-- ## An operand is removed

-- v three times, and w
abbrev pub four : List (Operand small_ids)
four = operand n0 v ∷ operand n1 v ∷ operand n2 v ∷ operand n3 w ∷ []

-- the same without the first
abbrev pub three_left : List (Operand small_ids)
three_left = operand n1 v ∷ operand n2 v ∷ operand n3 w ∷ []

-- the operands behind the removed one move up, and their uses find them there
pub record RemovedOperand : Type 0 where
  pub allowed : Condition (naming four) (RemoveOperand 2 0)
  pub removed : (new : Fresh small_ids) → Change behaviour (naming four) (RemoveOperand 2 0) new (naming three_left)
  pub two_left : AreUses (with_operands three_left) (a_value v) (use_ n2 n1 ∷ use_ n2 n2 ∷ [])
  pub second_moves_up : IsOperandAt (with_operands three_left) (use_ n2 n1) 0
  pub third_moves_up : IsOperandAt (with_operands three_left) (use_ n2 n2) 1
  -- the removed use finds none
  pub removed_use_gone : (index : ℕ) → IsOperandAt (with_operands three_left) (use_ n2 n0) index → ⊥
  -- the last one does not fill the gap, and no place is passed over
  pub no_gap_filled : (new : Fresh small_ids) → Change behaviour (naming four) (RemoveOperand 2 0) new (naming (operand n3 w ∷ operand n1 v ∷ operand n2 v ∷ [])) → ⊥
  pub not_the_next : (new : Fresh small_ids) → Change behaviour (naming four) (RemoveOperand 2 0) new (naming (operand n0 v ∷ operand n2 v ∷ operand n3 w ∷ [])) → ⊥

-- ## Two operands are replaced, one after the other

-- the two results of one operation
abbrev pub x : Value small_ids
x = result n0 n0

-- the second
abbrev pub y : Value small_ids
y = result n0 n1

-- an operation with both results and these operands
abbrev pub of_both : List (Operand small_ids) → Forest small_ids bare
of_both operands = forest (operation 4 (n0 ∷ n1 ∷ []) operands [] [] ∷ []) [] []

-- a state over it, which lists the operation and its results
abbrev pub own_operands : List (Operand small_ids) → State small_ids bare
own_operands operands = over_tables (of_both operands) (n0 ∷ []) [] [] (x ∷ y ∷ [])

-- x, x and y
abbrev pub not_moved : List (Operand small_ids)
not_moved = operand n0 x ∷ operand n1 x ∷ operand n2 y ∷ []

-- y in place of the first x, under a new use number
abbrev pub one_moved : List (Operand small_ids)
one_moved = operand n3 y ∷ operand n1 x ∷ operand n2 y ∷ []

-- y in place of both
abbrev pub both_moved : List (Operand small_ids)
both_moved = operand n3 y ∷ operand n4 y ∷ operand n2 y ∷ []

-- both uses of the first result go to the second, one by one
pub record TwoResultsMoved : Type 0 where
  pub first_replaced : Change behaviour (own_operands not_moved) (ReplaceOperand 0 0 1) (one_use_made n3) (own_operands one_moved)
  pub one_is_left : AreUses (of_both one_moved) (a_value x) (use_ n0 n1 ∷ [])
  pub two_so_far : AreUses (of_both one_moved) (a_value y) (use_ n0 n3 ∷ use_ n0 n2 ∷ [])
  pub second_replaced : Change behaviour (own_operands one_moved) (ReplaceOperand 0 1 1) (one_use_made n4) (own_operands both_moved)
  pub none_is_left : AreUses (of_both both_moved) (a_value x) []
  pub three : AreUses (of_both both_moved) (a_value y) (use_ n0 n3 ∷ use_ n0 n4 ∷ use_ n0 n2 ∷ [])
  -- the new use does not keep the old number, and stands where the old one stood
  pub not_the_old_number : Change behaviour (own_operands not_moved) (ReplaceOperand 0 0 1) (one_use_made n3) (own_operands (operand n0 y ∷ operand n1 x ∷ operand n2 y ∷ [])) → ⊥
  pub not_behind : Change behaviour (own_operands not_moved) (ReplaceOperand 0 0 1) (one_use_made n3) (own_operands (operand n1 x ∷ operand n2 y ∷ operand n3 y ∷ [])) → ⊥

-- ## Which uses are redirected is asked of the state before

-- v three times
abbrev pub all_v : List (Operand small_ids)
all_v = operand n0 v ∷ operand n1 v ∷ operand n2 v ∷ []

-- the first of them has become w
abbrev pub first_w : List (Operand small_ids)
first_w = operand n0 w ∷ operand n1 v ∷ operand n2 v ∷ []

-- v has three uses
abbrev pub HasThreeUses : Forest small_ids bare → Type 0
HasThreeUses f = (uses : List (Use small_ids)) × AreUses f (a_value v) uses × (length uses ≡ 3)

-- the set has the uses of v in the forest where there are three of them, and else none
abbrev pub AskedOf : Forest small_ids bare → (Use small_ids → Bool) → Type 0
AskedOf f set = (u : Use small_ids) → IsTrue (set u) ↔ (IsUse f (a_value v) u × HasThreeUses f)

-- the three uses of the operation
abbrev pub the_three : Use small_ids → Bool
the_three u = same_small u.user n2 && list_any (same_small u.number) (n0 ∷ n1 ∷ n2 ∷ [])

-- where v has three uses before, all three are redirected, though it has fewer once the first is
pub record AskedBefore : Type 0 where
  pub three_before : HasThreeUses (with_operands all_v)
  pub fewer_after_one : HasThreeUses (with_operands first_w) → ⊥
  -- such a set is that of the three uses
  pub answers : AskedOf (with_operands all_v) the_three
  pub all_redirected : (set : Use small_ids → Bool) → AskedOf (with_operands all_v) set → redirect_uses (with_operands all_v) set w ≡ with_operands all_w
  -- asked again after the first change, nothing more would be redirected
  pub none_after_one : (set : Use small_ids → Bool) → AskedOf (with_operands first_w) set → redirect_uses (with_operands first_w) set w ≡ with_operands first_w
  pub not_one_alone : (set : Use small_ids → Bool) → AskedOf (with_operands all_v) set → redirect_uses (with_operands all_v) set w ≢ with_operands first_w
