-- A worked example of erasing: what is defined deep inside was used outside, and is no more.
use Rattle.std.specs.Prelude.{◌≡◌, Option, Some, None, [], ◌∷◌}
use Rattle.std.specs.List.{insert, remove}
use Rattle.ir_model.specs.Ids.{Fresh}
use Rattle.ir_model.specs.Forest.{OpRecord, an_op}
use Rattle.ir_model.specs.Changes.{on_op, on_operands}
use Rattle.ir_model.specs.Edits.{Condition, Change, EraseOp, ReplaceOperand, State, over}
use Rattle.ir_model.specs.Subtree.{IsSubtreeSize}
use Rattle.ir_model.specs.SmallForests.{Small, n0, n1, n2, n3, small_ids, bare, behaviour, result, operand, operation}
use Rattle.ir_model.specs.WorkedRows.{nest_state, one_use_made}

-- the state in which an operation outside names the result of the one inside
abbrev pub used_outside : State small_ids bare
used_outside = nest_state (result n1 n0)

-- its operand names another result, under a new use number
abbrev pub used_no_more : State small_ids bare
used_no_more = over used_outside (on_op used_outside.forest n2 (on_operands (λ ps. insert (remove ps 0) 0 (operand n1 (result n3 n1)))))

-- the two operations that stand outside
abbrev pub outside_ops : Small → Option (OpRecord small_ids bare)
outside_ops n2 = Some (operation 4 [] (operand n1 (result n3 n1) ∷ []) [] [])
outside_ops n3 = Some (operation 0 (n1 ∷ []) [] [] [])
outside_ops _ = None

-- they alone are left
abbrev pub erased_state : State small_ids bare
erased_state = over used_no_more (record { ops = outside_ops; blocks = λ _. None; regions = λ _. None })

-- the operations are left as they were
abbrev pub inside_left : State small_ids bare
inside_left = over used_no_more (record { ops = λ o. used_no_more.forest.ops o; blocks = λ _. None; regions = λ _. None })

-- the four entities go, and nothing else
pub record ErasedInDepth : Type 0 where
  pub refused : Condition used_outside (EraseOp 0) → ⊥
  pub replaced : Change behaviour used_outside (ReplaceOperand 2 0 1) (one_use_made n1) used_no_more
  pub allowed : Condition used_no_more (EraseOp 0)
  pub four : IsSubtreeSize used_no_more.forest (an_op n0) 4
  pub erased : (new : Fresh small_ids) → Change behaviour used_no_more (EraseOp 0) new erased_state
  pub nothing_else : (new : Fresh small_ids) (t : State small_ids bare) → Change behaviour used_no_more (EraseOp 0) new t → t ≡ erased_state
  -- no operation of the four stays
  pub none_stays : (new : Fresh small_ids) → Change behaviour used_no_more (EraseOp 0) new inside_left → ⊥
