-- Edits that would break the forest: their conditions do not hold, and hold in a neighbour.
use Rattle.std.specs.Prelude.{◌≡◌, if◌then◌else◌, List, [], ◌∷◌, map, None}
use Rattle.ir_model.specs.Ids.{Fresh}
use Rattle.ir_model.specs.Forest.{Forest, a_block}
use Rattle.ir_model.specs.Nesting.{IsClosed}
use Rattle.ir_model.specs.Changes.{Removes}
use Rattle.ir_model.specs.Edits.{State, Condition, Change, RetargetAll, AppendOps, AppendBlocks, OpBefore, MoveRegion, EraseRegion, EraseBlock, EraseOp}
use Rattle.ir_model.specs.Subtree.{IsSubtreeSize}
use Rattle.ir_model.specs.SmallForests.{Small, n0, n1, n2, n3, same_small, small_ids, bare, behaviour, result, operand, successor, operation, block, forest, over_tables}

-- ## One user, outside or inside

-- a module with the block n0, which holds an operation with the block n1, which holds these; a constant n2, and an operation n3 that uses the constant and names n0 twice
abbrev pub nested_twice : List Small → Forest small_ids bare
nested_twice ops = forest (operation 5 [] [] [] (n0 ∷ []) ∷ operation 5 [] [] [] (n1 ∷ [])
    ∷ operation 0 (n0 ∷ []) [] [] [] ∷ operation 4 [] (operand n0 (result n2 n0) ∷ []) (successor n1 n0 ∷ successor n2 n0 ∷ []) [] ∷ [])
    (block (n1 ∷ []) ∷ block ops ∷ []) ((n0 ∷ []) ∷ (n1 ∷ []) ∷ [])

-- a state over it, which lists all in it
abbrev pub nested_state : List Small → State small_ids bare
nested_state ops = over_tables (nested_twice ops) (n0 ∷ n1 ∷ n2 ∷ n3 ∷ []) (n0 ∷ n1 ∷ []) (n0 ∷ n1 ∷ []) (result n2 n0 ∷ [])

-- the user stands in no block
abbrev pub outside : State small_ids bare
outside = nested_state (n2 ∷ [])

-- the user stands behind the constant, and so inside both blocks
abbrev pub inside : State small_ids bare
inside = nested_state (n2 ∷ n3 ∷ [])

-- each edit that would break the forest, beside one that does not
pub record HostileEdits : Type 0 where
  -- the block has an unlinked user, and beside that a linked one
  pub retarget : Condition outside (RetargetAll 0 1) → ⊥
  pub retarget_linked : Condition inside (RetargetAll 0 1)
  pub retarget_unused : Condition outside (RetargetAll 1 0)
  -- the donee lies inside an operation of the donor, and then the donor inside one of the donee
  pub append_inward : Condition outside (AppendOps 1 0) → ⊥
  pub append_outward : Condition outside (AppendOps 0 1)
  -- a region to itself
  pub append_to_itself : Condition outside (AppendBlocks 0 0) → ⊥
  pub append_inner_to_itself : Condition outside (AppendBlocks 1 1) → ⊥
  pub append_blocks_inward : Condition outside (AppendBlocks 1 0) → ⊥
  pub append_blocks_outward : Condition outside (AppendBlocks 0 1)
  -- one operation as both, unlinked and linked
  pub before_itself : Condition outside (OpBefore 3 3) → ⊥
  pub linked_before_itself : Condition outside (OpBefore 2 2) → ⊥
  pub before_another : Condition outside (OpBefore 3 2)
  -- a region to an operation inside it
  pub move_inward : Condition outside (MoveRegion 0 1) → ⊥
  pub move_outward : Condition outside (MoveRegion 1 0)
  -- a region whose inner value is used outside, and inside alone
  pub erase_region : Condition outside (EraseRegion 1 0) → ⊥
  pub erase_region_closed : Condition inside (EraseRegion 1 0)
  -- a block that is named twice from outside, and from inside alone
  pub erase_block : Condition outside (EraseBlock 0) → ⊥
  pub erase_block_closed : Condition inside (EraseBlock 0)

-- ## A block that is named from inside

-- a block n0 with an operation that names it, and another operation with these successors
abbrev pub self_named : List Small → Forest small_ids bare
self_named others = forest (operation 3 [] [] (successor n0 n0 ∷ []) [] ∷ operation 3 [] [] (map (successor n1) others) [] ∷ []) (block (n0 ∷ []) ∷ []) []

-- a state over it
abbrev pub self_state : List Small → State small_ids bare
self_state others = over_tables (self_named others) (n0 ∷ n1 ∷ []) (n0 ∷ []) [] []

-- the same without the block and the operation inside it
abbrev pub other_left : State small_ids bare
other_left = record (self_state []) {
  forest = record { ops = λ o. if same_small o n0 then None else (self_named []).ops o; blocks = λ _. None; regions = λ _. None };
}

-- a block that only an operation inside it names goes with it
pub record EraseInnerSuccessor : Type 0 where
  pub closed : IsClosed (self_named []) (a_block n0)
  pub allowed : Condition (self_state []) (EraseBlock 0)
  pub erased : (new : Fresh small_ids) → Change behaviour (self_state []) (EraseBlock 0) new other_left
  pub two : IsSubtreeSize (self_named []) (a_block n0) 2
  pub not_one : IsSubtreeSize (self_named []) (a_block n0) 1 → ⊥
  -- both are gone, and the other operation stays
  pub block_gone : (g : Forest small_ids bare) → Removes (self_named []) (a_block n0) g → g.blocks n0 ≡ None
  pub op_gone : (g : Forest small_ids bare) → Removes (self_named []) (a_block n0) g → g.ops n0 ≡ None
  pub other_stays : (g : Forest small_ids bare) → Removes (self_named []) (a_block n0) g → g.ops n1 ≡ (self_named []).ops n1
  -- the operation alone may go too: it defines nothing
  pub op_alone : Condition (self_state []) (EraseOp 0)
  -- named from outside too, it may not go
  pub not_closed : IsClosed (self_named (n0 ∷ [])) (a_block n0) → ⊥
  pub refused : Condition (self_state (n0 ∷ [])) (EraseBlock 0) → ⊥
