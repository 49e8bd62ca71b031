-- Worked examples of verification: which faults stand, and which do not.
use Rattle.std.specs.Prelude.{◌≡◌, ℕ, List, [], ◌∷◌, Option, Some, None, codes}
use Rattle.ir_model.specs.declared.ids.ArenaIndex.{ArenaIndex}
use Rattle.ir_model.specs.ContextIds.{context_ids}
use Rattle.ir_model.specs.Forest.{Text, Forest, Entity, an_op, a_block, BlockRecord, Successor}
use Rattle.ir_model.specs.Faults.{Fault, Checks, the_entity, FaultStands, NoParent, MissingTerminator, TerminatorNotLast, EntryHasPred, OperandNotUseOfDef}
use Rattle.ir_model.specs.SmallForests.{bare, behaviour}
use Rattle.ir_model.specs.IdForests.{first, second, third, three, op_of_kind, block_with}

-- checks that find nothing
abbrev pub no_checks : Checks bare
no_checks = record { op_numbers = λ _. []; attr_numbers = λ _. []; type_numbers = λ _. []; Stands = λ _ _. ⊥; MayRunOut = λ _. ⊥ }

-- the fault stands at this root of the forest, by the checks that find nothing
abbrev pub Stands : Forest context_ids bare → Entity context_ids → Fault → Type 0
Stands f root fault = FaultStands behaviour f [] no_checks (the_entity root) fault

-- ## Branches

-- a module with one region of these blocks, the first of which holds an operation of a kind with these successors
abbrev pub branching : ℕ → List (Successor context_ids) → Option (BlockRecord context_ids bare) → List ArenaIndex → Forest context_ids bare
branching kind successors other blocks = record {
  ops = three (Some (op_of_kind 5 [] (first ∷ []))) (Some (op_of_kind kind successors [])) None;
  blocks = three (Some (block_with (second ∷ []))) other None;
  regions = three (Some blocks) None None;
}

-- its only block ends in a branch to these
abbrev pub one_block : List (Successor context_ids) → Forest context_ids bare
one_block successors = branching 3 successors None (first ∷ [])

-- its only block branches to itself
abbrev pub loop : Forest context_ids bare
loop = one_block (record { use_number = 0; block = first } ∷ [])

-- a first block that is branched to is at fault, by its name
pub record EntryBlock : Type 0 where
  pub stands : Stands loop (an_op first) (EntryHasPred (codes "block1v1"))
  -- no other fault stands
  pub alone : (fault : Fault) → Stands loop (an_op first) fault → fault ≡ EntryHasPred (codes "block1v1")
  -- it is not named by another version
  pub no_other_version : Stands loop (an_op first) (EntryHasPred (codes "block1v3")) → ⊥
  -- without the branch it is not at fault
  pub not_without : (fault : Fault) → Stands (one_block []) (an_op first) fault → ⊥

-- the first of two blocks ends in an operation of a kind that names the second twice
abbrev pub naming_twice : ℕ → Forest context_ids bare
naming_twice kind = branching kind (record { use_number = 0; block = second } ∷ record { use_number = 1; block = second } ∷ []) (Some (block_with [])) (first ∷ second ∷ [])

-- a block without a parent
abbrev pub lone_block : Forest context_ids bare
lone_block = record { ops = λ _. None; blocks = three (Some (block_with [])) None None; regions = λ _. None }

-- an operation of a kind with one empty block
abbrev pub with_empty_block : ℕ → Forest context_ids bare
with_empty_block kind = record {
  ops = three (Some (op_of_kind kind [] (first ∷ []))) None None;
  blocks = three (Some (block_with [])) None None;
  regions = three (Some (first ∷ [])) None None;
}

-- an operation of a kind with a block of a return and a constant behind it
abbrev pub return_first : ℕ → Forest context_ids bare
return_first kind = record {
  ops = three (Some (op_of_kind kind [] (first ∷ []))) (Some (op_of_kind 2 [] [])) (Some (op_of_kind 0 [] []));
  blocks = three (Some (block_with (second ∷ third ∷ []))) None None;
  regions = three (Some (first ∷ [])) None None;
}

-- a module with two empty blocks, and an unlinked operation that names this block
abbrev pub unlinked_user : ArenaIndex → Forest context_ids bare
unlinked_user named = record {
  ops = three (Some (op_of_kind 5 [] (first ∷ []))) (Some (op_of_kind 4 (record { use_number = 0; block = named } ∷ []) [])) None;
  blocks = three (Some (block_with [])) (Some (block_with [])) None;
  regions = three (Some (first ∷ second ∷ [])) None None;
}

-- each fault beside a forest in which it does not stand
pub record FaultsStand : Type 0 where
  pub no_parent : Stands lone_block (a_block first) (NoParent (codes "block1v1"))
  -- a block of a region has a parent
  pub no_parent_elsewhere : (name : Text) → Stands (with_empty_block 5) (an_op first) (NoParent name) → ⊥
  pub missing : Stands (with_empty_block 6) (an_op first) (MissingTerminator (codes "block1v1"))
  -- a parent that asks for no terminators has none to miss
  pub not_missing : (name : Text) → Stands (with_empty_block 5) (an_op first) (MissingTerminator name) → ⊥
  pub too_early : Stands (return_first 5) (an_op first) (TerminatorNotLast (codes "block1v1"))
  -- an operation that names a block twice and ends no block is no terminator, and that alone is at fault
  pub named_twice : Stands (naming_twice 4) (an_op first) OperandNotUseOfDef
  pub named_twice_alone : (fault : Fault) → Stands (naming_twice 4) (an_op first) fault → fault ≡ OperandNotUseOfDef
  -- were it a terminator, nothing would be at fault
  pub not_by_a_terminator : (fault : Fault) → Stands (naming_twice 3) (an_op first) fault → ⊥
  pub named_aside : Stands (unlinked_user second) (a_block second) OperandNotUseOfDef
  -- the block is not the first of its region
  pub no_entry : (name : Text) → Stands (unlinked_user second) (a_block second) (EntryHasPred name) → ⊥
