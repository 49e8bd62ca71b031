-- Worked examples of what verification may answer, and what it may not.
use Rattle.std.specs.Prelude.{◌↔◌, List, [], ◌∷◌, Some, None, codes}
use Rattle.ir_model.specs.declared.ids.ArenaIndex.{ArenaIndex}
use Rattle.ir_model.specs.ContextIds.{context_ids}
use Rattle.ir_model.specs.Forest.{Forest, Entity, an_op, a_block}
use Rattle.ir_model.specs.Nesting.{In}
use Rattle.ir_model.specs.Edits.{UsersLinked}
use Rattle.ir_model.specs.BlockGraph.{IsPredecessor}
use Rattle.ir_model.specs.Faults.{the_entity}
use Rattle.ir_model.specs.VerifyAnswers.{VerifyErr, block_fault, missing_terminator, terminator_not_last, no_parent, entry_has_pred, operand_not_use_of_def, out_of_memory, MayAnswer, AllIsWell}
use Rattle.ir_model.specs.SmallForests.{bare, behaviour}
use Rattle.ir_model.specs.IdForests.{first, second, third, three, op_of_kind, block_with}
use Rattle.ir_model.specs.FaultRows.{no_checks, loop, naming_twice, lone_block, with_empty_block, return_first, unlinked_user}

-- a function with a block of a constant and a return
abbrev pub returning : Forest context_ids bare
returning = record {
  ops = three (Some (op_of_kind 6 [] (first ∷ []))) (Some (op_of_kind 0 [] [])) (Some (op_of_kind 2 [] []));
  blocks = three (Some (block_with (second ∷ third ∷ []))) None None;
  regions = three (Some (first ∷ [])) None None;
}

-- a function with a block of a return and a constant behind it, and a second block that stands nowhere
abbrev pub beside_a_block : Forest context_ids bare
beside_a_block = record {
  ops = three (Some (op_of_kind 6 [] (first ∷ []))) (Some (op_of_kind 2 [] [])) (Some (op_of_kind 0 [] []));
  blocks = three (Some (block_with (second ∷ third ∷ []))) (Some (block_with [])) None;
  regions = three (Some (first ∷ [])) None None;
}

-- verification of the root by checks that find nothing may answer exactly these
abbrev pub AnswersAre : Forest context_ids bare → Entity context_ids → List VerifyErr → Type 0
AnswersAre f root errs = (err : VerifyErr) → MayAnswer behaviour f [] no_checks (the_entity root) err ↔ In err errs

-- each fault with its neighbours: where the name of a block is told, memory may run out in place of it
pub record AnswerRows : Type 0 where
  pub lone : AnswersAre lone_block (a_block first) (block_fault no_parent (codes "block1v1") ∷ out_of_memory ∷ [])
  pub missing : AnswersAre (with_empty_block 6) (an_op first) (block_fault missing_terminator (codes "block1v1") ∷ out_of_memory ∷ [])
  pub nothing_missing : AnswersAre (with_empty_block 5) (an_op first) []
  pub with_a_terminator : AnswersAre returning (an_op first) []
  pub all_is_well : AllIsWell behaviour (with_empty_block 5) [] no_checks (the_entity (an_op first))
  pub not_all_is_well : AllIsWell behaviour (with_empty_block 6) [] no_checks (the_entity (an_op first)) → ⊥
  pub not_last : AnswersAre (return_first 5) (an_op first) (block_fault terminator_not_last (codes "block1v1") ∷ out_of_memory ∷ [])
  -- where terminators are asked for, the constant behind the return is none
  pub not_last_and_missing : AnswersAre (return_first 6) (an_op first) (block_fault terminator_not_last (codes "block1v1") ∷ block_fault missing_terminator (codes "block1v1") ∷ out_of_memory ∷ [])
  -- what is at fault beside the root is not told
  pub beside : AnswersAre beside_a_block (an_op first) (block_fault terminator_not_last (codes "block1v1") ∷ block_fault missing_terminator (codes "block1v1") ∷ out_of_memory ∷ [])
  pub beside_the_function : AnswersAre beside_a_block (a_block second) (block_fault no_parent (codes "block2v1") ∷ out_of_memory ∷ [])
  pub entry : AnswersAre loop (an_op first) (block_fault entry_has_pred (codes "block1v1") ∷ out_of_memory ∷ [])
  -- a use that is no successor names no block, so no memory is needed
  pub named_twice : AnswersAre (naming_twice 4) (an_op first) (operand_not_use_of_def ∷ [])
  pub by_a_terminator : AnswersAre (naming_twice 3) (an_op first) []
  pub unlinked : AnswersAre (unlinked_user second) (a_block second) (operand_not_use_of_def ∷ [])
  -- where the block is the first of its region, either may be told
  pub unlinked_and_entry : AnswersAre (unlinked_user first) (a_block first) (operand_not_use_of_def ∷ block_fault entry_has_pred (codes "block1v1") ∷ out_of_memory ∷ [])
  pub beside_the_entry : AnswersAre (unlinked_user first) (a_block second) []
  -- the unlinked user makes no block a predecessor, and is no linked one
  pub no_predecessor : (a b : ArenaIndex) → IsPredecessor (unlinked_user second) b a → ⊥
  pub users_unlinked : UsersLinked (unlinked_user second) second → ⊥
