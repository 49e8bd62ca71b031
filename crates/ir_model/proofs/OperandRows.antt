-- The rows of operands and successors.
use mathlib.Core.Path.{refl, ap}
use Rattle.std.proofs.Common.{List, map}
use Rattle.ir_model.specs.Forest.{Operand, Successor}
use Rattle.ir_model.specs.Nesting.{operands_of, successors_of}
use Rattle.ir_model.specs.Edits.{State}
use Rattle.ir_model.specs.EditStart.{UseName, BlockName, o2, o3, o6, row_ids, row_dialect}
use Rattle.ir_model.specs.OperandRows.{OperandRows, SuccessorRows, ReplaceAllRows}
use Rattle.ir_model.proofs.EditStart.{same_ops, same_state, here, leads}

-- the use numbers of o2's operands
abbrev operand_uses : State row_ids row_dialect → List UseName
operand_uses s = map (λ (p : Operand row_ids). p.use_number) (operands_of s.forest o2)

-- the use numbers of o3's successors
abbrev successor_uses : State row_ids row_dialect → List UseName
successor_uses s = map (λ (p : Successor row_ids). p.use_number) (successors_of s.forest o3)

-- the blocks that o6's successors name
abbrev inner_blocks : State row_ids row_dialect → List BlockName
inner_blocks s = map (λ (p : Successor row_ids). p.block) (successors_of s.forest o6)

pub operand_rows : OperandRows
operand_rows = record {
  push = leads (here _ (here _ (here _ (same_state (same_ops _ _ refl refl refl refl refl refl refl refl) refl refl refl refl)))) refl refl (λ e. let f = ap operand_uses e in cc);
  insert = leads (here _ (here _ (here _ (same_state (same_ops _ _ refl refl refl refl refl refl refl refl) refl refl refl refl)))) refl refl (λ e. let f = ap operand_uses e in cc);
  remove = leads (here _ (same_state (same_ops _ _ refl refl refl refl refl refl refl refl) refl refl refl refl)) refl refl (λ e. let f = ap operand_uses e in cc);
  remove_first = leads (here _ (same_state (same_ops _ _ refl refl refl refl refl refl refl refl) refl refl refl refl)) refl refl (λ e. let f = ap operand_uses e in cc);
  replace = leads (here _ (here _ (here _ (same_state (same_ops _ _ refl refl refl refl refl refl refl refl) refl refl refl refl)))) refl refl (λ e. let f = ap operand_uses e in cc);
}

pub successor_rows : SuccessorRows
successor_rows = record {
  push = leads (here _ (here _ (here _ (same_state (same_ops _ _ refl refl refl refl refl refl refl refl) refl refl refl refl)))) refl refl (λ e. let f = ap successor_uses e in cc);
  insert = leads (here _ (here _ (here _ (same_state (same_ops _ _ refl refl refl refl refl refl refl refl) refl refl refl refl)))) refl refl (λ e. let f = ap successor_uses e in cc);
  remove = leads (here _ (same_state (same_ops _ _ refl refl refl refl refl refl refl refl) refl refl refl refl)) refl refl (λ e. let f = ap successor_uses e in cc);
  replace = leads (here _ (here _ (here _ (same_state (same_ops _ _ refl refl refl refl refl refl refl refl) refl refl refl refl)))) refl refl (λ e. let f = ap successor_uses e in cc);
}

pub replace_all_rows : ReplaceAllRows
replace_all_rows = record {
  values = leads (here _ (here _ (same_state (same_ops _ _ refl refl refl refl refl refl refl refl) refl refl refl refl))) refl refl (λ e. let f = ap operand_uses e in cc);
  blocks = leads (here _ (here _ (same_state (same_ops _ _ refl refl refl refl refl refl refl refl) refl refl refl refl))) refl refl (λ e. let f = ap inner_blocks e in cc);
  one_value = leads (here _ (here _ (same_state (same_ops _ _ refl refl refl refl refl refl refl refl) refl refl refl refl))) refl refl (λ e. let f = ap operand_uses e in cc);
  one_block = leads (here _ (here _ (same_state (same_ops _ _ refl refl refl refl refl refl refl refl) refl refl refl refl))) refl refl (λ e. let f = ap inner_blocks e in cc);
}
