-- The rows of results and arguments.
use mathlib.Core.Path.{refl, ap}
use Rattle.std.proofs.Common.{List, length}
use Rattle.ir_model.specs.Forest.{of_op, of_block}
use Rattle.ir_model.specs.Nesting.{definition_types_of, numbers_of}
use Rattle.ir_model.specs.Edits.{State}
use Rattle.ir_model.specs.EditStart.{NumberName, o1, b0, row_ids, row_dialect}
use Rattle.ir_model.specs.DefinitionRows.{ResultRows, ArgumentRows}
use Rattle.ir_model.proofs.EditStart.{same_ops, same_blocks, same_state, here, leads}

-- the numbers of o1's results
abbrev results : State row_ids row_dialect → List NumberName
results s = numbers_of s.forest (of_op o1)

-- the numbers of b0's arguments
abbrev arguments : State row_ids row_dialect → List NumberName
arguments s = numbers_of s.forest (of_block b0)

pub result_rows : ResultRows
result_rows = record {
  push = leads (here _ (here _ (here _ (same_state (same_ops _ _ refl refl refl refl refl refl refl refl) refl refl refl refl)))) refl refl (λ e. let f = ap (λ (s : State row_ids row_dialect). definition_types_of s.forest (of_op o1)) e in cc);
  insert = leads (here _ (here _ (here _ (same_state (same_ops _ _ refl refl refl refl refl refl refl refl) refl refl refl refl)))) refl refl (λ e. let f = ap results e in cc);
  remove = leads (here _ (same_state (same_ops _ _ refl refl refl refl refl refl refl refl) refl refl refl refl)) refl refl (λ e. let f = ap results e in cc);
}

pub argument_rows : ArgumentRows
argument_rows = record {
  push = leads (here _ (here _ (here _ (same_state refl (same_blocks _ _ refl refl refl refl refl refl refl) refl refl refl)))) refl refl (λ e. let f = ap (λ (s : State row_ids row_dialect). length s.tables.values) e in cc);
  insert = leads (here _ (here _ (here _ (same_state refl (same_blocks _ _ refl refl refl refl refl refl refl) refl refl refl)))) refl refl (λ e. let f = ap arguments e in cc);
  remove = leads (here _ (same_state refl (same_blocks _ _ refl refl refl refl refl refl refl) refl refl refl)) refl refl (λ e. let f = ap arguments e in cc);
}
