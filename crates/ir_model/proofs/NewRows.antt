-- The rows of types and new entities.
use mathlib.Core.Path.{refl, ap}
use Rattle.std.proofs.Common.{[], ◌∷◌, length, map}
use Rattle.ir_model.specs.Forest.{Operand, Value}
use Rattle.ir_model.specs.Nesting.{operands_of, regions_of}
use Rattle.ir_model.specs.Edits.{State, Change, NewOp}
use Rattle.ir_model.specs.EditStart.{o0, o1, o7, b0, b1, b2, r0, r1, r2, r3, r4, r5, r6, v0, v4, v7, v8, u11, u12, u13, u14, row_ids, row_dialect, row_behaviour, result, argument, operand, successor, unnamed, start}
use Rattle.ir_model.specs.NewRows.{TypeRows, NewOpRows, NewBlockRows, for_an_op, new_op_is, values_and_two}
use Rattle.ir_model.proofs.EditStart.{same_ops, same_blocks, same_regions, same_state, here, leads}
use Rattle.ir_model.proofs.Unique.{Change-unique}

pub type_rows : TypeRows
type_rows = record {
  known = leads refl refl refl (λ e. let f = ap (λ (s : State row_ids row_dialect). length s.store) e in cc);
  unknown = leads refl refl refl (λ e. let f = ap (λ (s : State row_ids row_dialect). s.tables.types) e in cc);
  always_listed = λ e. let f = ap (λ (s : State row_ids row_dialect). s.tables.types) e in cc;
}

-- what a new operation leads to
op_made : Change row_behaviour start (NewOp 2 (0 ∷ 1 ∷ []) (0 ∷ 4 ∷ []) (2 ∷ 1 ∷ []) 2) for_an_op (new_op_is
    (unnamed v7 1 ∷ unnamed v8 0 ∷ [])
    (operand u11 (result o1 v0) ∷ operand u12 (argument b0 v4) ∷ [])
    (successor u13 b2 ∷ successor u14 b1 ∷ [])
    (r0 ∷ r1 ∷ r2 ∷ r3 ∷ r4 ∷ r5 ∷ r6 ∷ [])
    (values_and_two (result o7 v7) (result o7 v8)))
op_made = here _ (same_state (same_ops _ _ refl refl refl refl refl refl refl refl) refl (same_regions _ _ refl refl refl refl refl refl refl) refl refl)

pub new_op_rows : NewOpRows
new_op_rows = record {
  made_whole = leads op_made refl refl (λ e. let f = ap (λ (s : State row_ids row_dialect). map (λ (p : Operand row_ids). p.use_number) (operands_of s.forest o7)) e in cc);
  regions_listed = λ other. let f = ap (λ (s : State row_ids row_dialect). length s.tables.regions) (Change-unique row_behaviour (NewOp 2 (0 ∷ 1 ∷ []) (0 ∷ 4 ∷ []) (2 ∷ 1 ∷ []) 2) start _ _ for_an_op other op_made) in cc;
  results_in_order = λ other. let f = ap (λ (s : State row_ids row_dialect). map (λ (v : Value row_ids). v.number) s.tables.values) (Change-unique row_behaviour (NewOp 2 (0 ∷ 1 ∷ []) (0 ∷ 4 ∷ []) (2 ∷ 1 ∷ []) 2) start _ _ for_an_op other op_made) in cc;
}

pub new_block_rows : NewBlockRows
new_block_rows = record {
  of_a_block = leads (here _ (same_state refl (same_blocks _ _ refl refl refl refl refl refl refl) refl refl refl)) refl refl (λ e. let f = ap (λ (s : State row_ids row_dialect). length s.tables.values) e in cc);
  of_a_region = leads (here _ (here _ (same_state (same_ops _ _ refl refl refl refl refl refl refl refl) refl (same_regions _ _ refl refl refl refl refl refl refl) refl refl))) refl refl (λ e. let f = ap (λ (s : State row_ids row_dialect). regions_of s.forest o0) e in cc);
}
