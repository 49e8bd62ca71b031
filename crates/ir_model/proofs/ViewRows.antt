-- The facts of the views of small sessions.
use mathlib.Core.Path.{◌≡◌, refl, ap}
use Rattle.std.proofs.Common.{ℕ, true, false, None, List, is_some, length, arith}
use Rattle.std.specs.Prelude.{slice_index_or, slice_get, ◌∷◌, []}
use Rattle.ir_model.specs.Nesting.{list_of}
use Rattle.ir_model.specs.Views.{View, SeenOp, SeenBlock}
use Rattle.ir_model.specs.ViewRows.{numbers, SmallView}

-- the first of a list of the operation at this place
of_op_at : ℕ → (SeenOp numbers → List ℕ) → View numbers → ℕ
of_op_at place list v = slice_index_or (list_of list (slice_index_or v.ops place None)) 0 9

-- the first operation of the block at this place
of_block_at : ℕ → View numbers → ℕ
of_block_at place v = slice_index_or (list_of (λ (r : SeenBlock numbers). r.ops) (slice_index_or v.blocks place None)) 0 9

-- the first block of the region at this place
of_region_at : ℕ → View numbers → ℕ
of_region_at place v = slice_index_or (list_of (λ bs. bs) (slice_index_or v.regions place None)) 0 9

pub small_view : SmallView
unfolding of_op_at of_block_at of_region_at
small_view = record {
  in_full = refl;
  renumbered = refl;
  operands = λ e. (let n : 2 ≡ 0 = ap (of_op_at 3 (λ r. r.operands)) e in omega (arith, n));
  successors = λ e. (let n : 0 ≡ 2 = ap (of_op_at 3 (λ r. r.successors)) e in omega (arith, n));
  regions = λ e. (let n : 2 ≡ 1 = ap (of_op_at 0 (λ r. r.regions)) e in omega (arith, n));
  operations = λ e. (let n : 3 ≡ 2 = ap (of_block_at 0) e in omega (arith, n));
  blocks = λ e. (let n : 2 ≡ 0 = ap (of_region_at 1) e in omega (arith, n));
  another_type = λ e. (let n : 0 ≡ 1 = ap (of_op_at 2 (λ r. list_of (λ x. x.ty ∷ []) (slice_get r.results 1))) e in omega (arith, n));
  erased = λ e. (let t : true ≡ false = ap (λ (v : View numbers). is_some (slice_index_or v.ops 1 None)) e in cc);
  erased_region = λ e. (let t : true ≡ false = ap (λ (v : View numbers). is_some (slice_index_or v.regions 0 None)) e in cc);
  not_left_out = λ e. (let n : 3 ≡ 4 = ap (λ (v : View numbers). length v.ops) e in omega (arith, n));
  type_once = λ e. (let n : 2 ≡ 3 = ap (λ (v : View numbers). length v.types) e in omega (arith, n));
  first_place = λ e. (let n : 1 ≡ 0 = ap (of_op_at 2 (λ r. list_of (λ x. x.ty ∷ []) (slice_get r.results 0))) e in omega (arith, n));
}
