-- The rows of lists.
use mathlib.Core.Path.{refl, ap}
use Rattle.std.proofs.Common.{List}
use Rattle.ir_model.specs.Nesting.{ops_of, blocks_of, regions_of}
use Rattle.ir_model.specs.Edits.{State}
use Rattle.ir_model.specs.EditStart.{OpName, BlockName, o0, o4, b0, b4, r0, row_ids, row_dialect}
use Rattle.ir_model.specs.ListRows.{OpRows, BlockRows, RegionRows}
use Rattle.ir_model.proofs.EditStart.{same_ops, same_blocks, same_regions, same_state, here, leads}

-- the operations of b0
abbrev ops_seen : State row_ids row_dialect → List OpName
ops_seen s = ops_of s.forest b0

-- the blocks of r0
abbrev blocks_seen : State row_ids row_dialect → List BlockName
blocks_seen s = blocks_of s.forest r0

pub op_rows : OpRows
op_rows = record {
  front = leads (here _ (here _ (same_state refl (same_blocks _ _ refl refl refl refl refl refl refl) refl refl refl))) refl refl (λ e. let f = ap ops_seen e in cc);
  back = leads (here _ (here _ (same_state refl (same_blocks _ _ refl refl refl refl refl refl refl) refl refl refl))) refl refl (λ e. let f = ap ops_seen e in cc);
  before = leads (here _ (here _ (same_state refl (same_blocks _ _ refl refl refl refl refl refl refl) refl refl refl))) refl refl (λ e. let f = ap ops_seen e in cc);
  after = leads (here _ (here _ (same_state refl (same_blocks _ _ refl refl refl refl refl refl refl) refl refl refl))) refl refl (λ e. let f = ap ops_seen e in cc);
  unlink = leads (here _ (same_state refl (same_blocks _ _ refl refl refl refl refl refl refl) refl refl refl)) refl refl (λ e. let f = ap ops_seen e in cc);
  append = leads (here _ (here _ (here _ (same_state refl (same_blocks _ _ refl refl refl refl refl refl refl) refl refl refl)))) refl refl (λ e. let f = ap (λ (s : State row_ids row_dialect). ops_of s.forest b4) e in cc);
}

pub block_rows : BlockRows
block_rows = record {
  front = leads (here _ (here _ (same_state refl refl (same_regions _ _ refl refl refl refl refl refl refl) refl refl))) refl refl (λ e. let f = ap blocks_seen e in cc);
  back = leads (here _ (here _ (same_state refl refl (same_regions _ _ refl refl refl refl refl refl refl) refl refl))) refl refl (λ e. let f = ap blocks_seen e in cc);
  before = leads (here _ (here _ (same_state refl refl (same_regions _ _ refl refl refl refl refl refl refl) refl refl))) refl refl (λ e. let f = ap blocks_seen e in cc);
  after = leads (here _ (here _ (same_state refl refl (same_regions _ _ refl refl refl refl refl refl refl) refl refl))) refl refl (λ e. let f = ap blocks_seen e in cc);
  unlink = leads (here _ (same_state refl refl (same_regions _ _ refl refl refl refl refl refl refl) refl refl)) refl refl (λ e. let f = ap blocks_seen e in cc);
  append = leads (here _ (here _ (here _ (same_state refl refl (same_regions _ _ refl refl refl refl refl refl refl) refl refl)))) refl refl (λ e. let f = ap blocks_seen e in cc);
}

pub region_rows : RegionRows
region_rows = record {
  middle = leads (here _ (here _ (here _ (same_state (same_ops _ _ refl refl refl refl refl refl refl refl) refl refl refl refl)))) refl refl (λ e. let f = ap (λ (s : State row_ids row_dialect). regions_of s.forest o4) e in cc);
  first = leads (here _ (here _ (here _ (same_state (same_ops _ _ refl refl refl refl refl refl refl refl) refl refl refl refl)))) refl refl (λ e. let f = ap (λ (s : State row_ids row_dialect). regions_of s.forest o0) e in cc);
  home = leads (here _ (here _ (here _ refl))) refl refl (λ e. let f = ap (λ (s : State row_ids row_dialect). regions_of s.forest o0) e in cc);
}
