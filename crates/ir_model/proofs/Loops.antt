-- Where names that an edit made in one run take the place of those that it made in another.
use mathlib.Core.Path.{PathP, ◌≡◌, ap}
use mathlib.Core.Equiv.{Iso}
use Rattle.std.proofs.Common.{Bool}
use Rattle.ir_model.specs.Ids.{Ids, Fresh, FreshApart, FreshDistinct, Counts, counts}
use Rattle.ir_model.proofs.Renaming.{Tells, along, list_onto, test_along, keeps_test, moving, moving_moves, map_moving_fixes}

-- each test tells equal from different
pub record Lawful (N : Ids) : Type 0 where
  pub same_use : N.UseNumber → N.UseNumber → Bool
  pub ops : Tells N.same_op
  pub blocks : Tells N.same_block
  pub regions : Tells N.same_region
  pub numbers : Tells N.same_number
  pub uses : Tells same_use

module _ (N : Ids) (L : Lawful N) (old new : Fresh N) where
  op_move : Iso N.Op N.Op
  op_move = moving N.same_op L.ops old.ops new.ops

  block_move : Iso N.Block N.Block
  block_move = moving N.same_block L.blocks old.blocks new.blocks

  region_move : Iso N.Region N.Region
  region_move = moving N.same_region L.regions old.regions new.regions

  number_move : Iso N.ValueNumber N.ValueNumber
  number_move = moving N.same_number L.numbers old.numbers new.numbers

  use_move : Iso N.UseNumber N.UseNumber
  use_move = moving L.same_use L.uses old.uses new.uses

  -- the path from the names to themselves that takes each old name to its new partner
  pub loop : N ≡ N
  loop = λ i. record {
    Op = along op_move i;
    Block = along block_move i;
    Region = along region_move i;
    ValueNumber = along number_move i;
    UseNumber = along use_move i;
    same_op = test_along op_move N.same_op (keeps_test N.same_op L.ops op_move) i;
    same_block = test_along block_move N.same_block (keeps_test N.same_block L.blocks block_move) i;
    same_region = test_along region_move N.same_region (keeps_test N.same_region L.regions region_move) i;
    same_number = test_along number_move N.same_number (keeps_test N.same_number L.numbers number_move) i;
  }

  pub loop_moves : counts N old ≡ counts N new → FreshDistinct N old → FreshDistinct N new → PathP (λ i. Fresh (loop i)) old new
  unfolding loop op_move block_move region_move number_move use_move
  loop_moves c d e = λ i. record {
    ops = list_onto op_move old.ops new.ops (moving_moves N.same_op L.ops new.ops old.ops (ap (λ (n : Counts). n.ops) c) d.ops e.ops) i;
    blocks = list_onto block_move old.blocks new.blocks (moving_moves N.same_block L.blocks new.blocks old.blocks (ap (λ (n : Counts). n.blocks) c) d.blocks e.blocks) i;
    regions = list_onto region_move old.regions new.regions (moving_moves N.same_region L.regions new.regions old.regions (ap (λ (n : Counts). n.regions) c) d.regions e.regions) i;
    numbers = list_onto number_move old.numbers new.numbers (moving_moves N.same_number L.numbers new.numbers old.numbers (ap (λ (n : Counts). n.numbers) c) d.numbers e.numbers) i;
    uses = list_onto use_move old.uses new.uses (moving_moves L.same_use L.uses new.uses old.uses (ap (λ (n : Counts). n.uses) c) d.uses e.uses) i;
  }

  pub loop_fixes : (kept : Fresh N) → FreshApart N kept old → FreshApart N kept new → PathP (λ i. Fresh (loop i)) kept kept
  unfolding loop op_move block_move region_move number_move use_move
  loop_fixes kept a b = λ i. record {
    ops = list_onto op_move kept.ops kept.ops (map_moving_fixes N.same_op L.ops old.ops new.ops kept.ops a.ops b.ops) i;
    blocks = list_onto block_move kept.blocks kept.blocks (map_moving_fixes N.same_block L.blocks old.blocks new.blocks kept.blocks a.blocks b.blocks) i;
    regions = list_onto region_move kept.regions kept.regions (map_moving_fixes N.same_region L.regions old.regions new.regions kept.regions a.regions b.regions) i;
    numbers = list_onto number_move kept.numbers kept.numbers (map_moving_fixes N.same_number L.numbers old.numbers new.numbers kept.numbers a.numbers b.numbers) i;
    uses = list_onto use_move kept.uses kept.uses (map_moving_fixes L.same_use L.uses old.uses new.uses kept.uses a.uses b.uses) i;
  }
