-- The rows of dropped uses and of what is erased.
use mathlib.Core.Path.{◌≡◌, refl, ap}
use Rattle.std.proofs.Common.{Bool, true, false, cond, ◌⊎◌, inl, inr, None, length}
use Rattle.std.specs.Option.{option_map}
use Rattle.ir_model.specs.Forest.{Forest, Entity, an_op, a_block, a_region}
use Rattle.ir_model.specs.Nesting.{operands_of, regions_of, blocks_of}
use Rattle.ir_model.specs.Changes.{DropsUses, Removes, no_uses, unlist}
use Rattle.ir_model.specs.Edits.{State}
use Rattle.ir_model.specs.EditStart.{OpName, BlockName, RegionName, o0, o5, o6, b0, b4, r0, r3, r4, row_ids, row_dialect, start, taker, brancher, holder, inner}
use Rattle.ir_model.specs.RemovalRows.{DropRows, EraseRows, users_are, bare_taker, bare_brancher, bare_holder, bare_inner, without_holder, without_block, without_region}
use Rattle.ir_model.proofs.EditStart.{here, leads}
use Rattle.ir_model.proofs.EditSubtrees.{Tells, with_holder, with_block, with_region, with_first, holder_tells, block_tells, region_tells, first_tells}

-- ## What holds where the rows do

where_true : {A : Type 0} (t : Bool) (x y g : A) → g ≡ cond t x y → t ≡ true → g ≡ x
where_true true x y g p e = p
where_true false x y g p e = absurd cc

where_false : {A : Type 0} (t : Bool) (x y g : A) → g ≡ cond t x y → (t ≡ true → ⊥) → g ≡ y
where_false true x y g p out = absurd (out refl)
where_false false x y g p out = p

either_way : {A : Type 0} (t : Bool) {x y g : A} → g ≡ cond t x y → (g ≡ y) ⊎ (g ≡ x)
either_way true p = inr p
either_way false p = inl p

drops : (e : Entity row_ids) (among : Entity row_ids → Bool) (g : Forest row_ids row_dialect) → Tells e among
    → ((o : OpName) → g.ops o ≡ cond (among (an_op o)) (option_map no_uses (start.forest.ops o)) (start.forest.ops o)) → g.blocks ≡ start.forest.blocks → g.regions ≡ start.forest.regions
    → DropsUses start.forest e g
drops e among g tells ops blocks regions = record {
  inside = λ o i. where_true (among (an_op o)) _ _ _ (ops o) (tells.outside (an_op o) i);
  outside = λ o out. where_false (among (an_op o)) _ _ _ (ops o) (λ t. out (tells.inside (an_op o) t));
  either = λ o. either_way (among (an_op o)) (ops o);
  blocks = blocks;
  regions = regions;
}

removes : (e : Entity row_ids) (among : Entity row_ids → Bool) (g : Forest row_ids row_dialect) → Tells e among
    → ((o : OpName) → g.ops o ≡ cond (among (an_op o)) None ((unlist e start.forest).ops o))
    → ((b : BlockName) → g.blocks b ≡ cond (among (a_block b)) None ((unlist e start.forest).blocks b))
    → ((r : RegionName) → g.regions r ≡ cond (among (a_region r)) None ((unlist e start.forest).regions r))
    → Removes start.forest e g
removes e among g tells ops blocks regions = record {
  ops_inside = λ o i. where_true (among (an_op o)) _ _ _ (ops o) (tells.outside (an_op o) i);
  ops_outside = λ o out. where_false (among (an_op o)) _ _ _ (ops o) (λ t. out (tells.inside (an_op o) t));
  blocks_inside = λ b i. where_true (among (a_block b)) _ _ _ (blocks b) (tells.outside (a_block b) i);
  blocks_outside = λ b out. where_false (among (a_block b)) _ _ _ (blocks b) (λ t. out (tells.inside (a_block b) t));
  regions_inside = λ r i. where_true (among (a_region r)) _ _ _ (regions r) (tells.outside (a_region r) i);
  regions_outside = λ r out. where_false (among (a_region r)) _ _ _ (regions r) (λ t. out (tells.inside (a_region r) t));
}

-- ## The rows

pub drop_rows : DropRows
drop_rows = record {
  op = leads (here _ (drops (an_op o5) with_holder _ holder_tells (λ o. op o) refl refl, refl)) refl refl (λ e. let f = ap (λ (s : State row_ids row_dialect). length (operands_of s.forest o6)) e in cc);
  block = leads (here _ (drops (a_block b4) with_block _ block_tells (λ o. block o) refl refl, refl)) refl refl (λ e. let f = ap (λ (s : State row_ids row_dialect). length (operands_of s.forest o6)) e in cc);
  region = leads (here _ (drops (a_region r0) with_first _ first_tells (λ o. region o) refl refl, refl)) refl refl (λ e. let f = ap (λ (s : State row_ids row_dialect). length (operands_of s.forest o6)) e in cc);
}
  where
    op : (o : OpName) → (users_are taker brancher bare_holder bare_inner).forest.ops o ≡ cond (with_holder (an_op o)) (option_map no_uses (start.forest.ops o)) (start.forest.ops o)
    op o0 = refl
    op _ = refl

    block : (o : OpName) → (users_are taker brancher bare_holder bare_inner).forest.ops o ≡ cond (with_block (an_op o)) (option_map no_uses (start.forest.ops o)) (start.forest.ops o)
    block o0 = refl
    block _ = refl

    region : (o : OpName) → (users_are bare_taker bare_brancher holder inner).forest.ops o ≡ cond (with_first (an_op o)) (option_map no_uses (start.forest.ops o)) (start.forest.ops o)
    region o0 = refl
    region _ = refl

module _ (e : Entity row_ids) (among : Entity row_ids → Bool) (g : Forest row_ids row_dialect) where
  -- each record is as the removal of what the test names leaves it
  record Leaves : Type 0 where
    op : (o : OpName) → g.ops o ≡ cond (among (an_op o)) None ((unlist e start.forest).ops o)
    block : (b : BlockName) → g.blocks b ≡ cond (among (a_block b)) None ((unlist e start.forest).blocks b)
    region : (r : RegionName) → g.regions r ≡ cond (among (a_region r)) None ((unlist e start.forest).regions r)

holder_left : Leaves (an_op o5) with_holder without_holder.forest
holder_left = record { op = op; block = block; region = region }
  where
    op : (o : OpName) → without_holder.forest.ops o ≡ cond (with_holder (an_op o)) None ((unlist (an_op o5) start.forest).ops o)
    op o0 = refl
    op _ = refl

    block : (b : BlockName) → without_holder.forest.blocks b ≡ cond (with_holder (a_block b)) None ((unlist (an_op o5) start.forest).blocks b)
    block b0 = refl
    block _ = refl

    region : (r : RegionName) → without_holder.forest.regions r ≡ cond (with_holder (a_region r)) None ((unlist (an_op o5) start.forest).regions r)
    region r0 = refl
    region _ = refl

block_left : Leaves (a_block b4) with_block without_block.forest
block_left = record { op = op; block = block; region = region }
  where
    op : (o : OpName) → without_block.forest.ops o ≡ cond (with_block (an_op o)) None ((unlist (a_block b4) start.forest).ops o)
    op o0 = refl
    op _ = refl

    block : (b : BlockName) → without_block.forest.blocks b ≡ cond (with_block (a_block b)) None ((unlist (a_block b4) start.forest).blocks b)
    block b0 = refl
    block _ = refl

    region : (r : RegionName) → without_block.forest.regions r ≡ cond (with_block (a_region r)) None ((unlist (a_block b4) start.forest).regions r)
    region r0 = refl
    region _ = refl

region_left : Leaves (a_region r3) with_region without_region.forest
region_left = record { op = op; block = block; region = region }
  where
    op : (o : OpName) → without_region.forest.ops o ≡ cond (with_region (an_op o)) None ((unlist (a_region r3) start.forest).ops o)
    op o0 = refl
    op _ = refl

    block : (b : BlockName) → without_region.forest.blocks b ≡ cond (with_region (a_block b)) None ((unlist (a_region r3) start.forest).blocks b)
    block b0 = refl
    block _ = refl

    region : (r : RegionName) → without_region.forest.regions r ≡ cond (with_region (a_region r)) None ((unlist (a_region r3) start.forest).regions r)
    region r0 = refl
    region _ = refl

erased : (e : Entity row_ids) (among : Entity row_ids → Bool) (g : Forest row_ids row_dialect) → Tells e among → Leaves e among g → Removes start.forest e g
erased e among g tells left = removes e among g tells left.op left.block left.region

pub erase_rows : EraseRows
erase_rows = record {
  op = leads (here _ (erased (an_op o5) with_holder _ holder_tells holder_left, refl)) refl refl (λ e. let f = ap (λ (s : State row_ids row_dialect). blocks_of s.forest r4) e in cc);
  block = leads (here _ (erased (a_block b4) with_block _ block_tells block_left, refl)) refl refl (λ e. let f = ap (λ (s : State row_ids row_dialect). blocks_of s.forest r3) e in cc);
  region = leads (here _ (here _ (here _ (erased (a_region r3) with_region _ region_tells region_left, refl)))) refl refl (λ e. let f = ap (λ (s : State row_ids row_dialect). regions_of s.forest o0) e in cc);
}
