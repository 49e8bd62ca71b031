use Rattle.std.proofs.Common.{◌≡◌, OnSome, refl, sym, ap, subst, ◌∙◌}
use Rattle.ir_model.specs.declared.ids.ArenaIndex.{ArenaIndex}
use Rattle.ir_model.specs.ContextIds.{same_id}
use Rattle.ir_model.specs.Changes.{without}
use Rattle.ir_base_arenas.specs.Arena.{get, fill, cut, IsLiveIn}
use Rattle.ir_base_arenas.specs.Lists.{SameIds}
use Rattle.ir_core_records.specs.Tree.{tree_of, blocks_in}
use Rattle.ir_core_nesting.proofs.Readings.{found-at, live-of, edited-at}
use Rattle.ir_core_nesting.proofs.Growths.{removed, SameIds-written}
use Rattle.ir_core_nesting.proofs.MovedRegions.{owner-has, owner-held, regions-once}
use Rattle.ir_core_nesting.proofs.RegionLists.{empty-region}
use Rattle.ir_core_nesting.proofs.RegionRemoval.{region-removed}
use Rattle.ir_core_nesting.proofs.removals.remove_empty_region.Goals as goal

pub at-requires : goal.at-requires
at-requires g c = subst (λ (u : ArenaIndex). IsLiveIn c.args.records.now.regions u) (sym c.from_index.ensures) (empty-region c.args.records.now c.args.region c.requires.empty).0

pub drop_region-requires : goal.drop_region-requires
drop_region-requires g c =
    let old = c.args.records.now in
    let r = c.args.region in
    let region = c.at.result.now in
    let found_region = ap (get old.regions) (sym c.from_index.ensures) ∙ c.at.ensures in
    let has = owner-has old c.requires.nested c.requires.formed r region found_region in
    record {
      live = owner-held old c.requires.nested r region.parent has;
      once = regions-once old c.requires.nested c.requires.formed region.parent;
    }

pub returns : goal.returns
returns g c =
    let old = c.args.records.now in
    let r = c.args.region in
    let region = c.at.result.now in
    let op = region.parent in
    let found_region = ap (get old.regions) (sym c.from_index.ensures) ∙ c.at.ensures in
    let has = owner-has old c.requires.nested c.requires.formed r region found_region in
    let at = found-at old.ops op (owner-held old c.requires.nested r op has) in
    let empty = empty-region old r c.requires.empty in
    let dropped : c.drop_region.new.ops ≡ fill old.ops op (record (at.0) { regions = without same_id r at.0.regions }) = c.drop_region.ensures ∙ edited-at _ old.ops op at.0 at.1 in
    let is : c.remove.new.self ≡ cut old.regions r = removed old.regions c.remove.new.self r c.remove.result empty.0 (c.remove.ensures.value ∙ ap (get old.regions) c.from_index-2.ensures) (subst (λ (u : ArenaIndex). OnSome c.remove.result (c.remove.new.self ≡ cut old.regions u)) c.from_index-2.ensures c.remove.ensures.cut) in
    let told = region-removed old op r at.0 at.1 region found_region refl c.lists_are_one.ensures c.lists_are_one-2.ensures c.requires.nested
    (c.container_changes_keep_lists.ensures.removed old.blocks old.regions (blocks_in (tree_of old)) c.requires.nested.block_lists r empty.0 empty.1)
    c.drop_region.new.ops c.remove.new.self dropped is in
    record {
      forest = told.forest;
      op_ids = subst (λ a. SameIds old.ops a) (sym dropped) (SameIds-written old.ops op _ (live-of old.ops op at.0 at.1));
      blocks = refl;
      regions = is;
      nested = told.nested;
      chains = told.chains;
      own = told.own;
    }
