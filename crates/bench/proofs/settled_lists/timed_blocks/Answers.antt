use Rattle.std.proofs.Common.{sym}
use Rattle.ir_base.specs.Model.Forest.{a_region, an_op}
use Rattle.ir_core.specs.Context.State.{forest_of}
use Rattle.bench.proofs.Freed.{block_head_linked, op_unlinked_in_regions, op_unlinked_on_region, region_apart, regions_in_regions, regions_on_region}
use Rattle.bench.proofs.settled_lists.timed_blocks.Goals as goal

pub unlink-requires : goal.unlink-requires
unlink-requires g c = record { linked = block_head_linked (forest_of c.loop-i.ctx) c.in-Some.block.index c.args.from.index (sym c.in-Some.ensures.first) }

pub insert_at_back-requires-clause-live : goal.insert_at_back-requires-clause-live
insert_at_back-requires-clause-live g c = c.unlink.ensures.may_go_back.live

pub insert_at_back-requires-clause-container_live : goal.insert_at_back-requires-clause-container_live
insert_at_back-requires-clause-container_live g c = c.unlink.ensures.keeps.entities_stay_live (a_region c.args.to.index) c.loop-i.invariant.to

pub insert_at_back-requires-clause-may_go : goal.insert_at_back-requires-clause-may_go
insert_at_back-requires-clause-may_go g c =
    let now = c.loop-i.invariant in
    let before = forest_of c.loop-i.ctx in
    let f = forest_of c.unlink.new.ctx in
    let to = c.args.to.index in
    let module_ = c.args.module.index in (
      (c.unlink.ensures.may_go_back.front c.args.from.index (sym c.in-Some.ensures.first)).0,
      region_apart f c.recall_well_formed.ensures.nested c.in-Some.block.index to module_ (regions_in_regions before f _ to module_ c.unlink.ensures.forest now.stands) (op_unlinked_in_regions before f _ module_ c.unlink.ensures.forest now.free),
    )

pub loop-i-preserved : goal.loop-i-preserved
loop-i-preserved g c =
    let now = c.loop-i.invariant in
    let out = c.unlink.ensures.keeps.entities_stay_live in
    let into = c.insert_at_back.ensures.keeps.entities_stay_live in
    let from = a_region c.args.from.index in
    let to = a_region c.args.to.index in
    let before = forest_of c.loop-i.ctx in
    let f = forest_of c.unlink.new.ctx in
    let after = forest_of c.insert_at_back.new.ctx in
    let module_ = c.args.module.index in
    record {
      from = into from (out from now.from);
      to = into to (out to now.to);
      stands = regions_on_region f after _ _ c.args.to.index module_ c.insert_at_back.ensures.forest (regions_in_regions before f _ c.args.to.index module_ c.unlink.ensures.forest now.stands);
      free = op_unlinked_on_region f after _ _ module_ c.insert_at_back.ensures.forest (op_unlinked_in_regions before f _ module_ c.unlink.ensures.forest now.free);
    }
