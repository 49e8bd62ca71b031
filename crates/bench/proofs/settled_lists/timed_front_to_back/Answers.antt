use Rattle.std.proofs.Common.{sym}
use Rattle.ir_base.specs.Model.Forest.{a_block, an_op}
use Rattle.ir_core.specs.Context.State.{forest_of}
use Rattle.bench.proofs.Freed.{block_apart, head_linked, unlinked_in_blocks, unlinked_on_block}
use Rattle.bench.proofs.settled_lists.timed_front_to_back.Goals as goal

pub unlink-requires : goal.unlink-requires
unlink-requires g c = record { linked = head_linked (forest_of c.loop-i.ctx) c.in-Some.op.index c.args.from.index (sym c.in-Some.ensures.first) }

pub insert_at_back-requires-clause-live : goal.insert_at_back-requires-clause-live
insert_at_back-requires-clause-live g c = c.unlink.ensures.may_go_back.live

pub insert_at_back-requires-clause-container_live : goal.insert_at_back-requires-clause-container_live
insert_at_back-requires-clause-container_live g c = c.unlink.ensures.keeps.entities_stay_live (a_block c.args.to.index) c.loop-i.invariant.to

pub insert_at_back-requires-clause-may_go : goal.insert_at_back-requires-clause-may_go
insert_at_back-requires-clause-may_go g c =
    let f = forest_of c.unlink.new.ctx in (
      (c.unlink.ensures.may_go_back.front c.args.from.index (sym c.in-Some.ensures.first)).0,
      block_apart f c.in-Some.op.index c.args.to.index (unlinked_in_blocks (forest_of c.loop-i.ctx) f _ c.args.to.index c.unlink.ensures.forest c.loop-i.invariant.free),
    )

pub loop-i-preserved : goal.loop-i-preserved
loop-i-preserved g c =
    let now = c.loop-i.invariant in
    let out = c.unlink.ensures.keeps.entities_stay_live in
    let into = c.insert_at_back.ensures.keeps.entities_stay_live in
    let from = a_block c.args.from.index in
    let to = a_block c.args.to.index in
    let f = forest_of c.unlink.new.ctx in
    record {
      from = into from (out from now.from);
      to = into to (out to now.to);
      free = unlinked_on_block f (forest_of c.insert_at_back.new.ctx) _ _ c.args.to.index c.insert_at_back.ensures.forest (unlinked_in_blocks (forest_of c.loop-i.ctx) f _ c.args.to.index c.unlink.ensures.forest now.free);
    }
