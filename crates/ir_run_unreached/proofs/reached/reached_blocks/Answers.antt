use Rattle.std.proofs.Common.{sym}
use Rattle.ir_core_queries.specs.State.{forest_of}
use Rattle.ir_run_unreached.proofs.Marking.{marked_live, marking_ends, marking_goes_on, marking_smaller, marking_starts, none_seen}
use Rattle.ir_run_unreached.proofs.reached.reached_blocks.Goals as goal

pub loop-block-init : goal.loop-block-init
loop-block-init g c = marking_starts (forest_of c.args.ctx.now) c.args.region.index _ c.in_ok-marked.ensures.marks

pub mark_successors-requires : goal.mark_successors-requires
mark_successors-requires g c =
    marked_live (forest_of c.args.ctx.now) c.args.region.index c.loop-block.marked c.loop-block.place c.loop-block.invariant c.in-Some.block.index (sym c.in-Some.ensures.found) c.recall_well_formed.ensures.nested

pub loop-block-preserved : goal.loop-block-preserved
loop-block-preserved g c =
    marking_goes_on (forest_of c.args.ctx.now) c.args.region.index c.loop-block.marked c.loop-block.place c.loop-block.invariant c.in-Some.block.index (sym c.in-Some.ensures.found) _ c.in_ok-mark_successors.ensures.marks

pub loop-block-smaller : goal.loop-block-smaller
loop-block-smaller g c =
    marking_smaller (forest_of c.args.ctx.now) c.args.region.index c.loop-block.marked c.loop-block.place c.loop-block.invariant c.in-Some.block.index (sym c.in-Some.ensures.found) c.recall_marked_once.ensures

pub returns-clause-reached : goal.returns-clause-reached
returns-clause-reached g c =
    marking_ends (forest_of c.args.ctx.now) c.args.region.index c.loop-block.marked c.loop-block.place c.loop-block.invariant (none_seen _ _ _ c.block_at.ensures.found c.in_default.is)
