use Rattle.ir_core_queries.specs.State.{forest_of}
use Rattle.ir_model.proofs.Back.{slice_get-in}
use Rattle.generic_text.proofs.Left.{region-is-new}
use Rattle.generic_text.proofs.regions.fill_region.Goals as goal

pub returns-in_err-put_blocks : goal.returns-in_err-put_blocks
returns-in_err-put_blocks c = λ first builds new.
    c.put_blocks.ensures first builds (region-is-new first (forest_of c.args.ctx.now) builds.apart.left c.args.op.index c.in_ok-region.region.index builds.apart.nested c.recall_well_formed.ensures.nested new (slice_get-in _ c.args.index c.in_ok-region.region.index c.in_ok-region.ensures.found))

pub returns : goal.returns
returns c = λ first builds new.
    c.put_blocks.ensures first builds (region-is-new first (forest_of c.args.ctx.now) builds.apart.left c.args.op.index c.in_ok-region.region.index builds.apart.nested c.recall_well_formed.ensures.nested new (slice_get-in _ c.args.index c.in_ok-region.region.index c.in_ok-region.ensures.found))
