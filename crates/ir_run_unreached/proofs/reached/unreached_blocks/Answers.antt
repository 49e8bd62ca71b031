use Rattle.ir_core_queries.specs.State.{forest_of}
use Rattle.ir_run_unreached.proofs.Marking.{sorted_ends}
use Rattle.ir_run_unreached.proofs.reached.unreached_blocks.Goals as goal

pub returns-clause-listed : goal.returns-clause-listed
returns-clause-listed g c = sorted_ends (forest_of c.args.ctx.now) c.args.region.index _ _ c.in_ok-reached.ensures.reached c.in_ok-blocks.ensures.left
