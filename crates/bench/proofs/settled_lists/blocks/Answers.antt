use Rattle.ir_core.specs.Context.State.{forest_of}
use Rattle.bench.proofs.Freed.{region_stands}
use Rattle.bench.proofs.settled_lists.blocks.Goals as goal

pub timed_blocks-requires-clause-stands : goal.timed_blocks-requires-clause-stands
timed_blocks-requires-clause-stands g c = region_stands (forest_of c.add_blocks.new.ctx) c.in_ok-from.to.index c.get_parent_op-module.result.index c.get_parent_op-module.ensures.parent
