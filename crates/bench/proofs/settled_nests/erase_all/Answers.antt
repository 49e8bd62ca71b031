use Rattle.ir_core.specs.Context.State.{forest_of}
use Rattle.bench.proofs.Grown.{closed_root}
use Rattle.bench.proofs.settled_nests.erase_all.Goals as goal

pub timed_erase-requires-clause-closed : goal.timed_erase-requires-clause-closed
timed_erase-requires-clause-closed g c = closed_root (forest_of c.args.ctx.now) c.args.op.index c.requires.all
