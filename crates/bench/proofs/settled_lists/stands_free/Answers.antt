use Rattle.ir_core.specs.Context.State.{forest_of}
use Rattle.bench.proofs.Freed.{not_so, parent_free}
use Rattle.bench.proofs.settled_lists.stands_free.Goals as goal

pub returns-in-Some : goal.returns-in-Some
returns-in-Some g c = λ told. parent_free (forest_of c.args.ctx.now) c.args.op.index c.in-Some.block.index c.in-Some.ensures.parent (λ linked. not_so c.is_linked.result told (c.is_linked.ensures.1 linked))
