use Rattle.std.proofs.Common.{◌≢◌, rules}
use Rattle.ir_core.specs.Context.State.{forest_of}
use Rattle.bench.proofs.Freed.{free_linked, may_go_beside, moved_free}
use Rattle.bench.proofs.settled_lists.put_before.Goals as goal

pub unlink-requires : goal.unlink-requires
unlink-requires g c = record { linked = free_linked (forest_of c.args.ctx.now) c.args.op.index c.requires.op }

pub insert_before-requires-clause-live : goal.insert_before-requires-clause-live
insert_before-requires-clause-live g c = c.unlink.ensures.may_go_back.live

pub insert_before-requires-clause-may_go : goal.insert_before-requires-clause-may_go
insert_before-requires-clause-may_go g c =
    let differ : c.args.mark.index ≢ c.args.op.index = search rules in
    may_go_beside (forest_of c.args.ctx.now) (forest_of c.unlink.new.ctx) c.args.op.index c.unlink.ensures.forest c.args.mark.index differ c.requires.mark

pub returns : goal.returns
returns g c =
    let differ : c.args.mark.index ≢ c.args.op.index = search rules in
    moved_free (forest_of c.args.ctx.now) (forest_of c.unlink.new.ctx) (forest_of c.insert_before.new.ctx) c.args.op.index c.args.mark.index differ c.unlink.ensures.forest c.insert_before.ensures.forest c.requires.mark
