use Rattle.ir_base.specs.Model.Forest.{an_op}
use Rattle.ir_base.specs.Model.Nesting.{itself}
use Rattle.ir_core.specs.Context.State.{forest_of}
use Rattle.bench.proofs.Grown.{grows_none, grows_on, inside_on}
use Rattle.bench.proofs.Placing.{keeps_itself, keeps_on}
use Rattle.bench.proofs.settled_nests.nest_inside.Goals as goal

pub loop-i-init : goal.loop-i-init
loop-i-init g c = record { live = c.requires.live; region = c.requires.region; inside = itself; keeps = keeps_itself _; grows = grows_none _ _ }

pub loop-i-preserved : goal.loop-i-preserved
loop-i-preserved g c =
    let now = c.loop-i.invariant in
    let made = c.in_ok-inner.ensures in
    let outer = an_op c.args.outer.index in
    let before = an_op c.loop-i.inner.index in
    let f = forest_of c.level_inside.new.ctx in
    record {
      live = made.live;
      region = made.region;
      inside = inside_on f outer before (an_op c.in_ok-inner.inner.index) (made.grows.inside outer before now.inside) made.inside;
      keeps = keeps_on _ _ _ now.keeps made.keeps;
      grows = grows_on (forest_of c.args.ctx.now) (forest_of c.loop-i.ctx) f outer before now.grows now.inside made.grows;
    }
