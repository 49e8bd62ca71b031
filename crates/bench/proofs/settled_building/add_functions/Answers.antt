use Rattle.ir_base.specs.Model.Forest.{a_block}
use Rattle.ir_base.specs.Model.Nesting.{itself}
use Rattle.ir_core.specs.Context.State.{forest_of}
use Rattle.bench.proofs.Grown.{grows_none, grows_on}
use Rattle.bench.proofs.Placing.{keeps_itself, keeps_on, known_on}
use Rattle.bench.proofs.settled_building.add_functions.Goals as goal

pub loop-i-init : goal.loop-i-init
loop-i-init g c = record { known = c.requires.known; outer = c.requires.outer; keeps = keeps_itself _; grows = grows_none _ _ }

pub loop-i-preserved : goal.loop-i-preserved
loop-i-preserved g c =
    let now = c.loop-i.invariant in
    let made = c.in_ok-block.ensures in
    let built = c.in_ok-build.ensures in
    let keeps = keeps_on _ _ _ made.keeps built.keeps in
    let outer = a_block c.args.outer.index in
    let start = forest_of c.args.ctx.now in
    let middle = forest_of c.add_function.new.ctx in
    record {
      known = known_on _ _ _ keeps now.known;
      outer = keeps.entities_stay_live outer now.outer;
      keeps = keeps_on _ _ _ now.keeps keeps;
      grows = grows_on start middle (forest_of c.build.new.ctx) outer (a_block c.in_ok-block.block.index) (grows_on start (forest_of c.loop-i.ctx) middle outer outer now.grows itself made.grows) made.inside built.grows;
    }
