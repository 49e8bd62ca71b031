use Rattle.ir_base.specs.Model.Forest.{a_block, a_value}
use Rattle.ir_base.specs.Model.Nesting.{itself}
use Rattle.ir_core.specs.Records.Meaning.{value_of}
use Rattle.ir_core.specs.Context.State.{forest_of}
use Rattle.bench.proofs.Grown.{grows_none, grows_on}
use Rattle.bench.proofs.Placing.{keeps_itself, keeps_on, known_on}
use Rattle.bench.proofs.settled_building.build_from.Goals as goal

pub loop-i-init : goal.loop-i-init
loop-i-init g c = record { known = c.requires.known; block = c.requires.block; first = c.requires.first; second = c.requires.second; keeps = keeps_itself _; grows = grows_none _ _ }

pub loop-i-preserved : goal.loop-i-preserved
loop-i-preserved g c =
    let now = c.loop-i.invariant in
    let more = c.in_ok-op.ensures in
    record {
      known = known_on _ _ _ more.keeps now.known;
      block = more.keeps.entities_stay_live (a_block c.args.block.index) now.block;
      first = more.keeps.stay_live (a_value (value_of c.loop-i.second.index)) now.second;
      second = c.deref.ensures.leads.results c.get_result-second.result.index 0 c.get_result-second.ensures.definer c.get_result-second.ensures.number;
      keeps = keeps_on _ _ _ now.keeps more.keeps;
      grows = grows_on (forest_of c.args.ctx.now) (forest_of c.loop-i.ctx) (forest_of c.add_op.new.ctx) (a_block c.args.block.index) (a_block c.args.block.index) now.grows itself more.grows;
    }
