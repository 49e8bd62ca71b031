use Rattle.ir_base.specs.Model.Forest.{an_op}
use Rattle.ir_base.specs.Model.Nesting.{itself}
use Rattle.ir_core.specs.Context.State.{forest_of}
use Rattle.bench.proofs.Grown.{all_still}
use Rattle.bench.proofs.Placing.{has_region, new_op_alone}
use Rattle.bench.proofs.settled_nests.nest.Goals as goal

pub nest_inside-requires-clause-region : goal.nest_inside-requires-clause-region
nest_inside-requires-clause-region g c = has_region (forest_of c.new.new.ctx) c.in_ok-outer.outer.index _ _ _ c.in_ok-outer.ensures.counts

pub returns-clause-live : goal.returns-clause-live
returns-clause-live g c = c.in_ok-nest_inside.ensures.keeps.entities_stay_live (an_op c.in_ok-outer.outer.index) c.in_ok-outer.ensures.live

pub returns-clause-all : goal.returns-clause-all
returns-clause-all g c = λ none.
    let index = c.in_ok-outer.outer.index in
    all_still (forest_of c.new.new.ctx) (forest_of c.nest_inside.new.ctx) index (an_op index) (new_op_alone _ _ _ c.recall_live_was_made.ensures _ _ _ _ _ _ c.in_ok-outer.ensures.made none) itself c.in_ok-nest_inside.ensures.grows
