use Rattle.ir_base.specs.Model.Forest.{a_block, a_region, an_op}
use Rattle.ir_base.specs.Model.Nesting.{itself}
use Rattle.ir_core.specs.Context.State.{forest_of}
use Rattle.bench.proofs.Grown.{all_still, inside_on}
use Rattle.bench.proofs.Placing.{new_op_alone, region_inside}
use Rattle.bench.proofs.settled_building.module.Goals as goal

pub returns-clause-live : goal.returns-clause-live
returns-clause-live g c =
    let root = an_op c.in_ok-root.root.index in
    c.in_ok-add_functions.ensures.keeps.entities_stay_live root (c.in_ok-outer.ensures.keeps.entities_stay_live root c.in_ok-root.ensures.live)

pub returns-clause-all : goal.returns-clause-all
returns-clause-all g c = λ none.
    let first = forest_of c.new.new.ctx in
    let second = forest_of c.add_block.new.ctx in
    let index = c.in_ok-root.root.index in
    let root = an_op index in
    let inside = a_region c.get_region-inside.result.index in
    let outer = a_block c.in_ok-outer.outer.index in
    let at = region_inside first root index c.get_region-inside.result.index 0 _ c.deref.ensures.found.found c.get_region-inside.ensures itself in
    let made = c.in_ok-outer.ensures in
    all_still second (forest_of c.add_functions.new.ctx) index outer
    (all_still first second index inside (new_op_alone _ _ _ c.recall_live_was_made.ensures _ _ _ _ _ _ c.in_ok-root.ensures.made none) at made.grows)
    (inside_on second root inside outer (made.grows.inside root inside at) made.inside) c.in_ok-add_functions.ensures.grows
