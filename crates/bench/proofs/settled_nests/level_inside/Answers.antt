use Rattle.std.proofs.lemmas.Result.{IfOk-weaker, on_ok_weaker}
use Rattle.ir_base.specs.Model.Forest.{a_block, a_region, an_op}
use Rattle.ir_base.specs.Model.Nesting.{Inside, itself, regions_of}
use Rattle.ir_core.specs.Context.State.{forest_of}
use Rattle.bench.specs.Settled.{GrowsIn}
use Rattle.bench.proofs.Grown.{grows_none, grows_on, inside_on}
use Rattle.bench.proofs.Placing.{has_region, if_ok_both, keeps_on, region_inside}
use Rattle.bench.proofs.settled_nests.level_inside.Goals as goal

pub returns-clause-region : goal.returns-clause-region
returns-clause-region g c = IfOk-weaker c.add_op.result _ _ (λ op counts. has_region (forest_of c.add_op.new.ctx) op.index _ _ _ counts) c.add_op.ensures.counts

pub returns-clause-grows : goal.returns-clause-grows
returns-clause-grows g c =
    let start = forest_of c.args.ctx.now in
    let middle = forest_of c.add_block.new.ctx in
    let outer = an_op c.args.outer.index in
    let inside = a_region c.get_region-inside.result.index in
    let block = a_block c.in_ok-block.block.index in
    let made = c.in_ok-block.ensures in
    let at = region_inside start outer c.args.outer.index c.get_region-inside.result.index 0 _ c.deref.ensures.found.found c.get_region-inside.ensures itself in
    let first = grows_on start start middle outer inside (grows_none start outer) at made.grows in
    on_ok_weaker c.add_op.result (λ more. grows_on start middle (forest_of c.add_op.new.ctx) outer block first (inside_on middle outer inside block (made.grows.inside outer inside at) made.inside) more) c.add_op.ensures.grows

pub returns-clause-inside : goal.returns-clause-inside
returns-clause-inside g c =
    let start = forest_of c.args.ctx.now in
    let middle = forest_of c.add_block.new.ctx in
    let f = forest_of c.add_op.new.ctx in
    let outer = an_op c.args.outer.index in
    let inside = a_region c.get_region-inside.result.index in
    let block = a_block c.in_ok-block.block.index in
    let made = c.in_ok-block.ensures in
    let at = region_inside start outer c.args.outer.index c.get_region-inside.result.index 0 _ c.deref.ensures.found.found c.get_region-inside.ensures itself in
    let below_outer = inside_on middle outer inside block (made.grows.inside outer inside at) made.inside in
    if_ok_both c.add_op.result (GrowsIn middle f block) (λ op. Inside f block (an_op op.index)) (λ op. Inside f outer (an_op op.index)) (λ op grows in_block. inside_on f outer block (an_op op.index) (grows.inside outer block below_outer) in_block) c.add_op.ensures.grows c.add_op.ensures.inside

pub returns-clause-keeps : goal.returns-clause-keeps
returns-clause-keeps g c = on_ok_weaker c.add_op.result (λ more. keeps_on _ _ _ c.in_ok-block.ensures.keeps more) c.add_op.ensures.keeps
