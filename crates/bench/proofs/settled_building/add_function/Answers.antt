use Rattle.std.proofs.lemmas.Result.{on_ok_weaker}
use Rattle.ir_base.specs.Model.Forest.{a_block, a_region}
use Rattle.ir_base.specs.Model.Nesting.{Inside}
use Rattle.ir_core.specs.Context.State.{forest_of}
use Rattle.bench.specs.Settled.{GrowsIn}
use Rattle.bench.proofs.Grown.{grows_on, inside_on}
use Rattle.bench.proofs.Placing.{if_ok_both, region_inside}
use Rattle.bench.proofs.settled_building.add_function.Goals as goal

pub returns-clause-grows : goal.returns-clause-grows
returns-clause-grows g c =
    let outer = a_block c.args.outer.index in
    let body = a_region c.get_region-body.result.index in
    let at = region_inside (forest_of c.add_op.new.ctx) outer c.in_ok-function.function.index c.get_region-body.result.index 0 _ c.deref.ensures.found.found c.get_region-body.ensures c.in_ok-function.ensures.inside in
    on_ok_weaker c.add_block.result (λ more. grows_on (forest_of c.args.ctx.now) (forest_of c.add_op.new.ctx) (forest_of c.add_block.new.ctx) outer body c.in_ok-function.ensures.grows at more) c.add_block.ensures.grows

pub returns-clause-inside : goal.returns-clause-inside
returns-clause-inside g c =
    let f = forest_of c.add_block.new.ctx in
    let outer = a_block c.args.outer.index in
    let body = a_region c.get_region-body.result.index in
    let at = region_inside (forest_of c.add_op.new.ctx) outer c.in_ok-function.function.index c.get_region-body.result.index 0 _ c.deref.ensures.found.found c.get_region-body.ensures c.in_ok-function.ensures.inside in
    if_ok_both c.add_block.result (GrowsIn (forest_of c.add_op.new.ctx) f body) (λ block. Inside f body (a_block block.index)) (λ block. Inside f outer (a_block block.index)) (λ block grows inside. inside_on f outer body (a_block block.index) (grows.inside outer body at) inside) c.add_block.ensures.grows c.add_block.ensures.inside
