use Rattle.std.proofs.Common.{◌≡◌, None, rules, ap, ◌∙◌}
use Rattle.std.specs.Option.{option_map}
use Rattle.ir_model.specs.Nesting.{blocks_of, ops_of}
use Rattle.ir_core_context.specs.State.{forest_of}
use Rattle.ir_view.proofs.Regions.{first-map, block, op}
use Rattle.ir_view.proofs.neighbours.first_child.Goals as goal

pub returns-in_err-get_head-in-Block : goal.returns-in_err-get_head-in-Block
returns-in_err-get_head-in-Block g c =
    let none : c.from_residual-in_err-get_head-in-Block.result ≡ None = search rules in
    rw (none, c.in-Block.is) (ap (option_map op) c.in_err-get_head-in-Block.ensures.first ∙ first-map op (ops_of (forest_of c.args.ctx.now) c.in-Block.block.index))

pub returns-in_err-get_head-in-Region : goal.returns-in_err-get_head-in-Region
returns-in_err-get_head-in-Region g c =
    let none : c.from_residual-in_err-get_head-in-Region.result ≡ None = search rules in
    rw (none, c.in-Region.is) (ap (option_map block) c.in_err-get_head-in-Region.ensures.first ∙ first-map block (blocks_of (forest_of c.args.ctx.now) c.in-Region.region.index))

pub returns-in_ok-get_head-in-Block : goal.returns-in_ok-get_head-in-Block
returns-in_ok-get_head-in-Block g c =
    rw c.in-Block.is (ap (option_map op) c.in_ok-get_head-in-Block.ensures.first ∙ first-map op (ops_of (forest_of c.args.ctx.now) c.in-Block.block.index))

pub returns-in_ok-get_head-in-Region : goal.returns-in_ok-get_head-in-Region
returns-in_ok-get_head-in-Region g c =
    rw c.in-Region.is (ap (option_map block) c.in_ok-get_head-in-Region.ensures.first ∙ first-map block (blocks_of (forest_of c.args.ctx.now) c.in-Region.region.index))
