use Rattle.std.proofs.Common.{◌≡◌, None, rules}
use Rattle.std.specs.Option.{option_map}
use Rattle.ir_model.specs.Forest.{a_block, a_region, an_op}
use Rattle.ir_core_context.specs.State.{forest_of}
use Rattle.ir_core_queries.proofs.Above.{above-none, above-one, above-parent}
use Rattle.ir_core_queries.proofs.block.PtrBasicBlockBlockPlace.get_parent_block.Goals as goal

pub returns-in_err-region-clause-above : goal.returns-in_err-region-clause-above
returns-in_err-region-clause-above g c =
    let f = forest_of c.args.ctx.now in
    let none : c.from_residual.result ≡ None = search rules in
    rw none (above-none f 2 (a_block c.args.self.index) c.in_err-region.ensures.parent)

pub returns-clause-above : goal.returns-clause-above
returns-clause-above g c =
    let f = forest_of c.args.ctx.now in
    let region = a_region c.in_ok-region.region.index in
    let op = an_op c.get_parent_op-op.result.index in
    let answer = option_map (λ p. a_block p.index) c.get_parent_block.result in
    above-parent f c.recall_well_formed.ensures.nested 2 (a_block c.args.self.index) region answer c.in_ok-region.ensures.parent
    (above-parent f c.recall_well_formed.ensures.nested 1 region op answer c.get_parent_op-op.ensures.parent (above-one f op answer c.get_parent_block.ensures.parent))
