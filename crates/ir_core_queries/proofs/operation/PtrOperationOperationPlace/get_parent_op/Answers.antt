use Rattle.std.proofs.Common.{◌≡◌, None, rules}
use Rattle.std.specs.Option.{option_map}
use Rattle.ir_model.specs.Forest.{a_block, an_op}
use Rattle.ir_core_context.specs.State.{forest_of}
use Rattle.ir_core_queries.proofs.Above.{above-none, above-parent}
use Rattle.ir_core_queries.proofs.operation.PtrOperationOperationPlace.get_parent_op.Goals as goal

pub returns-in_err-get_parent_block-clause-above : goal.returns-in_err-get_parent_block-clause-above
returns-in_err-get_parent_block-clause-above g c =
    let f = forest_of c.args.ctx.now in
    let none : c.from_residual.result ≡ None = search rules in
    rw none (above-none f 2 (an_op c.args.self.index) c.in_err-get_parent_block.ensures.parent)

pub returns-clause-above : goal.returns-clause-above
returns-clause-above g c =
    let f = forest_of c.args.ctx.now in
    above-parent f c.recall_well_formed.ensures.nested 2 (an_op c.args.self.index) (a_block c.in_ok-get_parent_block.field-0.index) (option_map (λ p. an_op p.index) c.get_parent_op.result) c.in_ok-get_parent_block.ensures.parent
    c.get_parent_op.ensures.above
