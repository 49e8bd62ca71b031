use Rattle.std.proofs.Common.{◌≡◌, subst, true}
use Rattle.std.specs.Prelude.{◌↔◌}
use Rattle.ir_model.specs.ContextIds.{context_ids}
use Rattle.ir_model.specs.Forest.{an_op, definer_entity}
use Rattle.ir_model.specs.Nesting.{Inside}
use Rattle.ir_core_context.specs.State.{forest_of}
use Rattle.ir_core_records.specs.Meaning.{value_of}
use Rattle.ir_rewrite.specs.Replacing.{IsOutside}
use Rattle.ir_rewrite.proofs.Standing.{negated}
use Rattle.ir_rewrite.proofs.checks.is_defined_outside.Goals as goal

pub returns : goal.returns
returns g c =
    let f = forest_of c.args.ctx.now in
    let o = c.args.op.index in
    let v = value_of c.args.value.index in
    negated c.is_inside.result (Inside f (an_op o) (definer_entity context_ids v.definer)) (IsOutside f o v)
    (subst (λ e. (c.is_inside.result ≡ true) ↔ Inside f (an_op o) e) c.definer.ensures c.is_inside.ensures)
    (λ p q. q p) (λ n. n)
