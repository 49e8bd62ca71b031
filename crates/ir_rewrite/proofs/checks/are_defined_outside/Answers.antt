use Rattle.std.proofs.Common.{sym, subst, ◌∙◌, refl}
use Rattle.std.proofs.lemmas.Bool.{false≢true}
use Rattle.ir_core_context.specs.State.{forest_of}
use Rattle.ir_core_records.specs.Meaning.{value_of}
use Rattle.ir_rewrite.specs.Replacing.{IsOutside}
use Rattle.ir_rewrite.proofs.Lists.{all_below, at_all, at_more, some_is}
use Rattle.ir_rewrite.proofs.checks.are_defined_outside.Goals as goal

pub loop-index-preserved : goal.loop-index-preserved
loop-index-preserved g c =
    at_more (λ v. IsOutside (forest_of c.args.ctx.now) c.args.op.index (value_of v.index)) c.args.values.now c.loop-index.index c.loop-index.invariant
    (λ x e. subst (λ v. IsOutside (forest_of c.args.ctx.now) c.args.op.index (value_of v.index)) (some_is c.item_at-value.result x (sym c.item_at-value.ensures ∙ e))
    (c.is_defined_outside.ensures.0 c.if-not-is_defined_outside.false))

pub returns-then-not-is_defined_outside : goal.returns-then-not-is_defined_outside
returns-then-not-is_defined_outside g c = (
  λ e. absurd (false≢true e),
  λ all. absurd (false≢true (sym c.if-not-is_defined_outside.true ∙ c.is_defined_outside.ensures.1
      (at_all (λ v. IsOutside (forest_of c.args.ctx.now) c.args.op.index (value_of v.index)) c.args.values.now all c.loop-index.index c.item_at-value.result c.item_at-value.ensures))),
)

pub returns : goal.returns
returns g c =
    (λ _. all_below (λ v. IsOutside (forest_of c.args.ctx.now) c.args.op.index (value_of v.index)) c.args.values.now c.loop-index.index c.loop-index-test.false c.loop-index.invariant, λ _. refl)
