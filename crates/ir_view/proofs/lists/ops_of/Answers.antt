use Rattle.std.proofs.Common.{All, sym, ◌∙◌, subst}
use Rattle.ir_model.specs.Forest.{an_op}
use Rattle.ir_model.specs.Nesting.{IsLive}
use Rattle.ir_core_context.specs.State.{forest_of}
use Rattle.ir_view.proofs.Gathered.{all-left, goes-over, all-gathered, all-seen}
use Rattle.ir_view.proofs.lists.ops_of.Goals as goal

pub loop-op-init : goal.loop-op-init
loop-op-init g c = (
  tt,
  tt,
  all-left c.new-ops.result.items (λ p. p.index) _ c.new-ops.ensures.items ∙ c.into_iter-op-iterator.ensures.into_iter_gives ∙ c.iter-op-items.ensures.items,
)

pub loop-op-preserved : goal.loop-op-preserved
loop-op-preserved g c = (tt, tt, sym (goes-over c.loop-op.ops.items _ _ (λ p. p.index) _ _ c.in-Some.ensures.steps c.in_ok-push.ensures.items) ∙ c.loop-op.invariant.2)

pub returns-clause-listed : goal.returns-clause-listed
returns-clause-listed g c = sym (all-gathered c.loop-op.ops.items (λ p. p.index) _ c.in-None.ensures.steps.0) ∙ c.loop-op.invariant.2

pub returns-clause-live : goal.returns-clause-live
returns-clause-live g c =
    let f = forest_of c.args.ctx.now in
    let listed = c.iter-op-items.ensures.items ∙ sym c.loop-op.invariant.2 ∙ all-gathered c.loop-op.ops.items (λ p. p.index) _ c.in-None.ensures.steps.0 in
    all-seen c.loop-op.ops.items (λ p. p.index) (λ x. IsLive f (an_op x)) (subst (All (λ x. IsLive f (an_op x))) listed c.iter-op-items.ensures.live)
