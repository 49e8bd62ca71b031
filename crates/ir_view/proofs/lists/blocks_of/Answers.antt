use Rattle.std.proofs.Common.{All, sym, ◌∙◌, subst}
use Rattle.ir_model.specs.Forest.{a_block}
use Rattle.ir_model.specs.Nesting.{IsLive}
use Rattle.ir_core_context.specs.State.{forest_of}
use Rattle.ir_view.proofs.Gathered.{all-left, goes-over, all-gathered, all-seen}
use Rattle.ir_view.proofs.lists.blocks_of.Goals as goal

pub loop-block-init : goal.loop-block-init
loop-block-init g c = (
  tt,
  tt,
  all-left c.new-blocks.result.items (λ p. p.index) _ c.new-blocks.ensures.items ∙ c.into_iter-block-iterator.ensures.into_iter_gives ∙ c.iter-block-items.ensures.items,
)

pub loop-block-preserved : goal.loop-block-preserved
loop-block-preserved g c = (tt, tt, sym (goes-over c.loop-block.blocks.items _ _ (λ p. p.index) _ _ c.in-Some.ensures.steps c.in_ok-push.ensures.items) ∙ c.loop-block.invariant.2)

pub returns-clause-listed : goal.returns-clause-listed
returns-clause-listed g c = sym (all-gathered c.loop-block.blocks.items (λ p. p.index) _ c.in-None.ensures.steps.0) ∙ c.loop-block.invariant.2

pub returns-clause-live : goal.returns-clause-live
returns-clause-live g c =
    let f = forest_of c.args.ctx.now in
    let listed = c.iter-block-items.ensures.items ∙ sym c.loop-block.invariant.2 ∙ all-gathered c.loop-block.blocks.items (λ p. p.index) _ c.in-None.ensures.steps.0 in
    all-seen c.loop-block.blocks.items (λ p. p.index) (λ x. IsLive f (a_block x)) (subst (All (λ x. IsLive f (a_block x))) listed c.iter-block-items.ensures.live)
