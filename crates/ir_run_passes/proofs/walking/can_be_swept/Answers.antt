use Rattle.std.proofs.Common.{refl, sym, ap, ◌∙◌}
use Rattle.std.proofs.lemmas.Bool.{false≢true}
use Rattle.std.specs.Iterator.Adapters.{rev_source}
use Rattle.ir_core_queries.specs.State.{forest_of}
use Rattle.ir_core_records.specs.DialectAnswers.{behaviour_of}
use Rattle.ir_run_passes.proofs.Walks.{looking_starts, looking_here, looking_goes_on, looking_ends}
use Rattle.ir_run_passes.proofs.walking.can_be_swept.Goals as goal

pub loop-op-init : goal.loop-op-init
loop-op-init g c = (
  tt,
  tt,
  looking_starts (behaviour_of g.D.Dialects g.D.TypeKey.PartialEq.eq) (forest_of c.args.ctx.now) c.args.block.index _
      (ap rev_source c.into_iter-op-iterator.ensures.into_iter_gives ∙ c.rev-op-items.ensures.source ∙ c.iter.ensures.items),
)

pub returns-then-can_go : goal.returns-then-can_go
returns-then-can_go g c =
    let here = looking_here (behaviour_of g.D.Dialects g.D.TypeKey.PartialEq.eq) (forest_of c.args.ctx.now) c.args.block.index _ _ _ c.in-Some.ensures.steps c.loop-op.invariant.2 in
    (λ _. (_, here, c.can_go.ensures.0 c.if-can_go.true), λ _. refl)

pub loop-op-preserved : goal.loop-op-preserved
loop-op-preserved g c =
    let B = behaviour_of g.D.Dialects g.D.TypeKey.PartialEq.eq in
    (tt, tt, looking_goes_on B (forest_of c.args.ctx.now) c.args.block.index _ _ _ c.in-Some.ensures.steps c.loop-op.invariant.2 (λ can. absurd (false≢true (sym c.if-can_go.false ∙ c.can_go.ensures.1 can))))

pub returns : goal.returns
returns g c =
    (λ e. absurd (false≢true e), λ s. absurd (looking_ends (behaviour_of g.D.Dialects g.D.TypeKey.PartialEq.eq) (forest_of c.args.ctx.now) c.args.block.index _ c.in-None.ensures.steps.0 c.loop-op.invariant.2 s))
