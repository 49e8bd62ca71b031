use Rattle.std.proofs.Common.{refl, ap, subst, is_some, IfSome}
use Rattle.ir_model.specs.Forest.{an_op, a_block}
use Rattle.ir_model.specs.Nesting.{Inside}
use Rattle.ir_model_passes.specs.SweepInside.{none_swept, one_swept}
use Rattle.ir_core_queries.specs.State.{bare, forest_of}
use Rattle.ir_core_records.specs.DialectAnswers.{behaviour_of}
use Rattle.ir_run_passes.specs.Walks.{CanBeSwept}
use Rattle.ir_run_passes.proofs.Swept.{around_live, block_still}
use Rattle.ir_run_passes.proofs.Rest.{same_joined}
use Rattle.ir_run_passes.proofs.Gone.{sweep_takes, not_more, so_many_gone}
use Rattle.ir_run_passes.proofs.Walks.{inside_live}
use Rattle.ir_run_passes.proofs.sweeping.sweep_inside.Goals as goal

pub loop-next-init : goal.loop-next-init
loop-next-init g c = record {
  swept = none_swept;
  rest = record { store = refl; beside = refl; passed = refl; limits = refl };
  live = c.requires;
  inside = c.to_sweep-next.ensures.inside;
  dirty = c.to_sweep-next.ensures.swept;
  none = c.to_sweep-next.ensures.none;
}

pub sweep-requires : goal.sweep-requires
sweep-requires g c =
    let f = forest_of c.loop-next.ctx in
    let root = an_op c.args.root.index in
    let i : Inside f root (a_block c.in-Some.block.index) = subst (λ m. IfSome m (λ b. Inside f root (a_block b.index))) c.in-Some.is c.loop-next.invariant.inside in
    inside_live f c.recall_well_formed-in-Some.ensures.nested root (a_block c.in-Some.block.index) c.loop-next.invariant.live i

pub to_sweep_after-next-requires-clause-live : goal.to_sweep_after-next-requires-clause-live
to_sweep_after-next-requires-clause-live g c =
    let f = forest_of c.loop-next.ctx in
    let root = an_op c.args.root.index in
    let i : Inside f root (a_block c.in-Some.block.index) = subst (λ m. IfSome m (λ b. Inside f root (a_block b.index))) c.in-Some.is c.loop-next.invariant.inside in
    around_live (behaviour_of g.D.Dialects g.D.TypeKey.PartialEq.eq) f (forest_of c.sweep.new.ctx) c.in-Some.block.index c.sweep.result c.recall_well_formed-in-Some.ensures.nested c.sweep.ensures.dead_are_gone root i c.loop-next.invariant.live

pub to_sweep_after-next-requires-clause-inside : goal.to_sweep_after-next-requires-clause-inside
to_sweep_after-next-requires-clause-inside g c =
    let f = forest_of c.loop-next.ctx in
    let root = an_op c.args.root.index in
    let i : Inside f root (a_block c.in-Some.block.index) = subst (λ m. IfSome m (λ b. Inside f root (a_block b.index))) c.in-Some.is c.loop-next.invariant.inside in
    block_still (behaviour_of g.D.Dialects g.D.TypeKey.PartialEq.eq) f (forest_of c.sweep.new.ctx) c.in-Some.block.index c.sweep.result c.recall_well_formed-in-Some.ensures.nested c.sweep.ensures.dead_are_gone root i

pub loop-next-smaller : goal.loop-next-smaller
loop-next-smaller g c =
    let f = forest_of c.loop-next.ctx in
    let B = behaviour_of g.D.Dialects g.D.TypeKey.PartialEq.eq in
    let can : CanBeSwept B f c.in-Some.block.index = subst (λ m. IfSome m (λ p. CanBeSwept B f p.index)) c.in-Some.is c.loop-next.invariant.dirty in
    sweep_takes B c.loop-next.ctx.records c.sweep.new.ctx.records c.in-Some.block.index c.sweep.result c.recall_well_formed-in-Some.ensures.nested c.sweep.ensures.dead_are_gone can

pub loop-next-preserved : goal.loop-next-preserved
loop-next-preserved g c =
    let f = forest_of c.loop-next.ctx in
    let h = forest_of c.sweep.new.ctx in
    let B = behaviour_of g.D.Dialects g.D.TypeKey.PartialEq.eq in
    let root = an_op c.args.root.index in
    let b = c.in-Some.block.index in
    let i : Inside f root (a_block b) = subst (λ m. IfSome m (λ p. Inside f root (a_block p.index))) c.in-Some.is c.loop-next.invariant.inside in
    record {
      swept = one_swept b c.loop-next.invariant.swept i c.sweep.ensures.dead_are_gone;
      rest = same_joined (bare c.args.ctx.now) (bare c.loop-next.ctx) (bare c.sweep.new.ctx) c.loop-next.invariant.rest c.sweep.ensures.rest;
      live = around_live B f h b c.sweep.result c.recall_well_formed-in-Some.ensures.nested c.sweep.ensures.dead_are_gone root i c.loop-next.invariant.live;
      inside = c.to_sweep_after-next.ensures.inside;
      dirty = c.to_sweep_after-next.ensures.swept;
      none = c.to_sweep_after-next.ensures.none;
    }

pub overflow_sub-result : goal.overflow_sub-result
overflow_sub-result g c =
    not_more c.steps_sweep_inside.ensures.sweeps c.sweep_inside_is_one.ensures (behaviour_of g.D.Dialects g.D.TypeKey.PartialEq.eq) c.args.ctx.now.records c.loop-next.ctx.records _ (an_op c.args.root.index)
    c.recall_well_formed.ensures c.loop-next.invariant.swept (c.loop-next.invariant.none (ap is_some c.in_default.is)) c.live_ops-before.result c.live_ops.result c.live_ops-before.ensures c.live_ops.ensures

pub returns-clause-swept : goal.returns-clause-swept
returns-clause-swept g c =
    so_many_gone c.steps_sweep_inside.ensures.sweeps c.sweep_inside_is_one.ensures (behaviour_of g.D.Dialects g.D.TypeKey.PartialEq.eq) c.args.ctx.now.records c.loop-next.ctx.records _ (an_op c.args.root.index)
    c.recall_well_formed.ensures c.loop-next.invariant.swept (c.loop-next.invariant.none (ap is_some c.in_default.is)) c.live_ops-before.result c.live_ops.result c.live_ops-before.ensures c.live_ops.ensures

pub returns-clause-none_can_go : goal.returns-clause-none_can_go
returns-clause-none_can_go g c = c.loop-next.invariant.none (ap is_some c.in_default.is)
