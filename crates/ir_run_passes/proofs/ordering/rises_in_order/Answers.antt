use Rattle.std.proofs.Common.{◌<◌, ◌≤◌, sym, ◌∙◌, subst, refl, arith}
use Rattle.std.proofs.lemmas.Bool.{false≢true}
use Rattle.ir_core_queries.specs.State.{forest_of}
use Rattle.ir_run_passes.proofs.Rising.{RisesSoFar, rising_starts, rising_live, rising_goes_on, rising_ends, not_higher, names_from_above}
use Rattle.ir_run_passes.proofs.ordering.rises_in_order.Goals as goal

pub loop-op-init : goal.loop-op-init
loop-op-init g c = (
  tt,
  tt,
  rising_starts (forest_of c.args.ctx.now) c.args.block.index 0 _ refl (c.into_iter-op-iterator.ensures.into_iter_gives ∙ c.iter-op-items.ensures.items),
)

pub returns-then-op-slot : goal.returns-then-op-slot
returns-then-op-slot g c =
    let f = forest_of c.args.ctx.now in
    let b = c.args.block.index in
    let m = subst (RisesSoFar f b c.loop-op.slot) c.in-Some.ensures.steps c.loop-op.invariant.2 in
    let low = c.if-op-slot.true in
    (λ t. absurd (false≢true t), λ r. absurd (not_higher f b c.loop-op.slot _ c.in-Some.op.index m (omega (arith, low)) r))

pub names_above-requires : goal.names_above-requires
names_above-requires g c =
    let f = forest_of c.args.ctx.now in
    let b = c.args.block.index in
    let m = subst (RisesSoFar f b c.loop-op.slot) c.in-Some.ensures.steps c.loop-op.invariant.2 in
    rising_live f b c.loop-op.slot _ c.in-Some.op.index m c.recall_well_formed.ensures.nested

pub returns-then-names_above : goal.returns-then-names_above
returns-then-names_above g c =
    let f = forest_of c.args.ctx.now in
    let b = c.args.block.index in
    let m = subst (RisesSoFar f b c.loop-op.slot) c.in-Some.ensures.steps c.loop-op.invariant.2 in
    (λ t. absurd (false≢true t), λ r. absurd (names_from_above f b c.loop-op.slot _ c.in-Some.op.index m (c.names_above.ensures.0 c.if-names_above.true) r))

pub loop-op-preserved : goal.loop-op-preserved
loop-op-preserved g c =
    let f = forest_of c.args.ctx.now in
    let b = c.args.block.index in
    let m = subst (RisesSoFar f b c.loop-op.slot) c.in-Some.ensures.steps c.loop-op.invariant.2 in
    let high = c.if-op-slot.false in (
      tt,
      tt,
      rising_goes_on f b c.loop-op.slot _ c.in-Some.op.index m (omega (arith, high)) (λ n. false≢true (sym c.if-names_above.false ∙ c.names_above.ensures.1 n)),
    )

pub returns : goal.returns
returns g c =
    let f = forest_of c.args.ctx.now in
    let b = c.args.block.index in
    let m = subst (RisesSoFar f b c.loop-op.slot) c.in-None.ensures.steps.0 c.loop-op.invariant.2 in
    (λ t. rising_ends f b c.loop-op.slot m, λ r. refl)
