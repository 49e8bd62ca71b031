use Rattle.std.proofs.Common.{map, refl, sym, subst, ◌∙◌, arith}
use Rattle.std.proofs.lemmas.Bool.{false≢true}
use Rattle.ir_model.specs.declared.ids.ArenaIndex.{ArenaIndex}
use Rattle.ir_model.specs.Nesting.{In}
use Rattle.ir_model.proofs.Edges.{got_in}
use Rattle.ir_model_passes.specs.Unreached.{NamesStayInside}
use Rattle.ir_core_queries.specs.State.{forest_of}
use Rattle.ir_run_unreached.proofs.Marking.{taken_all}
use Rattle.ir_run_unreached.proofs.Slices.{first_each, length_seen, seen_or}
use Rattle.ir_run_unreached.proofs.inside.can_remove_each.Goals as goal

pub loop-region-init : goal.loop-region-init
loop-region-init g c = λ r h. absurd h

pub loop-region-preserved : goal.loop-region-preserved
loop-region-preserved g c =
    let rs = c.args.regions.now in
    let k = c.loop-region.region-index in
    first_each (λ (r : ArenaIndex). NamesStayInside (forest_of c.args.ctx.now) r) (map (λ p. p.index) rs) k _ (seen_or rs (λ p. p.index) k _ c.loop-region-test.true) c.loop-region.invariant (c.in_ok-can.ensures.exact.0 c.if-not-can.false)

pub returns-then-not-can-clause-exact : goal.returns-then-not-can-clause-exact
returns-then-not-can-clause-exact g c =
    let rs = c.args.regions.now in
    let k = c.loop-region.region-index in
    (λ e. absurd (false≢true e), λ all. absurd (false≢true (sym c.if-not-can.true ∙ c.in_ok-can.ensures.exact.1 (all _ (got_in (map (λ p. p.index) rs) k _ (seen_or rs (λ p. p.index) k _ c.loop-region-test.true))))))

pub returns-clause-exact : goal.returns-clause-exact
returns-clause-exact g c =
    let all = taken_all (map (λ p. p.index) c.args.regions.now) c.loop-region.region-index (omega (arith, length_seen c.args.regions.now (λ p. p.index), c.loop-region-test.false, c.loop-region.auto.region-index-end)) in
    (λ _ r h. c.loop-region.invariant r (subst (In r) (sym all) h), λ _. refl)
