use Rattle.std.proofs.Common.{map, take, sym, subst, arith}
use Rattle.ir_model.specs.Forest.{an_op}
use Rattle.ir_model.proofs.Edges.{got_in}
use Rattle.ir_model.proofs.TwoRuns.{lawful}
use Rattle.ir_core_queries.specs.State.{forest_of}
use Rattle.ir_run_unreached.specs.Inside.{RemovesSomeInside}
use Rattle.ir_run_unreached.proofs.InsideSteps.{Treating, none_at_end, treated, treating_starts}
use Rattle.ir_run_unreached.proofs.Marking.{taken_all}
use Rattle.ir_run_unreached.proofs.Rest.{holds_on_err, same_itself, same_joined}
use Rattle.ir_run_unreached.proofs.Slices.{length_seen, seen_or, take_one}
use Rattle.ir_run_unreached.proofs.inside.treat_each.Goals as goal

pub loop-region-init : goal.loop-region-init
loop-region-init g c = ((0, treating_starts c.args.root.index (forest_of c.args.ctx.now) _ c.requires.listed c.requires.names), same_itself _)

pub treat-requires : goal.treat-requires
treat-requires g c =
    let rs = c.args.regions.now in
    let k = c.loop-region.region-index in
    let t = c.loop-region.invariant.0.1 in
    λ live. t.names _ (t.inside _ (got_in (map (λ p. p.index) rs) k _ (seen_or rs (λ p. p.index) k _ c.loop-region-test.true)) live)

pub returns-in_err-treat-clause-partly : goal.returns-in_err-treat-clause-partly
returns-in_err-treat-clause-partly g c =
    let t = c.loop-region.invariant.0 in
    holds_on_err c.from_residual.result (t.0, subst (λ s. RemovesSomeInside (an_op c.args.root.index) (forest_of c.args.ctx.now) (forest_of s) t.0) (sym c.in_err-treat.ensures.unchanged) t.1.some)

pub returns-in_err-treat-clause-rest : goal.returns-in_err-treat-clause-rest
returns-in_err-treat-clause-rest g c = same_joined _ _ _ c.loop-region.invariant.1 c.treat.ensures.rest

pub loop-region-preserved : goal.loop-region-preserved
loop-region-preserved g c =
    let rs = c.args.regions.now in
    let k = c.loop-region.region-index in
    let root = c.args.root.index in
    let f = forest_of c.args.ctx.now in
    let t = c.loop-region.invariant.0 in
    let h = forest_of c.treat.new.ctx in
    let next = treated root f (map (λ p. p.index) rs) (take k (map (λ p. p.index) rs)) (forest_of c.loop-region.ctx) t.0 t.1 lawful _ h (got_in (map (λ p. p.index) rs) k _ (seen_or rs (λ p. p.index) k _ c.loop-region-test.true)) c.in_ok-treat.ensures.treated c.recall_well_formed.ensures.nested c.recall_nested.ensures in
    ((next.0, subst (λ xs. Treating root f (map (λ p. p.index) rs) xs h next.0) (sym (take_one (map (λ p. p.index) rs) k _ (seen_or rs (λ p. p.index) k _ c.loop-region-test.true))) next.1), same_joined _ _ _ c.loop-region.invariant.1 c.treat.ensures.rest)

pub returns-clause-removed : goal.returns-clause-removed
returns-clause-removed g c =
    let rs = c.args.regions.now in
    let k = c.loop-region.region-index in
    let t = c.loop-region.invariant.0 in
    let all = taken_all (map (λ p. p.index) rs) k (omega (arith, length_seen rs (λ p. p.index), c.loop-region-test.false, c.loop-region.auto.region-index-end)) in
    (t.0, (t.1.some, none_at_end c.args.root.index (forest_of c.args.ctx.now) (map (λ p. p.index) rs) (take k (map (λ p. p.index) rs)) (forest_of c.loop-region.ctx) t.0 t.1 all))

pub returns-clause-rest : goal.returns-clause-rest
returns-clause-rest g c = c.loop-region.invariant.1
