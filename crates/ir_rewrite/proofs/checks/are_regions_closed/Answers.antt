use Rattle.std.proofs.Common.{◌≡◌, Some, sym, subst, ap, ◌∙◌, refl, arith, length}
use Rattle.std.specs.Prelude.{slice_get}
use Rattle.std.proofs.lemmas.Bool.{false≢true}
use Rattle.ir_model.specs.Forest.{a_region}
use Rattle.ir_model.specs.Nesting.{IsClosed, list_of, regions_of}
use Rattle.ir_core_context.specs.State.{forest_of}
use Rattle.ir_core_records.specs.Meaning.{op_record}
use Rattle.ir_rewrite.proofs.Lists.{all_below, at_all, at_more, some_is}
use Rattle.ir_rewrite.proofs.checks.are_regions_closed.Goals as goal

pub loop-index-preserved : goal.loop-index-preserved
loop-index-preserved g c =
    let f = forest_of c.args.ctx.now in
    let there : slice_get (regions_of f c.args.op.index) c.loop-index.index ≡ Some c.get_region-region.result.index = ap (λ o. slice_get (list_of (λ r. r.regions) o) c.loop-index.index) c.deref-record.ensures.found.found ∙ c.get_region-region.ensures in
    at_more (λ r. IsClosed f (a_region r)) (regions_of f c.args.op.index) c.loop-index.index c.loop-index.invariant
    (λ x e. subst (λ r. IsClosed f (a_region r)) (some_is c.get_region-region.result.index x (sym there ∙ e)) (c.can_erase.ensures.0 c.if-not-can_erase.false))

pub returns-then-not-can_erase : goal.returns-then-not-can_erase
returns-then-not-can_erase g c =
    let f = forest_of c.args.ctx.now in
    let there : slice_get (regions_of f c.args.op.index) c.loop-index.index ≡ Some c.get_region-region.result.index = ap (λ o. slice_get (list_of (λ r. r.regions) o) c.loop-index.index) c.deref-record.ensures.found.found ∙ c.get_region-region.ensures in (
      λ e. absurd (false≢true e),
      λ all. absurd (false≢true (sym c.if-not-can_erase.true ∙ c.can_erase.ensures.1 (at_all (λ r. IsClosed f (a_region r)) (regions_of f c.args.op.index) all c.loop-index.index c.get_region-region.result.index there))),
    )

pub returns : goal.returns
returns g c =
    let f = forest_of c.args.ctx.now in
    let e : regions_of f c.args.op.index ≡ (op_record c.deref-record.result.now).regions = ap (list_of (λ r. r.regions)) c.deref-record.ensures.found.found in
    (λ _. all_below (λ r. IsClosed f (a_region r)) (regions_of f c.args.op.index) c.loop-index.index (omega (arith, c.loop-index-test.false, c.num_regions-count.ensures, ap length e)) c.loop-index.invariant, λ _. refl)
