use Rattle.std.proofs.Common.{◌≡◌, ◌+◌, ◌-◌, ◌∙◌, Some, ap, arith, sym, take}
use Rattle.std.specs.List.{slice_get}
use Rattle.ir_core_queries.specs.State.{forest_of}
use Rattle.ir_model.specs.Nesting.{list_of, regions_of}
use Rattle.ir_text_described.specs.declared.item.Item.TheVariants as items
use Rattle.generic_text.proofs.Lists.{pushed, take-next}
use Rattle.generic_text.proofs.pushing.push_regions.Goals as goal

pub loop-index-preserved : goal.loop-index-preserved
loop-index-preserved c =
    let i = c.loop-index.index in
    let all = regions_of (forest_of c.args.ctx.now) c.args.op.index in
    let here : slice_get all (i - 1) ≡ Some c.index.result = ap (λ r. slice_get (list_of (λ x. x.regions) r) (i - 1)) c.deref-record.ensures.found.found ∙ c.get_region.ensures ∙ ap Some (sym c.index.ensures) in
    let back : i ≡ i - 1 + 1 = omega (arith, c.loop-index-test.true) in
    pushed items.Region (take i all) (take (i - 1) all) c.index.result _ _ _ (ap (λ n. take n all) back ∙ take-next all (i - 1) c.index.result here) c.in_ok-push.ensures.items c.loop-index.invariant
