use Rattle.std.proofs.Common.{◌≡◌, ◌<◌, ◌∷◌, length, sym, ap, ◌∙◌, subst, arith, IfSome}
use Rattle.std.specs.Option.{option_map}
use Rattle.ir_model.specs.Nesting.{Inside}
use Rattle.ir_core_context.specs.State.{forest_of}
use Rattle.ir_core_queries.specs.Entities.{meant}
use Rattle.ir_view.specs.Left.{left_from}
use Rattle.ir_view.specs.Listings.{listing}
use Rattle.ir_view.proofs.Listings.{listing-is, taken}
use Rattle.ir_view.proofs.entities.EntitiesInsideIterator.next.Goals as goal

pub returns : goal.returns
returns g c =
    let it = c.self.inside in
    let s = it.ctx.now in
    let root = meant it.root in
    let here = meant c.in_ok-here.here in
    let next = option_map meant c.next_inside-self-inside.result in
    let xs = listing it.order s root in
    let nested = c.recall_well_formed.ensures.nested in
    let is = listing-is s nested it.order root c.recall_depths_follow.ensures.below c.recall_depths_follow.ensures.fits c.recall_holds_together.ensures.nested in
    let within : Inside (forest_of s) root here = subst (λ o. IfSome o (λ x. Inside (forest_of s) root (meant x))) c.in_ok-here.was c.self.invariant.1 in
    let step = taken s nested it.order root xs is here next within (λ before behind splits. c.next_inside-self-inside.ensures.next xs before behind is splits) in
    let items : c.args.self.now ≡ here ∷ left_from next xs = sym c.self.view_is ∙ ap (λ o. left_from (option_map meant o) xs) c.in_ok-here.was ∙ step in
    let less : length (left_from next xs) < length c.args.self.now = omega (arith, ap length items) in
    record { steps = items; goes = record { on = λ _. (tt, tt, less); keeps = tt; rests = λ _. tt } }
