use Rattle.std.proofs.Common.{All, sym, subst}
use Rattle.ir_model.specs.Nesting.{IsLive}
use Rattle.ir_model.specs.Subtree.{ListsSubtree}
use Rattle.ir_core_context.specs.State.{forest_of}
use Rattle.ir_core_queries.specs.Entities.{meant}
use Rattle.ir_view.specs.Listings.{IsInOrder, listing}
use Rattle.ir_view.proofs.Lefts.{left-first}
use Rattle.ir_view.proofs.Listings.{listing-is, each-once, each-live}
use Rattle.ir_view.proofs.entities.walk.Goals as goal

pub returns-clause-order : goal.returns-clause-order
returns-clause-order g c =
    let s = c.args.ctx.now in
    let e = meant c.args.root in
    let is = listing-is s c.recall_well_formed.ensures.nested c.args.order e c.recall_depths_follow.ensures.below c.recall_depths_follow.ensures.fits c.recall_holds_together.ensures.nested in
    subst (IsInOrder c.args.order (forest_of s) e) (sym (left-first (listing c.args.order s e) (meant c.first_inside.result) (c.first_inside.ensures.first (listing c.args.order s e) is))) is

pub returns-clause-each : goal.returns-clause-each
returns-clause-each g c =
    let s = c.args.ctx.now in
    let e = meant c.args.root in
    let is = listing-is s c.recall_well_formed.ensures.nested c.args.order e c.recall_depths_follow.ensures.below c.recall_depths_follow.ensures.fits c.recall_holds_together.ensures.nested in
    subst (ListsSubtree (forest_of s) e) (sym (left-first (listing c.args.order s e) (meant c.first_inside.result) (c.first_inside.ensures.first (listing c.args.order s e) is)))
    (each-once s c.recall_well_formed.ensures.nested c.args.order e (listing c.args.order s e) is)

pub returns-clause-live : goal.returns-clause-live
returns-clause-live g c =
    let s = c.args.ctx.now in
    let e = meant c.args.root in
    let is = listing-is s c.recall_well_formed.ensures.nested c.args.order e c.recall_depths_follow.ensures.below c.recall_depths_follow.ensures.fits c.recall_holds_together.ensures.nested in
    subst (All (λ x. IsLive (forest_of s) x)) (sym (left-first (listing c.args.order s e) (meant c.first_inside.result) (c.first_inside.ensures.first (listing c.args.order s e) is)))
    (each-live s c.recall_well_formed.ensures.nested c.args.order e (listing c.args.order s e) is c.requires)
