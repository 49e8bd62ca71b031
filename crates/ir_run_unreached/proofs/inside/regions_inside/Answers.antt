use Rattle.std.proofs.Common.{[], ◌∷◌, ◌++◌, map, sym, subst, ◌∙◌}
use Rattle.ir_model.specs.Forest.{a_region, an_op}
use Rattle.ir_model.specs.Nesting.{In}
use Rattle.ir_model.specs.Subtree.{ListsSubtree}
use Rattle.ir_core_queries.specs.Entities.{meant}
use Rattle.ir_core_queries.specs.State.{forest_of}
use Rattle.ir_run_unreached.proofs.Slices.{over, regions_more, whole}
use Rattle.ir_run_unreached.proofs.inside.regions_inside.Goals as goal

pub loop-entity-init : goal.loop-entity-init
loop-entity-init g c =
    let f = forest_of c.args.ctx.now in
    (tt, tt, ([], subst (ListsSubtree f (an_op c.args.root.index)) (sym c.into_iter-entity-iterator.ensures.into_iter_gives) c.inside_preorder-entity-items.ensures.each, λ r. (λ h. subst (λ xs. In r (map (λ p. p.index) xs)) c.new-regions.ensures.items h, λ h. absurd h)))

pub loop-entity-preserved : goal.loop-entity-preserved
loop-entity-preserved g c =
    let f = forest_of c.args.ctx.now in
    let i = c.loop-entity.invariant.2 in
    let x = meant c.in-Some.entity in
    (tt, tt, (i.0 ++ x ∷ [], subst (ListsSubtree f (an_op c.args.root.index)) (over i.0 _ _ x c.in-Some.ensures.steps) i.1, regions_more f i.0 x _ _ i.2 c.in_ok-push_region.ensures.pushed))

pub returns-clause-listed : goal.returns-clause-listed
returns-clause-listed g c =
    let f = forest_of c.args.ctx.now in
    let i = c.loop-entity.invariant.2 in
    let lists = subst (ListsSubtree f (an_op c.args.root.index)) (whole i.0 _ c.in-None.ensures.steps.0) i.1 in
    λ r. (λ h. (lists.exact (a_region r)).0 ((i.2 r).0 h), λ h. (i.2 r).1 ((lists.exact (a_region r)).1 h))
