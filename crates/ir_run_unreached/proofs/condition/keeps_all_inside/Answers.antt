use Rattle.std.proofs.Common.{[], ◌∷◌, ◌++◌, inl, refl, sym, subst, ◌∙◌}
use Rattle.std.proofs.lemmas.Bool.{false≢true}
use Rattle.ir_model.specs.Forest.{a_block}
use Rattle.ir_model.specs.Subtree.{ListsSubtree}
use Rattle.ir_model.proofs.Nests.{In-left, In-right}
use Rattle.ir_core_queries.specs.Entities.{meant}
use Rattle.ir_core_queries.specs.State.{forest_of}
use Rattle.ir_run_unreached.proofs.KeptNames.{passed_more}
use Rattle.ir_run_unreached.proofs.Slices.{over, whole}
use Rattle.ir_run_unreached.proofs.condition.keeps_all_inside.Goals as goal

pub loop-entity-init : goal.loop-entity-init
loop-entity-init g c =
    let f = forest_of c.args.ctx.now in
    (tt, tt, ([], subst (ListsSubtree f (a_block c.args.block.index)) (sym c.into_iter-entity-iterator.ensures.into_iter_gives) c.inside-entity-items.ensures.each, λ x h. absurd h))

pub loop-entity-preserved : goal.loop-entity-preserved
loop-entity-preserved g c =
    let f = forest_of c.args.ctx.now in
    let i = c.loop-entity.invariant.2 in
    let x = meant c.in-Some.entity in
    (tt, tt, (i.0 ++ x ∷ [], subst (ListsSubtree f (a_block c.args.block.index)) (over i.0 _ _ x c.in-Some.ensures.steps) i.1, passed_more f c.args.marked.now i.0 x i.2 (c.keeps_names.ensures.0 c.if-not-keeps_names.false)))

pub returns-then-not-keeps_names : goal.returns-then-not-keeps_names
returns-then-not-keeps_names g c =
    let f = forest_of c.args.ctx.now in
    let i = c.loop-entity.invariant.2 in
    let x = meant c.in-Some.entity in
    let lists = subst (ListsSubtree f (a_block c.args.block.index)) (over i.0 _ _ x c.in-Some.ensures.steps) i.1 in
    let here = (lists.exact x).0 (In-left x (i.0 ++ x ∷ []) _ (In-right x i.0 (x ∷ []) (inl refl))) in
    (λ e. absurd (false≢true e), λ all. absurd (false≢true (sym c.if-not-keeps_names.true ∙ c.keeps_names.ensures.1 (all x here))))

pub returns : goal.returns
returns g c =
    let f = forest_of c.args.ctx.now in
    let i = c.loop-entity.invariant.2 in
    let lists = subst (ListsSubtree f (a_block c.args.block.index)) (whole i.0 _ c.in-None.ensures.steps.0) i.1 in
    (λ _ x h. i.2 x ((lists.exact x).1 h), λ _. refl)
