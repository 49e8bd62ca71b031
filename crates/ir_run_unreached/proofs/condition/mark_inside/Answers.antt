use Rattle.std.proofs.Common.{[], ◌∷◌, ◌++◌, sym, subst}
use Rattle.ir_model.specs.Forest.{a_block}
use Rattle.ir_model.specs.Nesting.{In, Inside}
use Rattle.ir_model.specs.Subtree.{ListsSubtree}
use Rattle.ir_core_queries.specs.Entities.{meant}
use Rattle.ir_core_queries.specs.State.{forest_of}
use Rattle.ir_run_unreached.proofs.KeptNames.{marks_more}
use Rattle.ir_run_unreached.proofs.Marking.{adds_as, adds_none}
use Rattle.ir_run_unreached.proofs.Slices.{over, whole}
use Rattle.ir_run_unreached.proofs.condition.mark_inside.Goals as goal

pub loop-entity-init : goal.loop-entity-init
loop-entity-init g c =
    let f = forest_of c.args.ctx.now in
    (tt, tt, ([], subst (ListsSubtree f (a_block c.args.block.index)) (sym c.into_iter-entity-iterator.ensures.into_iter_gives) c.inside-entity-items.ensures.each, adds_none _ _ (λ x h. h)))

pub loop-entity-preserved : goal.loop-entity-preserved
loop-entity-preserved g c =
    let f = forest_of c.args.ctx.now in
    let i = c.loop-entity.invariant.2 in
    let x = meant c.in-Some.entity in
    (tt, tt, (i.0 ++ x ∷ [], subst (ListsSubtree f (a_block c.args.block.index)) (over i.0 _ _ x c.in-Some.ensures.steps) i.1, marks_more f i.0 x _ _ _ i.2 c.in_ok-mark_block.ensures.marks))

pub returns : goal.returns
returns g c =
    let f = forest_of c.args.ctx.now in
    let i = c.loop-entity.invariant.2 in
    let lists = subst (ListsSubtree f (a_block c.args.block.index)) (whole i.0 _ c.in-None.ensures.steps.0) i.1 in
    record {
      marks = adds_as (λ b. In (a_block b) i.0) (λ b. Inside f (a_block c.args.block.index) (a_block b)) _ _ (λ b. lists.exact (a_block b)) i.2;
      memory = tt;
    }
