use Rattle.std.proofs.Common.{◌≡◌, [], ◌∷◌, ◌++◌, map, sym, ap, subst, ◌∙◌}
use Rattle.ir_model.specs.Ids.{Distinct}
use Rattle.ir_model.specs.Forest.{a_block, a_region}
use Rattle.ir_model.specs.Nesting.{blocks_of}
use Rattle.ir_model.proofs.Keeps.{Distinct-unmap}
use Rattle.ir_core_queries.specs.State.{forest_of}
use Rattle.ir_run_unreached.specs.Marks.{LeavesUnmarked}
use Rattle.ir_run_unreached.proofs.Marking.{sorted_more, sorted_starts}
use Rattle.ir_run_unreached.proofs.Slices.{over, whole}
use Rattle.ir_run_unreached.proofs.reached.unmarked_blocks.Goals as goal

pub loop-block-init : goal.loop-block-init
loop-block-init g c =
    let f = forest_of c.args.ctx.now in
    let marked = c.args.marked.now in
    (tt, tt, ([], c.into_iter-block-iterator.ensures.into_iter_gives ∙ c.iter-block-items.ensures.items, subst (λ xs. LeavesUnmarked marked [] (map (λ p. p.index) xs)) (sym c.new-blocks.ensures.items) (sorted_starts f c.args.region.index marked)))

pub loop-block-preserved : goal.loop-block-preserved
loop-block-preserved g c =
    let f = forest_of c.args.ctx.now in
    let i = c.loop-block.invariant.2 in
    let x = c.in-Some.block.index in
    let once = Distinct-unmap a_block (blocks_of f c.args.region.index) (c.recall_well_formed.ensures.nested.once (a_region c.args.region.index)) in
    let parts = ap (λ l. i.0 ++ l) (sym c.in-Some.ensures.steps) ∙ i.1 in
    (tt, tt, (i.0 ++ x ∷ [], sym (over i.0 _ _ x c.in-Some.ensures.steps) ∙ i.1, sorted_more f c.args.region.index c.args.marked.now i.0 _ _ _ x (subst Distinct (sym parts) once) c.in_ok-push_unmarked.ensures.pushed i.2))

pub returns-clause-left : goal.returns-clause-left
returns-clause-left g c =
    let i = c.loop-block.invariant.2 in
    subst (λ xs. LeavesUnmarked c.args.marked.now xs (map (λ p. p.index) c.loop-block.blocks.items)) (sym (whole i.0 _ c.in-None.ensures.steps.0) ∙ i.1) i.2
