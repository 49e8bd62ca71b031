use Rattle.std.proofs.Common.{◌≡◌, [], ◌∷◌, ◌++◌, sym, subst, ◌∙◌}
use Rattle.ir_model.specs.declared.ids.ArenaIndex.{ArenaIndex}
use Rattle.ir_model.specs.Nesting.{In, blocks_of}
use Rattle.ir_core_queries.specs.State.{forest_of}
use Rattle.ir_run_unreached.specs.Marks.{Adds, IsNamedIn}
use Rattle.ir_run_unreached.proofs.Marking.{named_more}
use Rattle.ir_run_unreached.proofs.Slices.{over, whole}
use Rattle.ir_run_unreached.proofs.reached.mark_successors.Goals as goal

pub loop-op-preserved : goal.loop-op-preserved
loop-op-preserved g c =
    let f = forest_of c.args.ctx.now in
    let i = c.loop-op.invariant.2 in
    let o = c.in-Some.op.index in
    (tt, tt, (i.0 ++ o ∷ [], sym (over i.0 _ _ o c.in-Some.ensures.steps) ∙ i.1, named_more f c.args.region.index i.0 o _ _ _ i.2 c.in_ok-mark_targets.ensures.marks))

pub returns-clause-marks : goal.returns-clause-marks
returns-clause-marks g c =
    let f = forest_of c.args.ctx.now in
    let bs = blocks_of f c.args.region.index in
    let i = c.loop-op.invariant.2 in
    subst (λ os. Adds (λ (b : ArenaIndex). IsNamedIn f os b × In b bs) c.args.marked.now c.loop-op.marked) (sym (whole i.0 _ c.in-None.ensures.steps.0) ∙ i.1) i.2
