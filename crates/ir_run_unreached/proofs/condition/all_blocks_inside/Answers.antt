use Rattle.std.proofs.Common.{map, sym, subst, arith}
use Rattle.ir_model.specs.Forest.{a_block}
use Rattle.ir_model.specs.Nesting.{In}
use Rattle.ir_core_queries.specs.State.{forest_of}
use Rattle.ir_run_unreached.specs.Kept.{IsInsideOne}
use Rattle.ir_run_unreached.proofs.Marking.{taken_all}
use Rattle.ir_run_unreached.proofs.Slices.{inside_more, length_seen, seen_or}
use Rattle.ir_run_unreached.proofs.condition.all_blocks_inside.Goals as goal

pub loop-block-init : goal.loop-block-init
loop-block-init g c = λ b. (λ h. absurd (subst (In b) c.new-marked.ensures h), λ h. absurd h.1)

pub loop-block-preserved : goal.loop-block-preserved
loop-block-preserved g c =
    let bs = c.args.blocks.now in
    let k = c.loop-block.block-index in
    inside_more (forest_of c.args.ctx.now) (map (λ p. p.index) bs) k _ _ _ (seen_or bs (λ p. p.index) k _ c.loop-block-test.true) c.loop-block.invariant c.in_ok-mark_inside.ensures.marks

pub returns-clause-marks : goal.returns-clause-marks
returns-clause-marks g c =
    let f = forest_of c.args.ctx.now in
    let all = taken_all (map (λ p. p.index) c.args.blocks.now) c.loop-block.block-index (omega (arith, length_seen c.args.blocks.now (λ p. p.index), c.loop-block-test.false, c.loop-block.auto.block-index-end)) in
    λ b. (
      λ h. subst (λ xs. IsInsideOne f xs (a_block b)) all ((c.loop-block.invariant b).0 h),
      λ h. (c.loop-block.invariant b).1 (subst (λ xs. IsInsideOne f xs (a_block b)) (sym all) h),
    )
