use Rattle.std.proofs.Common.{◌≡◌, IfOk, List, ap, map, sym, subst, ◌∙◌}
use Rattle.ir_model.specs.Forest.{the_block}
use Rattle.ir_model.specs.Nesting.{In, ops_of}
use Rattle.ir_model.specs.Uses.{IsUse}
use Rattle.ir_model.proofs.Nests.{In-map}
use Rattle.ir_core_records.specs.declared.record.UseIndex.{UseIndex}
use Rattle.ir_core_records.specs.declared.records.Records.{Records}
use Rattle.ir_core_records.specs.Meaning.{use_of}
use Rattle.ir_core_records.specs.Table.{block_uses_at}
use Rattle.ir_core_context.specs.Asked.{AreAnswers, MaySay}
use Rattle.ir_core_context.specs.Named.{block-use-names}
use Rattle.ir_core_context.specs.State.{forest_of}
use Rattle.ir_core_context.proofs.retargeting.answers_for_preds.Goals as goal

pub answers_for_blocks-requires-clause-linked : goal.answers_for_blocks-requires-clause-linked
answers_for_blocks-requires-clause-linked g c used here =
    let f = forest_of c.args.ctx.now in
    let b = c.args.block.index in
    let kept = c.as_slice.ensures ∙ c.block_uses.ensures ∙ ap (λ (t : Records _ _ _ _ _ _ _). block_uses_at t c.args.block) c.records.ensures in
    let among = In-map use_of used (block_uses_at c.args.ctx.now.records c.args.block) (subst (λ (us : List UseIndex). In used us) kept here) in
    let is : IsUse f (the_block b) (use_of used) = ((c.recall_uses_exact.ensures.blocks b c.requires.live).exact (use_of used)).0 among in
    c.requires.linked used.user (block-use-names f b (use_of used) is)

pub answers_for_blocks-requires-clause-callable : goal.answers_for_blocks-requires-clause-callable
answers_for_blocks-requires-clause-callable g c context block used shown here stands =
    let f = forest_of c.args.ctx.now in
    let b = c.args.block.index in
    let kept = c.as_slice.ensures ∙ c.block_uses.ensures ∙ ap (λ (t : Records _ _ _ _ _ _ _). block_uses_at t c.args.block) c.records.ensures in
    let among = In-map use_of used (block_uses_at c.args.ctx.now.records c.args.block) (subst (λ (us : List UseIndex). In used us) kept here) in
    let is : IsUse f (the_block b) (use_of used) = ((c.recall_uses_exact.ensures.blocks b c.requires.live).exact (use_of used)).0 among in
    c.requires.callable context block shown (used.user, stands, block-use-names f b (use_of used) is)

pub returns-clause-answers : goal.returns-clause-answers
returns-clause-answers g c =
    let kept = c.as_slice.ensures ∙ c.block_uses.ensures ∙ ap (λ (t : Records _ _ _ _ _ _ _). block_uses_at t c.args.block) c.records.ensures in
    subst (λ (us : List UseIndex). IfOk c.answers_for_blocks.result (λ answers. AreAnswers (MaySay g.P.Fn (λ s. g.C.Shown.shows s c.args.ctx.now) (λ b w. In w.user (ops_of (forest_of c.args.ctx.now) (g.B.ShownBlock.index_of b))) c.args.pred.now) us answers.items)) kept c.answers_for_blocks.ensures.answers
