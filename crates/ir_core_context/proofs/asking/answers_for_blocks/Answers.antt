use Rattle.std.proofs.Common.{◌≡◌, ◌+◌, ◌∷◌, [], Bool, None, Some, length, slice_get, sym, ap, ◌∙◌}
use Rattle.std.proofs.lemmas.List.{length-append}
use Rattle.std.proofs.lemmas.Option.{slice_get-get_or}
use Rattle.ir_model.specs.ContextIds.{context_ids}
use Rattle.ir_model.specs.Nesting.{In, ops_of}
use Rattle.ir_model.specs.Uses.{Use}
use Rattle.ir_model.proofs.Back.{slice_get-in}
use Rattle.ir_core_context.specs.Asked.{MaySay}
use Rattle.ir_core_context.specs.State.{forest_of}
use Rattle.ir_core_context.proofs.Asked.{each-more}
use Rattle.ir_core_context.proofs.Stands.{kept-at}
use Rattle.ir_core_context.proofs.asking.answers_for_blocks.Goals as goal

pub loop-index-init : goal.loop-index-init
loop-index-init g c = (
  ap length c.in_ok-answers.ensures.items,
  λ k u answer at here. absurd (let none : slice_get {X = Bool} [] k ≡ Some answer = sym (ap (λ xs. slice_get xs k) c.in_ok-answers.ensures.items) ∙ here in cc),
)

pub block_of_user-requires : goal.block_of_user-requires
block_of_user-requires g c =
    let at = slice_get-get_or c.args.kept.now c.loop-index.index-index _ c.loop-index-test.true in
    record { linked = rw (c.user.ensures, c.index-item.is) (c.requires.linked _ (slice_get-in c.args.kept.now c.loop-index.index-index _ at)) }

pub pred-requires : goal.pred-requires
pred-requires g c =
    kept-at (forest_of c.args.ctx.now) c.args.kept.now c.loop-index.index-index _ c.loop-index-test.true (rw (c.user.ensures, c.index-item.is) at c.block_of_user.ensures) c.at-block.ensures
    (λ used at here stands. c.requires.callable c.of.result c.at-block.result used c.of.ensures here stands)

pub loop-index-preserved : goal.loop-index-preserved
loop-index-preserved g c =
    let may : Use context_ids → Bool → Type 0 = MaySay g.P.Fn (λ s. g.C.Shown.shows s c.args.ctx.now) (λ b w. In w.user (ops_of (forest_of c.args.ctx.now) (g.B.ShownBlock.index_of b))) c.args.pred.now in
    let more = c.in_ok-push.ensures.items in
    let count = c.loop-index.invariant.0 in (
      ap length more ∙ length-append c.loop-index.answers.items (c.pred.result ∷ []) ∙ ap (λ n. n + 1) count,
      λ k u answer here there. kept-at (forest_of c.args.ctx.now) c.args.kept.now c.loop-index.index-index _ c.loop-index-test.true (rw (c.user.ensures, c.index-item.is) at c.block_of_user.ensures) c.at-block.ensures
          (λ used at in_kept stands. each-more may c.args.kept.now c.loop-index.answers.items used c.pred.result
          (ap (λ n. slice_get c.args.kept.now n) count ∙ at) (record { context = c.of.result; handle = c.at-block.result; is_shown = c.of.ensures; is = stands; says = c.pred.ensures })
          c.loop-index.invariant.1 k u answer here (sym (ap (λ xs. slice_get xs k) more) ∙ there)),
    )
