use Rattle.std.proofs.Common.{◌≡◌, ◌+◌, ◌∷◌, [], Bool, None, Some, length, get_or, slice_get, sym, ap, subst, ◌∙◌}
use Rattle.std.proofs.lemmas.List.{length-append}
use Rattle.std.proofs.lemmas.Option.{slice_get-get_or}
use Rattle.ir_model.specs.Nesting.{In}
use Rattle.ir_model.proofs.Back.{slice_get-in}
use Rattle.ir_core_records.specs.Meaning.{use_of}
use Rattle.ir_core_context.specs.Asked.{MaySay}
use Rattle.ir_core_context.proofs.Asked.{each-more}
use Rattle.ir_core_context.proofs.asking.answers.Goals as goal

pub loop-index-init : goal.loop-index-init
loop-index-init g c = (
  ap length c.in_ok-answers.ensures.items,
  λ k u answer at here. absurd (let none : slice_get {X = Bool} [] k ≡ Some answer = sym (ap (λ xs. slice_get xs k) c.in_ok-answers.ensures.items) ∙ here in cc),
)

pub pred-requires : goal.pred-requires
pred-requires g c =
    let at = slice_get-get_or c.args.kept.now c.loop-index.index-index _ c.loop-index-test.true in
    c.requires.callable _ _ c.of.ensures (subst (λ u. In u c.args.kept.now) (sym (c.from_index-used.ensures ∙ c.used.ensures ∙ c.index-item.is)) (slice_get-in c.args.kept.now c.loop-index.index-index _ at))

pub loop-index-preserved : goal.loop-index-preserved
loop-index-preserved g c =
    let at = slice_get-get_or c.args.kept.now c.loop-index.index-index _ c.loop-index-test.true in
    let more = c.in_ok-push.ensures.items in
    let count = c.loop-index.invariant.0 in
    let may : MaySay g.P.Fn (λ s. g.C.Shown.shows s c.args.ctx.now) (λ h w. use_of h.index ≡ w) c.args.pred.now (use_of (get_or c.args.kept.now c.loop-index.index-index _)) c.pred.result =
    record { context = c.of.result; handle = _; is_shown = c.of.ensures; is = ap use_of (c.from_index-used.ensures ∙ c.used.ensures ∙ c.index-item.is); says = c.pred.ensures } in (
      ap length more ∙ length-append c.loop-index.answers.items (c.pred.result ∷ []) ∙ ap (λ n. n + 1) count,
      λ k u answer here there. each-more (MaySay g.P.Fn (λ s. g.C.Shown.shows s c.args.ctx.now) (λ h w. use_of h.index ≡ w) c.args.pred.now) c.args.kept.now c.loop-index.answers.items _ c.pred.result
          (ap (λ n. slice_get c.args.kept.now n) count ∙ at) may c.loop-index.invariant.1 k u answer here (sym (ap (λ xs. slice_get xs k) more) ∙ there),
    )
