use Rattle.std.proofs.Common.{◌≡◌, IfOk, List, ap, map, sym, subst, ◌∙◌}
use Rattle.ir_model.specs.Nesting.{In}
use Rattle.ir_model.proofs.Nests.{In-map}
use Rattle.ir_core_records.specs.declared.record.UseIndex.{UseIndex}
use Rattle.ir_core_records.specs.Meaning.{use_of as use_in}
use Rattle.ir_core_records.specs.Table.{uses_at}
use Rattle.ir_core_context.specs.Asked.{AreAnswers, MaySay}
use Rattle.ir_core_context.specs.Named.{live-value}
use Rattle.ir_core_context.specs.State.{ContextState}
use Rattle.ir_core_context.proofs.value_edits.answers_for_uses.Goals as goal

pub uses-requires : goal.uses-requires
uses-requires g c = live-value c.ctx.inside.records c.args.value (rw (sym c.ctx.view_is) at c.requires.live)

pub answers-requires : goal.answers-requires
answers-requires g c = record {
  callable = λ context used shown here.
      let kept = c.as_slice.ensures ∙ c.uses.ensures ∙ ap (λ (s : ContextState _ _ _ _ _ _ _). uses_at s.records c.args.value) c.ctx.view_is in
      let among = In-map use_in used.index (uses_at c.args.ctx.now.records c.args.value) (subst (λ (us : List UseIndex). In used.index us) kept here) in
      c.requires.callable context used shown (((c.recall_uses_exact.ensures.values c.args.value c.requires.live).exact (use_in used.index)).0 among);
}

pub returns-clause-answers : goal.returns-clause-answers
returns-clause-answers g c =
    let kept = c.as_slice.ensures ∙ c.uses.ensures ∙ ap (λ (s : ContextState _ _ _ _ _ _ _). uses_at s.records c.args.value) c.ctx.view_is in
    subst (λ (us : List UseIndex). IfOk c.answers.result (λ answers. AreAnswers (MaySay g.P.Fn (λ s. g.C.Shown.shows s c.args.ctx.now) (λ v w. use_in v.index ≡ w) c.args.pred.now) us answers.items)) kept c.answers.ensures.answers
