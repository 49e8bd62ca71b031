use Rattle.std.proofs.Common.{◌≡◌, refl, sym, subst, ap, ◌∙◌, Ok, Err, All, rules}
use Rattle.std.proofs.lemmas.Option.{slice_get_read}
use Rattle.ir_model.specs.Nesting.{In}
use Rattle.ir_model.proofs.Back.{slice_get-in}
use Rattle.ir_rewrite.proofs.Lists.{all_below, at_item, at_more}
use Rattle.ir_rewrite.proofs.Passed.{at_error}
use Rattle.ir_rewrite.proofs.Steps.{on_no, on_yes}
use Rattle.ir_rewrite.proofs.asking.ask.Goals as goal

pub loop-pattern-preserved : goal.loop-pattern-preserved
loop-pattern-preserved g c =
    let s0 = c.args.ctx.now in
    let o = c.args.op.index in
    let same : c.rewrite.new.ctx ≡ c.loop-pattern.ctx = on_no _ c.if-changed.false c.in_ok-changed.ensures.unchanged in
    let said : g.P.Pattern.declines c.pattern-item.result c.loop-pattern.ctx o = on_no _ c.if-changed.false c.in_ok-changed.ensures.declined in
    record {
      same = same ∙ c.loop-pattern.invariant.same;
      declined = at_more (λ p. g.P.Pattern.declines p s0 o) c.args.patterns.now c.loop-pattern.pattern-index c.loop-pattern.invariant.declined
          (λ x e. subst (λ p. g.P.Pattern.declines p s0 o) (sym (at_item c.args.patterns.now c.loop-pattern.pattern-index x c.pattern-item.result c.pattern-item.is e)) (subst (λ s. g.P.Pattern.declines c.pattern-item.result s o) c.loop-pattern.invariant.same said));
    }

pub returns-then-changed-clause-changed : goal.returns-then-changed-clause-changed
returns-then-changed-clause-changed g c =
    let s0 = c.args.ctx.now in
    let o = c.args.op.index in
    let made : g.P.Pattern.changes c.pattern-item.result c.loop-pattern.ctx o c.rewrite.new.ctx = on_yes _ c.if-changed.true c.in_ok-changed.ensures.changed in (
      c.pattern-item.result,
      slice_get-in c.args.patterns.now c.loop-pattern.pattern-index c.pattern-item.result (slice_get_read c.args.patterns.now _ c.loop-pattern.pattern-index c.pattern-item.result refl c.loop-pattern-test.true c.pattern-item.is),
      subst (λ s. g.P.Pattern.changes c.pattern-item.result s o c.rewrite.new.ctx) c.loop-pattern.invariant.same made,
    )

pub returns-clause-declined : goal.returns-clause-declined
returns-clause-declined g c = all_below (λ p. g.P.Pattern.declines p c.args.ctx.now c.args.op.index) c.args.patterns.now c.loop-pattern.pattern-index c.loop-pattern-test.false c.loop-pattern.invariant.declined

pub returns-in_err-changed-clause-failed : goal.returns-in_err-changed-clause-failed
returns-in_err-changed-clause-failed g c =
    let s0 = c.args.ctx.now in
    let o = c.args.op.index in
    let e = c.in_err-changed.field-0.0 in
    let is : c.from_residual.result ≡ Err e = search rules in
    let made : g.P.Pattern.fails c.pattern-item.result c.loop-pattern.ctx o e c.rewrite.new.ctx = c.in_err-changed.ensures.failed in
    at_error (λ x. (p : _) × In p c.args.patterns.now × g.P.Pattern.fails p s0 o x c.rewrite.new.ctx) c.from_residual.result e is (
      c.pattern-item.result,
      slice_get-in c.args.patterns.now c.loop-pattern.pattern-index c.pattern-item.result (slice_get_read c.args.patterns.now _ c.loop-pattern.pattern-index c.pattern-item.result refl c.loop-pattern-test.true c.pattern-item.is),
      subst (λ s. g.P.Pattern.fails c.pattern-item.result s o e c.rewrite.new.ctx) c.loop-pattern.invariant.same made,
    )
