use Rattle.std.proofs.Common.{◌≡◌, refl, sym, subst, ap, ◌∙◌, inl, inr, Ok, Err, All, map, rules}
use Rattle.ir_model.specs.Nesting.{In}
use Rattle.ir_core_context.specs.State.{forest_of}
use Rattle.ir_rewrite.specs.Driving.{Stands}
use Rattle.ir_rewrite.proofs.Lists.{in_shorter}
use Rattle.ir_rewrite.proofs.Steps.{failed_since, on_no}
use Rattle.ir_rewrite.proofs.asking.ask_each.Goals as goal

pub loop-op-preserved : goal.loop-op-preserved
loop-op-preserved g c =
    let s0 = c.args.ctx.now in
    let now = c.loop-op.ctx in
    let root = c.args.root.index in
    let op = c.in-Some.op in
    let same : c.ask_inside.new.ctx ≡ now = on_no _ c.if-changed.false c.in_ok-changed.ensures.unchanged in
    let said : Stands (forest_of now) root op.index → All (λ p. g.P.Pattern.declines p now op.index) c.args.patterns.now =
    on_no _ c.if-changed.false c.in_ok-changed.ensures.declined in
    let said0 : Stands (forest_of s0) root op.index → All (λ p. g.P.Pattern.declines p s0 op.index) c.args.patterns.now =
    subst (λ s. Stands (forest_of s) root op.index → All (λ p. g.P.Pattern.declines p s op.index) c.args.patterns.now) c.loop-op.invariant.same said in
    record {
      same = same ∙ c.loop-op.invariant.same;
      declined = λ o i. elim (c.loop-op.invariant.declined o i) [
        | inl k ↦ elim (in_shorter (λ p. p.index) o c.pop.new.self.items op (subst (λ xs. In o (map (λ p. p.index) xs)) c.in-Some.ensures.items k)) [
          | inl m ↦ inl m
          | inr e ↦ inr (subst (λ x. Stands (forest_of s0) root x → All (λ p. g.P.Pattern.declines p s0 x) c.args.patterns.now) (sym e) said0)
        ]
        | inr d ↦ inr d
      ];
    }

pub returns-in_err-changed-clause-failed : goal.returns-in_err-changed-clause-failed
returns-in_err-changed-clause-failed g c =
    let e = c.in_err-changed.field-0.0 in
    let is : c.from_residual.result ≡ Err e = search rules in
    failed_since forest_of c.args.root.index c.args.patterns.now g.P.Pattern.fails c.from_residual.result e is c.args.ctx.now c.loop-op.ctx c.ask_inside.new.ctx c.loop-op.invariant.same c.in_err-changed.ensures.failed
