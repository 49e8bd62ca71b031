use Rattle.std.proofs.Common.{◌≡◌, ◌∙◌, Err, Ok, refl, sym, subst, rules, inl, inr}
use Rattle.ir_model.specs.Faults.{Fault, IsRun, the_attribute}
use Rattle.ir_model.specs.Forest.{Text}
use Rattle.ir_model.specs.Nesting.{In}
use Rattle.ir_view_parts.specs.State.{forest_of, types_of}
use Rattle.ir_verify.specs.Shown.{checks_in}
use Rattle.ir_verify.specs.Parts.{IsThere, NoFault}
use Rattle.ir_verify.proofs.Handles.{attribute-finds, none-of, some-err}
use Rattle.ir_verify.proofs.checks.check_attributes.Goals as goal
use Rattle.ir_core_records.specs.DialectAnswers.{behaviour_of, kinds_of}

pub loop-attr-init : goal.loop-attr-init
loop-attr-init g c =
    let same = c.into_iter-attr-iterator.ensures.into_iter_gives ∙ c.iter-attr-items.ensures.rest in
    (λ p h. inl (subst (In p) (sym same) h), λ p h. subst (In p) same h)

pub loop-attr-preserved : goal.loop-attr-preserved
loop-attr-preserved g c =
    let B = behaviour_of g.D.Dialects g.D.TypeKey.PartialEq.eq in
    let K = kinds_of g.D.Dialects g.D.Saved.PartialEq.eq in
    let s = c.args.ctx.now in
    let ks = checks_in K (g.V.Verifiers.handed_in c.args.verifiers.now) s in
    let found = attribute-finds B (forest_of s) (types_of s) ks c.in-Some.attr.now (Ok tt) c.in_ok-check_attribute.ensures in (
      λ p h. elim (c.loop-attr.invariant.0 p h) [
        | inl k ↦ elim (subst (In p) c.in-Some.ensures.steps k) [
          | inl e ↦ inr (subst (λ (q : Text × g.row.D-Attr.Denot). (y : Fault) → IsThere ks NoFault (IsRun B (forest_of s) (types_of s) ks (the_attribute q.1)) y → ⊥) (sym e) found)
          | inr m ↦ inl m
        ]
        | inr clean ↦ inr clean
      ],
      λ p h. c.loop-attr.invariant.1 p (subst (In p) (sym c.in-Some.ensures.steps) (inr h)),
    )

pub returns-in_err-check_attribute : goal.returns-in_err-check_attribute
returns-in_err-check_attribute g c =
    let is : c.from_residual.result ≡ Err c.in_err-check_attribute.field-0.0 = search rules in
    let B = behaviour_of g.D.Dialects g.D.TypeKey.PartialEq.eq in
    let K = kinds_of g.D.Dialects g.D.Saved.PartialEq.eq in
    let s = c.args.ctx.now in
    let ks = checks_in K (g.V.Verifiers.handed_in c.args.verifiers.now) s in
    let p : Text × g.row.D-Attr.Denot = (c.in-Some.field-0-0.now, c.in-Some.attr.now) in
    let found = attribute-finds B (forest_of s) (types_of s) ks c.in-Some.attr.now (Err c.in_err-check_attribute.field-0.0) c.in_err-check_attribute.ensures in
    rw is (some-err B (forest_of s) (types_of s) ks c.args.attributes.now (λ q. IsRun B (forest_of s) (types_of s) ks (the_attribute q.1)) p
    (c.loop-attr.invariant.1 p (subst (In p) (sym c.in-Some.ensures.steps) (inl refl))) c.in_err-check_attribute.field-0.0 found)

pub returns : goal.returns
returns g c =
    let B = behaviour_of g.D.Dialects g.D.TypeKey.PartialEq.eq in
    let K = kinds_of g.D.Dialects g.D.Saved.PartialEq.eq in
    let s = c.args.ctx.now in
    let ks = checks_in K (g.V.Verifiers.handed_in c.args.verifiers.now) s in
    none-of B (forest_of s) (types_of s) ks c.args.attributes.now (λ q. IsRun B (forest_of s) (types_of s) ks (the_attribute q.1))
    (λ p h. elim (c.loop-attr.invariant.0 p h) [ inl k ↦ absurd (subst (In p) c.in-None.ensures.steps.0 k) | inr clean ↦ clean ])
