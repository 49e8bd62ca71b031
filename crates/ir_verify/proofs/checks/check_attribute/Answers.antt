use Rattle.std.proofs.Common.{◌≡◌, ◌∙◌, Err, ap, arith, get_or, rules, subst, sym}
use Rattle.std.proofs.lemmas.Option.{slice_get-get_or}
use Rattle.ir_model.specs.Nesting.{In}
use Rattle.ir_model.proofs.Back.{slice_get-in}
use Rattle.ir_view_parts.specs.State.{forest_of, types_of}
use Rattle.ir_verify.specs.Shown.{shown}
use Rattle.ir_verify.specs.Told.{MayPass, of_check}
use Rattle.ir_verify.proofs.Passed.{attr-clean, attr-listed, attr-itself}
use Rattle.ir_verify.proofs.Loops.{before-all, before-more}
use Rattle.ir_verify.proofs.checks.check_attribute.Goals as goal
use Rattle.ir_core_records.specs.DialectAnswers.{behaviour_of, kinds_of}

pub loop-number-init : goal.loop-number-init
loop-number-init g c = λ k below. absurd (omega arith)

pub returns-in_err-check_attr_interface : goal.returns-in_err-check_attr_interface
returns-in_err-check_attr_interface g c =
    let is : c.from_residual.result ≡ Err (of_check c.in_err-check_attr_interface.field-0.0) = search rules in
    let B = behaviour_of g.D.Dialects g.D.TypeKey.PartialEq.eq in
    let K = kinds_of g.D.Dialects g.D.Saved.PartialEq.eq in
    let v = g.V.Verifiers.handed_in c.args.verifiers.now in
    let s = c.args.ctx.now in
    let xs = c.attr_verifiers-number-items.result.now in
    let i = c.loop-number.number-index in
    let here : In (get_or xs i 0) xs = slice_get-in xs i (get_or xs i 0) (slice_get-get_or xs i 0 c.loop-number-test.true) in
    let listed = subst (In (get_or xs i 0)) (c.attr_verifiers-number-items.ensures ∙ ap v.attr_verifiers c.attr_kind.ensures) here in
    rw is (attr-listed B (forest_of s) (types_of s) K v (shown s) c.args.attr.now (get_or xs i 0) listed c.in_err-check_attr_interface.field-0.0 c.in_err-check_attr_interface.ensures.fail)

pub loop-number-preserved : goal.loop-number-preserved
loop-number-preserved g c =
    let v = g.V.Verifiers.handed_in c.args.verifiers.now in
    let xs = c.attr_verifiers-number-items.result.now in
    let i = c.loop-number.number-index in
    before-more (λ n. MayPass (v.attr_interface n) c.args.attr.now (shown c.args.ctx.now)) xs i (get_or xs i 0) c.loop-number.invariant (slice_get-get_or xs i 0 c.loop-number-test.true) c.in_ok-check_attr_interface.ensures.pass

pub returns-in_err-check_attr : goal.returns-in_err-check_attr
returns-in_err-check_attr g c =
    let is : c.from_residual-in_err-check_attr.result ≡ Err (of_check c.in_err-check_attr.field-0.0) = search rules in
    let B = behaviour_of g.D.Dialects g.D.TypeKey.PartialEq.eq in
    let K = kinds_of g.D.Dialects g.D.Saved.PartialEq.eq in
    let v = g.V.Verifiers.handed_in c.args.verifiers.now in
    let s = c.args.ctx.now in
    rw is (attr-itself B (forest_of s) (types_of s) K v (shown s) c.args.attr.now c.in_err-check_attr.field-0.0 c.in_err-check_attr.ensures.fail)

pub returns : goal.returns
returns g c =
    let B = behaviour_of g.D.Dialects g.D.TypeKey.PartialEq.eq in
    let K = kinds_of g.D.Dialects g.D.Saved.PartialEq.eq in
    let v = g.V.Verifiers.handed_in c.args.verifiers.now in
    let s = c.args.ctx.now in
    let xs = c.attr_verifiers-number-items.result.now in
    let all = before-all (λ n. MayPass (v.attr_interface n) c.args.attr.now (shown s)) xs c.loop-number.number-index c.loop-number.invariant c.loop-number-test.false in
    attr-clean B (forest_of s) (types_of s) K v (shown s) c.args.attr.now (λ n h. all n (subst (In n) (sym (c.attr_verifiers-number-items.ensures ∙ ap v.attr_verifiers c.attr_kind.ensures)) h)) c.in_ok-check_attr.ensures.pass
