use Rattle.std.proofs.Common.{◌≡◌, ◌∙◌, Err, Some, ap, arith, get_or, rules, subst, sym}
use Rattle.std.proofs.lemmas.Option.{slice_get-get_or}
use Rattle.ir_model.specs.Nesting.{In}
use Rattle.ir_model.proofs.Back.{slice_get-in}
use Rattle.ir_model.specs.Calls.{kind_of}
use Rattle.ir_view_parts.specs.State.{forest_of, types_of}
use Rattle.ir_verify.specs.Shown.{shown}
use Rattle.ir_verify.specs.Told.{MayFail, MayPass, of_check}
use Rattle.ir_verify.proofs.Passed.{kind-numbers, numbers-kind, op-clean, op-listed, op-itself}
use Rattle.ir_verify.proofs.Loops.{before-all, before-more}
use Rattle.ir_verify.proofs.checks.check_operation.Goals as goal
use Rattle.ir_core_records.specs.DialectAnswers.{behaviour_of, kinds_of}

pub loop-number-init : goal.loop-number-init
loop-number-init g c = λ k below. absurd (omega arith)

pub returns-in_err-check_op_interface : goal.returns-in_err-check_op_interface
returns-in_err-check_op_interface g c =
    let is : c.from_residual.result ≡ Err (of_check c.in_err-check_op_interface.field-0.0) = search rules in
    let B = behaviour_of g.D.Dialects g.D.TypeKey.PartialEq.eq in
    let K = kinds_of g.D.Dialects g.D.Saved.PartialEq.eq in
    let v = g.V.Verifiers.handed_in c.args.verifiers.now in
    let s = c.args.ctx.now in
    let o = c.args.op.index in
    let xs = c.op_verifiers-number-items.result.now in
    let i = c.loop-number.number-index in
    let here : In (get_or xs i 0) xs = slice_get-in xs i (get_or xs i 0) (slice_get-get_or xs i 0 c.loop-number-test.true) in
    let listed = kind-numbers (forest_of s) v o (get_or xs i 0) c.kind.result (c.get_op_dyn-object.ensures.kind ∙ ap Some (sym c.kind.ensures)) (subst (In (get_or xs i 0)) c.op_verifiers-number-items.ensures here) in
    let fail = subst (λ p. MayFail (v.op_interface (get_or xs i 0)) p (shown s) c.in_err-check_op_interface.field-0.0) c.get_op_dyn-object.ensures.operation c.in_err-check_op_interface.ensures.fail in
    rw is (op-listed B (forest_of s) (types_of s) K v (shown s) o (get_or xs i 0) listed c.in_err-check_op_interface.field-0.0 fail)

pub loop-number-preserved : goal.loop-number-preserved
loop-number-preserved g c =
    let v = g.V.Verifiers.handed_in c.args.verifiers.now in
    let s = c.args.ctx.now in
    let xs = c.op_verifiers-number-items.result.now in
    let i = c.loop-number.number-index in
    let pass = subst (λ p. MayPass (v.op_interface (get_or xs i 0)) p (shown s)) c.get_op_dyn-object.ensures.operation c.in_ok-check_op_interface.ensures.pass in
    before-more (λ n. MayPass (v.op_interface n) c.args.op.index (shown s)) xs i (get_or xs i 0) c.loop-number.invariant (slice_get-get_or xs i 0 c.loop-number-test.true) pass

pub returns-in_err-check_op : goal.returns-in_err-check_op
returns-in_err-check_op g c =
    let is : c.from_residual-in_err-check_op.result ≡ Err (of_check c.in_err-check_op.field-0.0) = search rules in
    let B = behaviour_of g.D.Dialects g.D.TypeKey.PartialEq.eq in
    let K = kinds_of g.D.Dialects g.D.Saved.PartialEq.eq in
    let v = g.V.Verifiers.handed_in c.args.verifiers.now in
    let s = c.args.ctx.now in
    let fail = subst (λ p. MayFail v.op_itself p (shown s) c.in_err-check_op.field-0.0) c.get_op_dyn-object.ensures.operation c.in_err-check_op.ensures.fail in
    rw is (op-itself B (forest_of s) (types_of s) K v (shown s) c.args.op.index c.in_err-check_op.field-0.0 fail)

pub returns : goal.returns
returns g c =
    let B = behaviour_of g.D.Dialects g.D.TypeKey.PartialEq.eq in
    let K = kinds_of g.D.Dialects g.D.Saved.PartialEq.eq in
    let v = g.V.Verifiers.handed_in c.args.verifiers.now in
    let s = c.args.ctx.now in
    let o = c.args.op.index in
    let xs = c.op_verifiers-number-items.result.now in
    let all = before-all (λ n. MayPass (v.op_interface n) o (shown s)) xs c.loop-number.number-index c.loop-number.invariant c.loop-number-test.false in
    let pass = subst (λ p. MayPass v.op_itself p (shown s)) c.get_op_dyn-object.ensures.operation c.in_ok-check_op.ensures.pass in
    op-clean B (forest_of s) (types_of s) K v (shown s) o (λ n h. all n (subst (In n) (sym c.op_verifiers-number-items.ensures) (numbers-kind (forest_of s) v o n c.kind.result (c.get_op_dyn-object.ensures.kind ∙ ap Some (sym c.kind.ensures)) h))) pass
