use Rattle.std.proofs.Common.{◌≡◌, Err, rules}
use Rattle.ir_view_parts.specs.State.{forest_of, types_of}
use Rattle.ir_verify.specs.Shown.{shown}
use Rattle.ir_verify.specs.Told.{of_check}
use Rattle.ir_verify.proofs.TypedChecks.{typed-clean, typed-itself}
use Rattle.ir_verify.proofs.checks.check_own_type.Goals as goal
use Rattle.ir_core_records.specs.DialectAnswers.{behaviour_of, kinds_of}

pub returns-in_err-check_type : goal.returns-in_err-check_type
returns-in_err-check_type g c =
    let is : c.from_residual.result ≡ Err (of_check c.in_err-check_type.field-0.0) = search rules in
    let B = behaviour_of g.D.Dialects g.D.TypeKey.PartialEq.eq in
    let K = kinds_of g.D.Dialects g.D.Saved.PartialEq.eq in
    let v = g.V.Verifiers.handed_in c.args.verifiers.now in
    let s = c.args.ctx.now in
    rw is (typed-itself B (forest_of s) (types_of s) K v (shown s) c.args.key.now c.in_err-check_type.field-0.0 c.in_err-check_type.ensures.fail)

pub returns : goal.returns
returns g c =
    let B = behaviour_of g.D.Dialects g.D.TypeKey.PartialEq.eq in
    let K = kinds_of g.D.Dialects g.D.Saved.PartialEq.eq in
    let v = g.V.Verifiers.handed_in c.args.verifiers.now in
    let s = c.args.ctx.now in
    typed-clean B (forest_of s) (types_of s) K v (shown s) c.args.key.now c.in_ok-check_type.ensures.pass
