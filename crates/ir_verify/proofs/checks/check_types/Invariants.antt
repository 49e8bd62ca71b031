use Rattle.ir_model.specs.Faults.{Fault}
use Rattle.ir_view_parts.specs.State.{forest_of, types_of}
use Rattle.ir_verify.specs.Parts.{IsThere, NoFault, RunsOnHandle}
use Rattle.ir_verify.specs.Shown.{checks_in}
use Rattle.ir_verify.proofs.Loops.{Before}
use Rattle.ir_verify.proofs.checks.check_types.Given as goal
use Rattle.ir_core_records.specs.DialectAnswers.{behaviour_of, kinds_of}

abbrev pub invariant-loop-definition : goal.invariant-loop-definition
invariant-loop-definition g l =
    let B = behaviour_of g.D.Dialects g.D.TypeKey.PartialEq.eq in
    let K = kinds_of g.D.Dialects g.D.Saved.PartialEq.eq in
    let ks = checks_in K (g.V.Verifiers.handed_in l.verifiers) l.ctx in
    Before (λ d. (y : Fault) → IsThere ks NoFault (RunsOnHandle B (forest_of l.ctx) (types_of l.ctx) ks d.ty) y → ⊥) l.definitions l.definition-index
