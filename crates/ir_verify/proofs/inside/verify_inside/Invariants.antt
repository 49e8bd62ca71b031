use Rattle.std.specs.Option.{option_map}
use Rattle.ir_model.specs.Faults.{Fault}
use Rattle.ir_core_records.specs.Meaning.{entity_of}
use Rattle.ir_view_parts.specs.State.{forest_of, types_of}
use Rattle.ir_core_erasing.specs.Walks.{subtree}
use Rattle.ir_verify.specs.Parts.{FaultAt, IsThere, RunAt}
use Rattle.ir_verify.specs.Shown.{checks_in}
use Rattle.ir_verify.proofs.Walked.{Passing, remaining}
use Rattle.ir_verify.proofs.inside.verify_inside.Given as goal
use Rattle.ir_core_records.specs.DialectAnswers.{behaviour_of, kinds_of}

abbrev pub invariant-loop-current : goal.invariant-loop-current
invariant-loop-current g l =
    let B = behaviour_of g.D.Dialects g.D.TypeKey.PartialEq.eq in
    let K = kinds_of g.D.Dialects g.D.Saved.PartialEq.eq in
    let ks = checks_in K (g.V.Verifiers.handed_in l.verifiers) l.ctx in
    Passing (subtree l.ctx.records (entity_of l.root)) (λ x. (y : Fault) → IsThere ks (FaultAt B (forest_of l.ctx) (types_of l.ctx) x) (RunAt B (forest_of l.ctx) (types_of l.ctx) ks x) y → ⊥) (option_map entity_of l.current)

abbrev pub decreases-loop-current : goal.decreases-loop-current
decreases-loop-current g l = remaining (subtree l.ctx.records (entity_of l.root)) (option_map entity_of l.current)
