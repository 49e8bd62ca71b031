use Rattle.std.proofs.Common.{◌⊎◌}
use Rattle.ir_model.specs.Faults.{Fault, IsRun, the_attribute}
use Rattle.ir_model.specs.Forest.{Text}
use Rattle.ir_model.specs.Nesting.{In}
use Rattle.ir_view_parts.specs.State.{forest_of, types_of}
use Rattle.ir_verify.specs.Parts.{IsThere, NoFault}
use Rattle.ir_verify.specs.Shown.{checks_in}
use Rattle.ir_verify.proofs.checks.check_attributes.Given as goal
use Rattle.ir_core_records.specs.DialectAnswers.{behaviour_of, kinds_of}

abbrev pub invariant-loop-attr : goal.invariant-loop-attr
invariant-loop-attr g l =
    let B = behaviour_of g.D.Dialects g.D.TypeKey.PartialEq.eq in
    let K = kinds_of g.D.Dialects g.D.Saved.PartialEq.eq in
    let ks = checks_in K (g.V.Verifiers.handed_in l.verifiers) l.ctx in
    ((p : Text × g.row.D-Attr.Denot) → In p l.attributes → In p l.attr-iterator ⊎ ((y : Fault) → IsThere ks NoFault (IsRun B (forest_of l.ctx) (types_of l.ctx) ks (the_attribute p.1)) y → ⊥))
    × ((p : Text × g.row.D-Attr.Denot) → In p l.attr-iterator → In p l.attributes)
