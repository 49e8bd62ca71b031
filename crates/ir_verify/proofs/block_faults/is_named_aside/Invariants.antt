use Rattle.ir_view_parts.specs.State.{forest_of, types_of}
use Rattle.ir_verify.specs.Parts.{IsAside}
use Rattle.ir_verify.proofs.Loops.{Before}
use Rattle.ir_verify.proofs.block_faults.is_named_aside.Given as goal
use Rattle.ir_core_records.specs.DialectAnswers.{behaviour_of}

abbrev pub invariant-loop-index : goal.invariant-loop-index
invariant-loop-index g l =
    let B = behaviour_of g.D.Dialects g.D.TypeKey.PartialEq.eq in
    Before (λ u. IsAside B (forest_of l.ctx) (types_of l.ctx) u.user l.block.index → ⊥) l.index-items l.index-index
