use Rattle.ir_rewrite.specs.Notes.{AddsTouched}
use Rattle.ir_rewrite.proofs.rewriter.note_definers.Given as goal

-- only which were touched was noted
abbrev pub invariant-loop-index : goal.invariant-loop-index
invariant-loop-index g l = AddsTouched l.initial.changes.items l.changes.items
