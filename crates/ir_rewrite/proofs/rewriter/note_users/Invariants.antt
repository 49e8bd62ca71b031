use Rattle.ir_rewrite.specs.Notes.{AddsTouched}
use Rattle.ir_rewrite.proofs.rewriter.note_users.Given as goal

-- only which were touched was noted
abbrev pub invariant-loop-used : goal.invariant-loop-used
invariant-loop-used g l =
    (goal.iterator-loop-used g).can_next l.used-iterator
    × (goal.iterator-loop-used g).is_finite l.used-iterator
    × AddsTouched l.initial.changes.items l.changes.items
