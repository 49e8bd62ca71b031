use Rattle.std.proofs.Common.{length, ◌-◌}
use Rattle.ir_text_run.proofs.TextLines.{Counted}
use Rattle.ir_text_run.proofs.text_parts.first_part.Given as goal

abbrev pub decreases-loop-at : goal.decreases-loop-at
decreases-loop-at l = length l.text - l.at

abbrev pub invariant-loop-at : goal.invariant-loop-at
invariant-loop-at l = Counted l.text l.at l.lines
