use Rattle.std.proofs.Common.{◌≡◌}
use Rattle.generic_text.proofs.operations.define_results.Given as goal

abbrev pub invariant-loop-at : goal.invariant-loop-at
invariant-loop-at l = (l.made.ops ≡ l.fn.made.ops) × (l.made.blocks ≡ l.fn.made.blocks) × (l.made.late ≡ l.fn.made.late)

abbrev pub invariant-loop-index : goal.invariant-loop-index
invariant-loop-index l = (l.made.ops ≡ l.fn.made.ops) × (l.made.blocks ≡ l.fn.made.blocks) × (l.made.late ≡ l.fn.made.late)
