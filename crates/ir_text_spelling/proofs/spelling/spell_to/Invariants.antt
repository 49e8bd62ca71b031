use Rattle.std.proofs.Common.{◌≡◌, ◌≤◌, ℕ, List, ◌++◌, drop}
use Rattle.std.specs.Io.KnownBytes.{Appends}
use Rattle.ir_text_spelling.specs.Spellings.{piece, spelled, rows_spelled}
use Rattle.ir_text_spelling.proofs.spelling.spell_to.Given as goal

abbrev pub invariant-loop-row : goal.invariant-loop-row
invariant-loop-row g l = (done : List ℕ) × Appends (g.W.Write.contents l.fn.output) (g.W.Write.contents l.output) done × (done ++ (piece l.text l.left ++ spelled l.text l.depth l.last (drop l.row-index l.rows)) ≡ rows_spelled l.text l.rows) × (l.depth ≤ l.row-index)
