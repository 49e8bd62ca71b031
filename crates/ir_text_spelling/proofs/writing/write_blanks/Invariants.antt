use Rattle.std.proofs.Common.{◌≡◌, ℕ, List, ◌++◌}
use Rattle.std.specs.Io.KnownBytes.{Appends}
use Rattle.ir_text_spelling.specs.Marks.{blanks}
use Rattle.ir_text_spelling.proofs.writing.write_blanks.Given as goal

abbrev pub decreases-loop-rest : goal.decreases-loop-rest
decreases-loop-rest g l = l.rest

abbrev pub invariant-loop-rest : goal.invariant-loop-rest
invariant-loop-rest g l = (done : List ℕ) × Appends (g.W.Write.contents l.fn.output) (g.W.Write.contents l.output) done × (done ++ blanks l.rest ≡ blanks l.levels)
