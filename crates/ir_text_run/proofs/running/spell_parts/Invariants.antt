use Rattle.std.proofs.Common.{◌≡◌, ◌≤◌, ◌+◌, ◌⊎◌, length}
use Rattle.ir_text_run.specs.Runs.{ComesTo, held}
use Rattle.ir_text_run.proofs.running.spell_parts.Given as goal

abbrev pub decreases-loop-so_far : goal.decreases-loop-so_far
decreases-loop-so_far g l = length l.rest

abbrev pub invariant-loop-so_far : goal.invariant-loop-so_far
invariant-loop-so_far g l = record {
  status : (l.so_far.status ≡ 0) ⊎ (l.so_far.status ≡ 1);
  room : l.lines + length l.rest ≤ length l.text;
  comes : ComesTo l.name l.text (held (g.W.Write.contents l.fn.output) (g.F.Write.contents l.fn.fault)) l.rest l.lines l.so_far (held (g.W.Write.contents l.output) (g.F.Write.contents l.fault));
}
