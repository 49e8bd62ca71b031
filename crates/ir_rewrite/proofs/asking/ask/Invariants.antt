use Rattle.std.proofs.Common.{◌≡◌, ℕ, ◌<◌, Some}
use Rattle.std.specs.Prelude.{slice_get}
use Rattle.ir_rewrite.proofs.asking.ask.Given as goal

-- nothing has changed, and each pattern that was asked said no
abbrev pub invariant-loop-pattern : goal.invariant-loop-pattern
invariant-loop-pattern g l = record {
  same : l.ctx ≡ l.initial.ctx;
  declined : (k : ℕ) (p : _) → k < l.pattern-index → slice_get l.patterns k ≡ Some p → g.P.Pattern.declines p l.initial.ctx l.op.index;
}
