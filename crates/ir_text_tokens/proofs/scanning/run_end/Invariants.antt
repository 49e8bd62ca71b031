use Rattle.std.proofs.Common.{◌≤◌}
use Rattle.ir_text_tokens.proofs.NextTokens.{Passes}
use Rattle.ir_text_tokens.proofs.scanning.run_end.Given as goal

abbrev pub invariant-loop-at : goal.invariant-loop-at
invariant-loop-at l = record {
  passes : Passes l.text l.mode l.from l.at;
  forward : l.from ≤ l.at;
}
