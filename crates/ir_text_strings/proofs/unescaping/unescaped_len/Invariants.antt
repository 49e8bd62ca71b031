use Rattle.std.proofs.Common.{◌≡◌, ◌+◌, ◌≤◌, length, drop}
use Rattle.ir_text_strings.specs.Escapes.{unescaped}
use Rattle.ir_text_strings.proofs.unescaping.unescaped_len.Given as goal

abbrev pub invariant-loop-at : goal.invariant-loop-at
invariant-loop-at l = record {
  counted : l.count + length (unescaped (drop (l.at + l.more) l.text)) ≡ length (unescaped l.text);
  few : l.count ≤ l.at;
}
