use Rattle.std.proofs.Common.{◌≡◌, ◌≤◌, ◌-◌, drop, length}
use Rattle.ir_text_tokens.specs.Readings.{scanning, scan_from}
use Rattle.ir_text_tokens.proofs.scanning.next_token.Given as goal

abbrev pub decreases-loop-index : goal.decreases-loop-index
decreases-loop-index l = length l.text - l.index

abbrev pub invariant-loop-index : goal.invariant-loop-index
invariant-loop-index l = record {
  reads : scanning l.index l.start l.glued l.mode l.brackets.items (drop l.index l.text) ≡ scan_from l.at l.behind l.text;
  within : l.index ≤ length l.text;
  begun : l.at ≤ l.start;
  started : l.start ≤ l.index;
}
