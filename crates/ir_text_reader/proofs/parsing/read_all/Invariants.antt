use Rattle.std.proofs.Common.{◌≡◌, ◌≤◌, ◌-◌, length, reverse}
use Rattle.ir_text_tokens.specs.Readings.{scan_from}
use Rattle.ir_text_reader.specs.Texts.{text_read}
use Rattle.ir_text_reader.proofs.TextSteps.{scan_read}
use Rattle.ir_text_reader.proofs.parsing.read_all.Given as goal

abbrev pub decreases-loop-brackets : goal.decreases-loop-brackets
decreases-loop-brackets l = length l.text - l.at

abbrev pub invariant-loop-brackets : goal.invariant-loop-brackets
invariant-loop-brackets l = record {
  reads : scan_read l.text l.rows.items l.state (reverse l.brackets.items) (scan_from l.at l.behind l.text) ≡ text_read l.text;
  within : l.at ≤ length l.text;
  shallow : l.state.depth ≤ l.at;
}
