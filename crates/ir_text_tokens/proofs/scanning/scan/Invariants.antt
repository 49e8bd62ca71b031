use Rattle.std.proofs.Common.{◌≡◌, ◌≤◌, ◌-◌, [], drop, length}
use Rattle.ir_text_tokens.specs.declared.reader_step.Mode.TheVariants as mode
use Rattle.ir_text_tokens.specs.Readings.{with_front, reading, read_of}
use Rattle.ir_text_tokens.proofs.scanning.scan.Given as goal

abbrev pub decreases-loop-brackets : goal.decreases-loop-brackets
decreases-loop-brackets l = length l.text - l.at

abbrev pub invariant-loop-brackets : goal.invariant-loop-brackets
invariant-loop-brackets l = record {
  reads : with_front l.tokens.items (reading l.at l.at l.behind mode.Between [] (drop l.at l.text)) ≡ read_of l.text;
  within : l.at ≤ length l.text;
}
