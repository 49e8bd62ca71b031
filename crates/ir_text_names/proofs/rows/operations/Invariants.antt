use Rattle.std.proofs.Common.{◌≡◌, ℕ, ◌<◌, map, reverse, length, get_or}
use Rattle.ir_text_names.specs.Operations.{number_of}
use Rattle.ir_text_names.specs.Rows.{top, row_operations}
use Rattle.ir_text_names.proofs.Numbering.{stack_at}
use Rattle.ir_text_names.proofs.rows.operations.Given as goal

abbrev pub invariant-loop-at : goal.invariant-loop-at
invariant-loop-at l = record {
  count : l.count ≡ number_of l.rows l._at;
  around : reverse l.around.items ≡ map (number_of l.rows) (stack_at l.rows l._at);
  innermost : l.innermost ≡ top (reverse l.around.items);
  long : length l.numbers.items ≡ l._at;
  numbers : (i : ℕ) → i < l._at → get_or l.numbers.items i 0 ≡ number_of l.rows (get_or (row_operations l.rows) i 0);
}
