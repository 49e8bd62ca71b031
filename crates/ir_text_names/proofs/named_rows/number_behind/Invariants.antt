use Rattle.std.proofs.Common.{◌≡◌, drop}
use Rattle.ir_text_names.specs.Numbers.{digits_behind}
use Rattle.ir_text_names.proofs.named_rows.number_behind.Given as goal

abbrev pub invariant-loop-byte : goal.invariant-loop-byte
invariant-loop-byte l = digits_behind l.number (drop l.byte-index l.digits) ≡ digits_behind 1 l.digits
