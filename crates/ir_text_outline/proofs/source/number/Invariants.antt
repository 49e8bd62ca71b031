use Rattle.std.proofs.Common.{◌≡◌, ◌≤◌, drop}
use Rattle.ir_text_outline.specs.Sources.{digits_behind, held}
use Rattle.ir_text_outline.proofs.source.number.Given as goal

abbrev pub invariant-loop-byte : goal.invariant-loop-byte
invariant-loop-byte l = record {
  read : held (digits_behind l.number (drop l.byte-index l.piece)) ≡ held (digits_behind 0 l.piece);
  small : l.number ≤ 18446744073709551615;
}
