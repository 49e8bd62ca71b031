use Rattle.std.proofs.Common.{◌≡◌, ◌+◌, ◌≤◌, drop}
use Rattle.ir_text_tokens.specs.Places.{place_after}
use Rattle.ir_text_tokens.proofs.place.line_and_column.Given as goal

abbrev pub invariant-loop-byte : goal.invariant-loop-byte
invariant-loop-byte l = (l.line ≤ l.byte-index + 1) × (l.column ≤ l.byte-index + 1) × (place_after l.line l.column (drop l.byte-index l.front) ≡ place_after 1 1 l.front)
