use Rattle.std.proofs.Common.{◌≡◌, ◌+◌, ◌++◌, drop}
use Rattle.std.specs.Io.{StartsWith}
use Rattle.ir_text_strings.specs.Escapes.{unescaped}
use Rattle.ir_text_strings.proofs.unescaping.extend_unescaped.Given as goal

abbrev pub invariant-loop-at : goal.invariant-loop-at
invariant-loop-at l = record {
  all : l.out.items ++ unescaped (drop (l.at + l.more) l.text) ≡ l.fn.out.items ++ unescaped l.text;
  front : StartsWith l.out.items l.fn.out.items;
}
