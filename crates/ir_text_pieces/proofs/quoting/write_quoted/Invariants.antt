use Rattle.std.proofs.Common.{◌≡◌, ◌∷◌, ◌++◌, take}
use Rattle.std.specs.List.{flat_map}
use Rattle.ir_text_pieces.specs.Quotes.{escaped}
use Rattle.ir_text_pieces.proofs.quoting.write_quoted.Given as goal

abbrev pub invariant-loop-byte : goal.invariant-loop-byte
invariant-loop-byte l = l.out.items ≡ l.fn.out.items ++ (34 ∷ flat_map escaped (take l.byte-index l.bytes))
