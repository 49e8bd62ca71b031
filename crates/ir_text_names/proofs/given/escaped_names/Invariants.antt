use Rattle.std.proofs.Common.{◌≡◌, take}
use Rattle.ir_text_names.specs.Given.{escaped_names}
use Rattle.ir_text_names.proofs.given.escaped_names.Given as goal

abbrev pub invariant-loop-row : goal.invariant-loop-row
invariant-loop-row l = l.names.items ≡ escaped_names l.kind l.text (take l.row-index l.rows)
