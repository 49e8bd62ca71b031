use Rattle.std.proofs.Common.{◌≡◌, None, drop}
use Rattle.ir_core_erasing.specs.Walks.{before_from}
use Rattle.ir_core_erasing.proofs.walk.first_before.Given as goal

-- the answer is that of the items from here on
abbrev pub invariant-loop-here : goal.invariant-loop-here
invariant-loop-here l = before_from None l.item l.items ≡ before_from l.previous l.item (drop l.here-index l.items)
