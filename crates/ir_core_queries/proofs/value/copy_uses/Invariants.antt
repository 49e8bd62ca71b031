use Rattle.std.proofs.Common.{◌≡◌, map, take}
use Rattle.ir_core_queries.proofs.value.copy_uses.Given as goal

abbrev pub invariant-loop-used : goal.invariant-loop-used
invariant-loop-used g l = map (λ u. u.index) l.uses.items ≡ take l.used-index l.kept
