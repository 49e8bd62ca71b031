use Rattle.std.proofs.Common.{inr}
use Rattle.ir_checked.proofs.passes.remove_unreached.Goals as goal

pub remove_unreached-requires-clause-names : goal.remove_unreached-requires-clause-names
remove_unreached-requires-clause-names g c = c.in-Ok.ensures.exact.0 c.if-not-can.false

pub returns-in-Ok-remove_unreached-clause-conditions : goal.returns-in-Ok-remove_unreached-clause-conditions
returns-in-Ok-remove_unreached-clause-conditions g c = inr (c.is_live.ensures.0 c.if-not-is_live.false, inr (inr (c.in-Ok.ensures.exact.0 c.if-not-can.false, tt)))
