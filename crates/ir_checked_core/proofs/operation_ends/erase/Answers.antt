use Rattle.std.proofs.Common.{inr}
use Rattle.ir_checked_core.proofs.operation_ends.erase.Goals as goal

pub erase-requires-clause-closed : goal.erase-requires-clause-closed
erase-requires-clause-closed g c = c.can_erase.ensures.0 c.if-not-can_erase.false

pub returns-clause-conditions : goal.returns-clause-conditions
returns-clause-conditions g c = inr (c.is_live.ensures.0 c.if-not-is_live.false, inr (c.can_erase.ensures.0 c.if-not-can_erase.false, tt))
