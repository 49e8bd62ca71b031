use Rattle.std.proofs.Common.{inr}
use Rattle.ir_rewrite.proofs.checks.first_unmet_of_erasing.Goals as goal

pub returns : goal.returns
returns g c = inr (c.is_live.ensures.0 c.if-not-is_live.false, inr (c.can_erase.ensures.0 c.if-not-can_erase.false, tt))
