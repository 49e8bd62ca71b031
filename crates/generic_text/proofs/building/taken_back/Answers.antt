use Rattle.std.proofs.Common.{inr, subst}
use Rattle.generic_text.specs.declared.taking_back.LiveCount.{LiveCount}
use Rattle.generic_text.specs.Left.{AreWithin}
use Rattle.generic_text.proofs.building.taken_back.Goals as goal

pub returns-then-is_within-clause-all : goal.returns-then-is_within-clause-all
returns-then-is_within-clause-all c = inr (subst (λ (n : LiveCount). AreWithin n c.args.before) c.of.ensures (c.is_within.ensures.0 c.if-is_within.true))

pub returns-then-is_within-clause-why : goal.returns-then-is_within-clause-why
returns-then-is_within-clause-why c = c.looked_up.ensures c.args.before
