use Rattle.std.proofs.Common.{ℕ}
use Rattle.ir_core_context.proofs.EmptyContext.{nothing-aside, nothing-new, nothing-sound}
use Rattle.ir_core_context.proofs.context.Context.with_limits.Goals as goal

pub invariant_of-result : goal.invariant_of-result
invariant_of-result g c =
    rw (c.new.ensures, c.new-2.ensures, c.new-3.ensures, c.new-4.ensures, c.new-5.ensures) (nothing-sound _ _ _ _ _ _ _ c.args.limits (record { slots = c.requires.slots; some_version = c.requires.versions }))

pub returns-clause-new : goal.returns-clause-new
returns-clause-new g c = rw (c.new.ensures, c.new-2.ensures, c.new-3.ensures, c.new-4.ensures, c.new-5.ensures) (nothing-new _ _ _ _ _ _ _ c.args.limits)

-- whatever stands for the dialect
pub returns-clause-beside : goal.returns-clause-beside
returns-clause-beside g c = rw c.new-5.ensures (nothing-aside ℕ _ _ _ _ _ _ c.args.limits)
