use Rattle.std.proofs.Common.{[]}
use Rattle.test_base.proofs.lists.Lists.new.Goals as goal

pub invariant_of-result : goal.invariant_of-result
invariant_of-result g c = (λ _. [], rw (c.new.ensures, c.new-2.ensures) (c.empty_arenas.ensures 100 100 100 100))
