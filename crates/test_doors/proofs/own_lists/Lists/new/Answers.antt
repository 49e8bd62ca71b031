use Rattle.std.proofs.Common.{[]}
use Rattle.test_doors.proofs.own_lists.Lists.new.Goals as goal

pub invariant_of-result : goal.invariant_of-result
invariant_of-result g c = (λ _. [], rw (c.new.ensures, c.new-2.ensures) (c.empty_arenas.ensures 8 1 8 1))
