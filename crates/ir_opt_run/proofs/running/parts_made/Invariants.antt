use Rattle.std.proofs.Common.{◌≡◌, length, true}
use Rattle.ir_opt_run.specs.GenericBehaviour.{AreGenericWords, generic_behaviour, generic_same}
use Rattle.ir_opt_run.proofs.PartsMade.{MadeSoFar}
use Rattle.ir_opt_run.proofs.running.parts_made.Given as goal

abbrev pub decreases-loop-printed : goal.decreases-loop-printed
decreases-loop-printed g l = length l.rest

-- with whatever is made of the rest behind it, what is there is made of the text, where no part so far has a fault
abbrev pub invariant-loop-printed : goal.invariant-loop-printed
invariant-loop-printed g l = l.is_well ≡ true → MadeSoFar generic_behaviour generic_same AreGenericWords l.options.passes.items l.options.prints_locations l.text l.rest l.printed.items
