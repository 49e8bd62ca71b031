use Rattle.std.proofs.Common.{◌≡◌, take, map}
use Rattle.ir_base_dialects.specs.VerifierGroups.{plain_entry}
use Rattle.ir_base_dialects.proofs.verifier_lists.vectors_of.Given as goal

abbrev pub invariant-loop-place : goal.invariant-loop-place
invariant-loop-place l = map plain_entry l.lists.items ≡ take l.place l.groups.entries
