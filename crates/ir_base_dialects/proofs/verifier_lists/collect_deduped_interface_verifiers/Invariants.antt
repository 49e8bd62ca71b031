use Rattle.std.proofs.Common.{◌≡◌, take, map}
use Rattle.ir_model.specs.VerifierLists.{deduplicated}
use Rattle.ir_base_dialects.specs.VerifierGroups.{plain_entry}
use Rattle.ir_base_dialects.proofs.verifier_lists.collect_deduped_interface_verifiers.Given as goal

abbrev pub invariant-loop-owner : goal.invariant-loop-owner
invariant-loop-owner l = l.groups.entries ≡ deduplicated (map plain_entry (take l.owner-index l.entries))
