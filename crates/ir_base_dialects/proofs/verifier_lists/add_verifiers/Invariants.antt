use Rattle.std.proofs.Common.{◌≡◌, take, nat_eq}
use Rattle.ir_base_dialects.specs.VerifierGroups.{with_each}
use Rattle.ir_base_dialects.proofs.verifier_lists.add_verifiers.Given as goal

abbrev pub invariant-loop-verifier : goal.invariant-loop-verifier
invariant-loop-verifier l = l.list ≡ with_each nat_eq l.fn.list (take l.verifier-index l.verifiers)
