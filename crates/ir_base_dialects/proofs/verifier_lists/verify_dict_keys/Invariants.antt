use Rattle.std.proofs.Common.{map}
use Rattle.ir_model.specs.VerifierLists.{DifferBelow}
use Rattle.ir_base_dialects.proofs.verifier_lists.verify_dict_keys.Given as goal

abbrev pub invariant-loop-second : goal.invariant-loop-second
invariant-loop-second l = DifferBelow (map (λ k. k.id) l.keys) l.second
