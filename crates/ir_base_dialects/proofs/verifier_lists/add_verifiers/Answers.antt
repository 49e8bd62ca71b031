use Rattle.std.proofs.Common.{nat_eq, get_or, ap, sym, ◌∙◌}
use Rattle.ir_model.specs.Edits.{with_key}
use Rattle.ir_base_dialects.proofs.GroupLemmas.{with_each-more}
use Rattle.ir_base_dialects.proofs.verifier_lists.add_verifiers.Goals as goal

pub loop-verifier-preserved : goal.loop-verifier-preserved
loop-verifier-preserved c =
    c.in_ok-get_or_create_unique.ensures.stored
    ∙ ap (λ l. with_key nat_eq l (get_or c.args.verifiers.now c.loop-verifier.verifier-index 0)) c.loop-verifier.invariant
    ∙ sym (with_each-more c.args.list.now c.args.verifiers.now c.loop-verifier.verifier-index c.loop-verifier-test.true)
