use Rattle.std.proofs.Common.{ap, ◌∙◌}
use Rattle.ir_base_dialects.proofs.GroupLemmas.{deduplicated-more}
use Rattle.ir_base_dialects.specs.VerifierGroups.{with_entry}
use Rattle.ir_base_dialects.proofs.verifier_lists.collect_deduped_interface_verifiers.Goals as goal

pub loop-owner-preserved : goal.loop-owner-preserved
loop-owner-preserved c =
    deduplicated-more c.args.entries.now c.loop-owner.owner-index c.loop-owner-item.result c.loop-owner.groups.entries c.add_entry.new.groups.entries
    c.loop-owner-test.true c.loop-owner-item.is c.loop-owner.invariant
    (c.in_ok-add_entry.ensures.added ∙ ap (with_entry c.loop-owner.groups.entries c.loop-owner-item.result.0) c.deref.ensures.value)
