use Rattle.ir_base_dialects.proofs.GroupLemmas.{written_at}
use Rattle.ir_base_dialects.proofs.verifier_lists.add_entry.Goals as goal

pub returns-in_ok-add_verifiers-clause-added : goal.returns-in_ok-add_verifiers-clause-added
returns-in_ok-add_verifiers-clause-added c =
    written_at c.args.groups.now.entries c.args.owner c.args.verifiers.now c.in-Some.list.now c.place_of_owner.new.groups.entries c.in_ok-place.place c.add_verifiers.new.list
    c.in_ok-place.ensures.groups c.in_ok-place.ensures.place c.in-Some.ensures.value c.in_ok-add_verifiers.ensures.added
