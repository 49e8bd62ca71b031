use Rattle.std.proofs.Common.{ap, ◌∙◌}
use Rattle.ir_base_dialects.proofs.GroupLemmas.{plain-more, none_in_range}
use Rattle.ir_base_dialects.proofs.verifier_lists.vectors_of.Goals as goal
use Rattle.ir_base_dialects.proofs.verifier_lists.vectors_of.Goals.{in-Some+in_ok-to_vec+in_ok-push, in_default}

pub loop-place-preserved : goal.loop-place-preserved
loop-place-preserved c =
    elim c.match-get_index.branch [
      | in-Some+in_ok-to_vec+in_ok-push w ↦
          plain-more c.args.groups.now.entries c.loop-place.place w.in-Some.owner.now w.in-Some.list.now c.loop-place.lists.items c.match-get_index.lists.items w.in_ok-to_vec.field-0
          c.loop-place.invariant w.in-Some.ensures.entry (w.in_ok-to_vec.ensures.items_if_clones_equal (λ x y e. e) ∙ w.as_slice.ensures) (ap (λ v. v.items) w.lists-is ∙ w.in_ok-push.ensures.items)
      | in_default w ↦ absurd (none_in_range c.args.groups.now.entries c.loop-place.place c.len-place-end.result w.in_default.ensures.entry c.loop-place-test.true c.len-place-end.ensures.len)
    ]
