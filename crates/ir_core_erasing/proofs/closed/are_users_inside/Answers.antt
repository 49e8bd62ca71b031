use Rattle.std.proofs.Common.{ℕ, ◌<◌, length, slice_index_or, below_more, subst, sym, ◌∙◌}
use Rattle.std.proofs.lemmas.Bool.{false≢true}
use Rattle.ir_model.specs.Forest.{an_op}
use Rattle.ir_model.specs.Nesting.{Inside}
use Rattle.ir_core_records.specs.declared.record.UseIndex.{UseIndex}
use Rattle.ir_core_records.specs.Meaning.{entity_of, forest_in}
use Rattle.ir_core_erasing.proofs.Users.{or-same}
use Rattle.ir_core_erasing.proofs.closed.are_users_inside.Goals as goal

pub loop-used-preserved : goal.loop-used-preserved
loop-used-preserved g c =
    let f = forest_in c.args.records.now in
    let root = entity_of c.args.root in
    let uses = c.args.uses.now in
    below_more (λ k. (d : UseIndex) → Inside f root (an_op (slice_index_or uses k d).user)) c.loop-used.used-index c.loop-used.invariant
    (λ d. subst (λ (u : UseIndex). Inside f root (an_op u.user)) (or-same uses c.loop-used.used-index c.used-item.result d c.loop-used-test.true) (rw (c.user.ensures, c.used-item.is) at (c.is_user_inside.ensures.0 c.if-not-is_user_inside.false)))

pub returns-then-not-is_user_inside : goal.returns-then-not-is_user_inside
returns-then-not-is_user_inside g c =
    let f = forest_in c.args.records.now in
    let root = entity_of c.args.root in
    let uses = c.args.uses.now in (
      λ t. absurd (false≢true t),
      λ (inside : (k : ℕ) (d : UseIndex) → k < length uses → Inside f root (an_op (slice_index_or uses k d).user)). absurd (false≢true (sym c.if-not-is_user_inside.true ∙ c.is_user_inside.ensures.1 (rw c.user.ensures (subst (λ (u : UseIndex). Inside f root (an_op u.user)) (sym c.used-item.is) (inside c.loop-used.used-index c.used-item.result c.loop-used-test.true))))),
    )
