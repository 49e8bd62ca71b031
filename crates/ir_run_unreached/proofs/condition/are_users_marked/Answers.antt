use Rattle.std.proofs.Common.{ℕ, ◌<◌, length, slice_index_or, below_more, arith, refl, sym, ap, subst, ◌∙◌}
use Rattle.std.proofs.lemmas.Bool.{false≢true}
use Rattle.ir_core_records.specs.declared.record.UseIndex.{UseIndex}
use Rattle.ir_core_queries.specs.State.{forest_of}
use Rattle.ir_core_erasing.proofs.Users.{or-same}
use Rattle.ir_run_unreached.specs.Kept.{StandsInMarked}
use Rattle.ir_run_unreached.proofs.condition.are_users_marked.Goals as goal

pub loop-used-preserved : goal.loop-used-preserved
loop-used-preserved g c =
    let f = forest_of c.args.ctx.now in
    let m = c.args.marked.now in
    let uses = c.args.uses.now in
    let is = c.from_index.ensures ∙ c.user.ensures ∙ ap (λ (u : UseIndex). u.user) c.used-item.is in
    below_more (λ k. (d : UseIndex) → StandsInMarked f m (slice_index_or uses k d).user) c.loop-used.used-index c.loop-used.invariant
    (λ d. subst (λ (u : UseIndex). StandsInMarked f m u.user) (or-same uses c.loop-used.used-index c.used-item.result d c.loop-used-test.true) (subst (StandsInMarked f m) is (c.stands_in_marked.ensures.0 c.if-not-stands_in_marked.false)))

pub returns-then-not-stands_in_marked : goal.returns-then-not-stands_in_marked
returns-then-not-stands_in_marked g c =
    let f = forest_of c.args.ctx.now in
    let m = c.args.marked.now in
    let uses = c.args.uses.now in
    let is = c.from_index.ensures ∙ c.user.ensures ∙ ap (λ (u : UseIndex). u.user) c.used-item.is in (
      λ e. absurd (false≢true e),
      λ (all : (k : ℕ) (d : UseIndex) → k < length uses → StandsInMarked f m (slice_index_or uses k d).user). absurd (false≢true (sym c.if-not-stands_in_marked.true ∙ c.stands_in_marked.ensures.1 (subst (StandsInMarked f m) (sym is) (all c.loop-used.used-index c.used-item.result c.loop-used-test.true)))),
    )

pub returns : goal.returns
returns g c = (λ _ k d h. c.loop-used.invariant k (omega (arith, h, c.loop-used-test.false)) d, λ _. refl)
