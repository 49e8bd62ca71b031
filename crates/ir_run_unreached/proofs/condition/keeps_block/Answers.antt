use Rattle.std.proofs.Common.{refl, sym, subst, ap, ◌∙◌, arith}
use Rattle.std.proofs.lemmas.Bool.{false≢true}
use Rattle.ir_model.specs.Forest.{a_value, of_block, the_block}
use Rattle.ir_model.specs.Nesting.{In, numbers_of, ops_of}
use Rattle.ir_core_queries.specs.State.{forest_of}
use Rattle.ir_core_records.specs.Meaning.{block_record}
use Rattle.ir_core_records.specs.declared.record.Definer.TheVariants.{Block}
use Rattle.ir_core_records.specs.declared.record.UseIndex.{UseIndex}
use Rattle.ir_run_unreached.specs.Kept.{KeepsNamed}
use Rattle.ir_run_unreached.proofs.KeptNames.{block_keeps, first_more, own_block, own_value}
use Rattle.ir_run_unreached.proofs.Marking.{taken_all}
use Rattle.ir_run_unreached.proofs.Places.{argument_at, argument_count}
use Rattle.ir_run_unreached.proofs.Slices.{named_users_live, users_named}
use Rattle.ir_run_unreached.proofs.Values.{argument_means}
use Rattle.ir_run_unreached.proofs.condition.keeps_block.Goals as goal

pub are_users_marked-requires : goal.are_users_marked-requires
are_users_marked-requires g c =
    named_users_live (forest_of c.args.ctx.now) (λ (u : UseIndex). u.user) c.args.marked.now (the_block c.args.block.index) c.kept_uses.result.now c.kept_uses.ensures.users

pub returns-then-not-are_users_marked : goal.returns-then-not-are_users_marked
returns-then-not-are_users_marked g c =
    let f = forest_of c.args.ctx.now in
    let m = c.args.marked.now in
    let b = c.args.block.index in (
      λ e. absurd (false≢true e),
      λ keep. absurd (false≢true (sym c.if-not-are_users_marked.true ∙ c.are_users_marked.ensures.1 ((users_named f (λ (u : UseIndex). u.user) m (the_block b) c.kept_uses.result.now c.kept_uses.ensures.users).1 (own_block f m b keep)))),
    )

pub loop-place-preserved : goal.loop-place-preserved
loop-place-preserved g c =
    let f = forest_of c.args.ctx.now in
    let m = c.args.marked.now in
    let b = c.args.block.index in
    let v = c.get_argument.result.index in
    let at = argument_at f b (block_record (ops_of f b) c.deref-of.result.now) c.deref-of.ensures.found.found c.loop-place.place v.number c.get_argument.ensures.number in
    let means = argument_means v b (c.get_argument.ensures.definer ∙ ap Block c.deref-of.ensures.found.own) in
    first_more f m (of_block b) c.loop-place.place v.number at (subst (λ w. KeepsNamed f m (a_value w)) means (c.keeps_value.ensures.0 c.if-not-keeps_value.false)) c.loop-place.invariant

pub returns-then-not-keeps_value : goal.returns-then-not-keeps_value
returns-then-not-keeps_value g c =
    let f = forest_of c.args.ctx.now in
    let m = c.args.marked.now in
    let b = c.args.block.index in
    let v = c.get_argument.result.index in
    let means = argument_means v b (c.get_argument.ensures.definer ∙ ap Block c.deref-of.ensures.found.own) in (
      λ e. absurd (false≢true e),
      λ keep. absurd (false≢true (sym c.if-not-keeps_value.true ∙ c.keeps_value.ensures.1 (subst (λ w. KeepsNamed f m (a_value w)) (sym means) (own_value f m (of_block b) v.number keep)))),
    )

pub returns : goal.returns
returns g c =
    let f = forest_of c.args.ctx.now in
    let m = c.args.marked.now in
    let b = c.args.block.index in
    let count = argument_count f b (block_record (ops_of f b) c.deref-of.result.now) c.deref-of.ensures.found.found in
    let all = taken_all (numbers_of f (of_block b)) c.loop-place.place (omega (arith, count, c.loop-place-test.false, c.loop-place.auto.place-end, c.get_num_arguments-place-end.ensures)) in
    let here = (users_named f (λ (u : UseIndex). u.user) m (the_block b) c.kept_uses.result.now c.kept_uses.ensures.users).0 (c.are_users_marked.ensures.0 c.if-not-are_users_marked.false) in
    (λ _. block_keeps f m (λ p n d h. c.recall_well_formed.ensures.named p (a_value (record { definer = d; number = n })) h) b here (λ n h. c.loop-place.invariant n (subst (In n) (sym all) h)), λ _. refl)
