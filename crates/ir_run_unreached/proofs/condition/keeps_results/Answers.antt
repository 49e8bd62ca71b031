use Rattle.std.proofs.Common.{refl, sym, subst, ap, ◌∙◌, arith}
use Rattle.std.proofs.lemmas.Bool.{false≢true}
use Rattle.ir_model.specs.Forest.{a_value, of_op}
use Rattle.ir_model.specs.Nesting.{In, numbers_of}
use Rattle.ir_core_queries.specs.State.{forest_of}
use Rattle.ir_core_records.specs.Meaning.{op_record}
use Rattle.ir_core_records.specs.declared.record.Definer.TheVariants.{Op}
use Rattle.ir_run_unreached.specs.Kept.{KeepsNamed}
use Rattle.ir_run_unreached.proofs.KeptNames.{first_more, op_keeps, own_value}
use Rattle.ir_run_unreached.proofs.Marking.{taken_all}
use Rattle.ir_run_unreached.proofs.Places.{result_at, result_count}
use Rattle.ir_run_unreached.proofs.Values.{result_means}
use Rattle.ir_run_unreached.proofs.condition.keeps_results.Goals as goal

pub loop-place-preserved : goal.loop-place-preserved
loop-place-preserved g c =
    let f = forest_of c.args.ctx.now in
    let m = c.args.marked.now in
    let o = c.args.op.index in
    let v = c.get_result.result.index in
    let at = result_at f o (op_record c.deref-operation.result.now) c.deref-operation.ensures.found.found c.loop-place.place v.number c.get_result.ensures.number in
    let means = result_means v o (c.get_result.ensures.definer ∙ ap Op c.deref-operation.ensures.found.own) in
    first_more f m (of_op o) c.loop-place.place v.number at (subst (λ w. KeepsNamed f m (a_value w)) means (c.keeps_value.ensures.0 c.if-not-keeps_value.false)) c.loop-place.invariant

pub returns-then-not-keeps_value : goal.returns-then-not-keeps_value
returns-then-not-keeps_value g c =
    let f = forest_of c.args.ctx.now in
    let m = c.args.marked.now in
    let o = c.args.op.index in
    let v = c.get_result.result.index in
    let means = result_means v o (c.get_result.ensures.definer ∙ ap Op c.deref-operation.ensures.found.own) in (
      λ e. absurd (false≢true e),
      λ keep. absurd (false≢true (sym c.if-not-keeps_value.true ∙ c.keeps_value.ensures.1 (subst (λ w. KeepsNamed f m (a_value w)) (sym means) (own_value f m (of_op o) v.number keep)))),
    )

pub returns : goal.returns
returns g c =
    let f = forest_of c.args.ctx.now in
    let o = c.args.op.index in
    let count = result_count f o (op_record c.deref-operation.result.now) c.deref-operation.ensures.found.found in
    let all = taken_all (numbers_of f (of_op o)) c.loop-place.place (omega (arith, count, c.loop-place-test.false, c.loop-place.auto.place-end, c.get_num_results-place-end.ensures)) in
    (λ _. op_keeps f c.args.marked.now (λ p n d h. c.recall_well_formed.ensures.named p (a_value (record { definer = d; number = n })) h) o (λ n h. c.loop-place.invariant n (subst (In n) (sym all) h)), λ _. refl)
