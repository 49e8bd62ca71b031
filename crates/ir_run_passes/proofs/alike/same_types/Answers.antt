use Rattle.std.proofs.Common.{arith, length, sym, ◌∙◌}
use Rattle.std.proofs.lemmas.List.{length-map}
use Rattle.ir_model_passes.specs.Meaning.{result_types}
use Rattle.ir_core_records.specs.Meaning.{op_record}
use Rattle.ir_run_passes.proofs.Places.{seen_at, differs_at, agrees_more, agree_all, lengths_differ}
use Rattle.ir_run_passes.proofs.alike.same_types.Goals as goal

pub returns-then-not-is_same_type : goal.returns-then-not-is_same_type
returns-then-not-is_same_type g c =
    let one = op_record c.args.one.now in
    let other = op_record c.args.other.now in
    differs_at (result_types one) (result_types other) c.loop-index.index c.get_type.result.place c.get_type-in-loop-index.result.place
    (seen_at (λ d. d.ty) one.results c.loop-index.index c.get_type.result.place c.get_type.ensures)
    (seen_at (λ d. d.ty) other.results c.loop-index.index c.get_type-in-loop-index.result.place c.get_type-in-loop-index.ensures)
    c.is_same_type.result c.is_same_type.ensures c.if-not-is_same_type.true

pub loop-index-preserved : goal.loop-index-preserved
loop-index-preserved g c =
    let one = op_record c.args.one.now in
    let other = op_record c.args.other.now in
    agrees_more (result_types one) (result_types other) c.loop-index.index c.get_type.result.place c.get_type-in-loop-index.result.place
    (seen_at (λ d. d.ty) one.results c.loop-index.index c.get_type.result.place c.get_type.ensures)
    (seen_at (λ d. d.ty) other.results c.loop-index.index c.get_type-in-loop-index.result.place c.get_type-in-loop-index.ensures)
    c.loop-index.invariant c.is_same_type.result c.is_same_type.ensures c.if-not-is_same_type.false

pub returns : goal.returns
returns g c =
    let one = op_record c.args.one.now in
    let other = op_record c.args.other.now in
    agree_all (result_types one) (result_types other) c.get_num_results-count.result
    (c.get_num_results-count.ensures ∙ sym (length-map one.results (λ d. d.ty)))
    (c.if-count-get_num_results.false ∙ c.get_num_results.ensures ∙ sym (length-map other.results (λ d. d.ty)))
    (let t = c.loop-index-test.false in λ k lt. c.loop-index.invariant k (omega (arith, lt, t)))
