use Rattle.std.proofs.Common.{sym, ap, ◌∙◌, take, is_some, length, arith}
use Rattle.ir_model.specs.Forest.{of_op}
use Rattle.ir_model.specs.Nesting.{definitions_of}
use Rattle.ir_base_dialects.specs.Attributes.{same_pairs}
use Rattle.ir_core_queries.specs.State.{bare, forest_of}
use Rattle.ir_core_records.specs.DialectAnswers.{behaviour_of}
use Rattle.ir_core_records.specs.Meaning.{definer_of, op_record, value_of}
use Rattle.ir_run_passes.proofs.Replacing.{pairs, all_pairs, next_pair, as_many, live_now, value_now, within_now, as_recorded}
use Rattle.ir_run_passes.proofs.Rest.{same_joined}
use Rattle.ir_run_passes.proofs.merging.replace_results.Goals as goal

pub deref-requires-in-loop-index : goal.deref-requires-in-loop-index
deref-requires-in-loop-index g c =
    let f = forest_of c.args.ctx.now in
    let e = c.args.earlier.index in
    let l = c.args.later.index in
    live_now f (forest_of c.loop-index.ctx) (take c.loop-index.index (pairs f e l)) c.loop-index.invariant.forest l (ap is_some c.requires.other_is)

pub get_result-old-requires : goal.get_result-old-requires
get_result-old-requires g c =
    let f = forest_of c.args.ctx.now in
    let e = c.args.earlier.index in
    let l = c.args.later.index in
    within_now f (forest_of c.loop-index.ctx) (take c.loop-index.index (pairs f e l)) c.loop-index.invariant.forest l c.loop-index.index c.get_num_results-index-end.result
    c.loop-index-test.true (c.get_num_results-index-end.ensures ∙ as_recorded f l (op_record c.deref.result.now) c.deref.ensures.found.found)
    (op_record c.deref-in-loop-index.result.now) c.deref-in-loop-index.ensures.found.found

pub deref-requires-in-loop-index-2 : goal.deref-requires-in-loop-index-2
deref-requires-in-loop-index-2 g c =
    let f = forest_of c.args.ctx.now in
    let e = c.args.earlier.index in
    let l = c.args.later.index in
    live_now f (forest_of c.loop-index.ctx) (take c.loop-index.index (pairs f e l)) c.loop-index.invariant.forest e (ap is_some c.requires.one_is)

pub get_result-new-requires : goal.get_result-new-requires
get_result-new-requires g c =
    let f = forest_of c.args.ctx.now in
    let e = c.args.earlier.index in
    let l = c.args.later.index in
    within_now f (forest_of c.loop-index.ctx) (take c.loop-index.index (pairs f e l)) c.loop-index.invariant.forest e c.loop-index.index c.get_num_results-index-end.result
    c.loop-index-test.true
    (c.get_num_results-index-end.ensures ∙ as_recorded f l (op_record c.deref.result.now) c.deref.ensures.found.found
    ∙ sym (as_many f e l (behaviour_of g.D.Dialects g.D.TypeKey.PartialEq.eq) (same_pairs g.D.Attr.PartialEq.eq) c.requires))
    (op_record c.deref-in-loop-index-2.result.now) c.deref-in-loop-index-2.ensures.found.found

pub loop-index-preserved : goal.loop-index-preserved
loop-index-preserved g c =
    let f = forest_of c.args.ctx.now in
    let e = c.args.earlier.index in
    let l = c.args.later.index in
    let i = c.loop-index.index in
    let now = forest_of c.loop-index.ctx in
    let ps = take i (pairs f e l) in
    let old = value_of c.get_result-old.result.index in
    let new = value_of c.get_result-new.result.index in
    record {
      forest = next_pair f e l i now c.loop-index.invariant.forest old new
          (value_now f now ps c.loop-index.invariant.forest l (op_record c.deref-in-loop-index.result.now) c.deref-in-loop-index.ensures.found.found i old c.get_result-old.ensures.number
          (ap definer_of c.get_result-old.ensures.definer ∙ ap of_op c.deref-in-loop-index.ensures.found.own))
          (value_now f now ps c.loop-index.invariant.forest e (op_record c.deref-in-loop-index-2.result.now) c.deref-in-loop-index-2.ensures.found.found i new c.get_result-new.ensures.number
          (ap definer_of c.get_result-new.ensures.definer ∙ ap of_op c.deref-in-loop-index-2.ensures.found.own))
          (forest_of c.replace_all_uses_with.new.ctx) c.in_ok-replace_all_uses_with.ensures.forest;
      rest = same_joined (bare c.args.ctx.now) (bare c.loop-index.ctx) (bare c.replace_all_uses_with.new.ctx) c.loop-index.invariant.rest c.replace_all_uses_with.ensures.rest;
    }

pub returns-clause-all : goal.returns-clause-all
returns-clause-all g c =
    let f = forest_of c.args.ctx.now in
    let e = c.args.earlier.index in
    let l = c.args.later.index in
    let count = c.get_num_results-index-end.ensures ∙ as_recorded f l (op_record c.deref.result.now) c.deref.ensures.found.found in
    let over = c.loop-index-test.false in
    c.loop-index.invariant.forest ∙ all_pairs f e l c.loop-index.index (omega (arith, count, over))
