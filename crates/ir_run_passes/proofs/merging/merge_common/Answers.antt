use Rattle.std.proofs.Common.{zero, inl, refl, Some, sym, ◌∙◌}
use Rattle.std.proofs.lemmas.Bool.{false≢true}
use Rattle.ir_base_dialects.specs.Attributes.{same_pairs}
use Rattle.ir_core_queries.specs.State.{forest_of}
use Rattle.ir_core_records.specs.DialectAnswers.{behaviour_of}
use Rattle.ir_model_passes.specs.Merging.{MergesBrokenOff, none_merges}
use Rattle.ir_model_passes.specs.MergingInside.{in_order, out_of_order}
use Rattle.ir_run_passes.proofs.EachBlock.{common_stays, broken_stays, on_err}
use Rattle.ir_run_passes.proofs.merging.merge_common.Goals as goal

pub returns-in_err-is_in_order-clause-broken_off : goal.returns-in_err-is_in_order-clause-broken_off
returns-in_err-is_in_order-clause-broken_off g c =
    let f = forest_of c.args.ctx.now in
    let nothing : MergesBrokenOff (behaviour_of g.D.Dialects g.D.TypeKey.PartialEq.eq) (same_pairs g.D.Attr.PartialEq.eq) c.args.block.index f f = record { between = f; count = zero; merges = none_merges; broken_off = inl refl } in
    on_err c.from_residual.result _ nothing

pub returns-then-not-branch-clause-merged : goal.returns-then-not-branch-clause-merged
returns-then-not-branch-clause-merged g c = out_of_order (λ order. false≢true (sym c.if-not-branch.true ∙ c.in_ok-is_in_order.ensures.order.1 order))

pub merge_in_order-requires-clause-order : goal.merge_in_order-requires-clause-order
merge_in_order-requires-clause-order g c = c.in_ok-is_in_order.ensures.order.0 c.if-not-branch.false

pub returns-in_err-merged-clause-live : goal.returns-in_err-merged-clause-live
returns-in_err-merged-clause-live g c =
    (broken_stays (behaviour_of g.D.Dialects g.D.TypeKey.PartialEq.eq) (same_pairs g.D.Attr.PartialEq.eq) c.args.block.index (forest_of c.args.ctx.now) (forest_of c.merge_in_order.new.ctx) c.in_err-merged.ensures.broken_off).blocks c.args.block.index c.requires

pub returns-clause-merged : goal.returns-clause-merged
returns-clause-merged g c = in_order (c.in_ok-is_in_order.ensures.order.0 c.if-not-branch.false) c.in_ok-merged.ensures.merged

pub returns-clause-live : goal.returns-clause-live
returns-clause-live g c =
    (common_stays (behaviour_of g.D.Dialects g.D.TypeKey.PartialEq.eq) (same_pairs g.D.Attr.PartialEq.eq) c.args.block.index (forest_of c.args.ctx.now) (forest_of c.merge_in_order.new.ctx) (Some c.in_ok-merged.merged)
    (in_order (c.in_ok-is_in_order.ensures.order.0 c.if-not-branch.false) c.in_ok-merged.ensures.merged)).blocks c.args.block.index c.requires
