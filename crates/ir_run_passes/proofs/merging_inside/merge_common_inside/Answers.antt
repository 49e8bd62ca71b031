use Rattle.std.proofs.Common.{◌≡◌, ◌≤◌, [], Some, map, length, get_or, sym, ap, ◌∙◌, refl, subst, rules, arith}
use Rattle.std.proofs.lemmas.List.{length-map}
use Rattle.std.proofs.lemmas.Option.{slice_get-get_or, slice_get-map}
use Rattle.std.specs.Prelude.{slice_get}
use Rattle.std.specs.Option.{option_map}
use Rattle.ir_base_dialects.specs.declared.Ptr.{Ptr}
use Rattle.ir_model.specs.Forest.{an_op}
use Rattle.ir_model.specs.Nesting.{In}
use Rattle.ir_model.proofs.Back.{slice_get-in}
use Rattle.ir_base_dialects.specs.Attributes.{same_pairs}
use Rattle.ir_core_queries.specs.State.{bare, forest_of}
use Rattle.ir_core_records.specs.DialectAnswers.{behaviour_of}
use Rattle.ir_run_passes.specs.BlocksInside.{ListsBlocks}
use Rattle.ir_run_passes.proofs.EachBlock.{each_starts, each_goes_on, each_breaks, each_ends, none_breaks, on_err}
use Rattle.ir_run_passes.proofs.Gone.{merged_not_more, merged_so_many}
use Rattle.ir_run_passes.proofs.Rest.{same_joined}
use Rattle.ir_run_passes.proofs.merging_inside.merge_common_inside.Goals as goal

pub returns-in_err-blocks-clause-broken_off : goal.returns-in_err-blocks-clause-broken_off
returns-in_err-blocks-clause-broken_off g c =
    on_err c.from_residual.result _ (none_breaks (behaviour_of g.D.Dialects g.D.TypeKey.PartialEq.eq) (same_pairs g.D.Attr.PartialEq.eq) (forest_of c.args.ctx.now) c.args.root.index [])

pub loop-block-init : goal.loop-block-init
loop-block-init g c =
    let f = forest_of c.args.ctx.now in
    let B = behaviour_of g.D.Dialects g.D.TypeKey.PartialEq.eq in
    let same = same_pairs g.D.Attr.PartialEq.eq in
    let root = c.args.root.index in
    let blocks = map (λ p. p.index) c.deref-block-items.result.now in
    let listed = subst (λ ps. ListsBlocks f (an_op root) (map (λ p. p.index) ps)) (sym c.deref-block-items.ensures.value) c.in_ok-blocks.ensures.listed in
    let nested = c.recall_well_formed.ensures.nested in
    record {
      each = each_starts B same f root blocks listed nested c.requires;
      rest = record { store = refl; beside = refl; passed = refl; limits = refl };
    }

pub merge_common-requires : goal.merge_common-requires
merge_common-requires g c =
    let f = forest_of c.args.ctx.now in
    let B = behaviour_of g.D.Dialects g.D.TypeKey.PartialEq.eq in
    let same = same_pairs g.D.Attr.PartialEq.eq in
    let root = c.args.root.index in
    let blocks = map (λ p. p.index) c.deref-block-items.result.now in
    let listed = subst (λ ps. ListsBlocks f (an_op root) (map (λ p. p.index) ps)) (sym c.deref-block-items.ensures.value) c.in_ok-blocks.ensures.listed in
    let nested = c.recall_well_formed.ensures.nested in
    let items = c.deref-block-items.result.now in
    let n = c.loop-block.block-index in
    let G = forest_of c.loop-block.ctx in
    let each = c.loop-block.invariant.each in
    let none : Ptr _ = record { index = record { slot = 0; version = 0 }; of = record {} } in
    let p = get_or items n none in
    let b = p.index in
    let at : slice_get blocks n ≡ Some b = slice_get-map (λ q. q.index) items n ∙ ap (option_map (λ q. q.index)) (slice_get-get_or items n none c.loop-block-test.true) in
    let here : In b blocks = slice_get-in blocks n b at in
    each.live b here

pub returns-in_err-merge_common-clause-broken_off : goal.returns-in_err-merge_common-clause-broken_off
returns-in_err-merge_common-clause-broken_off g c =
    let f = forest_of c.args.ctx.now in
    let B = behaviour_of g.D.Dialects g.D.TypeKey.PartialEq.eq in
    let same = same_pairs g.D.Attr.PartialEq.eq in
    let root = c.args.root.index in
    let blocks = map (λ p. p.index) c.deref-block-items.result.now in
    let listed = subst (λ ps. ListsBlocks f (an_op root) (map (λ p. p.index) ps)) (sym c.deref-block-items.ensures.value) c.in_ok-blocks.ensures.listed in
    let nested = c.recall_well_formed.ensures.nested in
    let items = c.deref-block-items.result.now in
    let n = c.loop-block.block-index in
    let G = forest_of c.loop-block.ctx in
    let each = c.loop-block.invariant.each in
    let none : Ptr _ = record { index = record { slot = 0; version = 0 }; of = record {} } in
    let p = get_or items n none in
    let b = p.index in
    let at : slice_get blocks n ≡ Some b = slice_get-map (λ q. q.index) items n ∙ ap (option_map (λ q. q.index)) (slice_get-get_or items n none c.loop-block-test.true) in
    let here : In b blocks = slice_get-in blocks n b at in
    on_err c.from_residual-in_err-merge_common.result _ (each_breaks B same f root blocks listed nested c.requires n G each b here (forest_of c.merge_common.new.ctx) c.in_err-merge_common.ensures.broken_off).0

pub returns-in_err-merge_common-clause-rest : goal.returns-in_err-merge_common-clause-rest
returns-in_err-merge_common-clause-rest g c = same_joined (bare c.args.ctx.now) (bare c.loop-block.ctx) (bare c.merge_common.new.ctx) c.loop-block.invariant.rest c.merge_common.ensures.rest

pub returns-in_err-merge_common-clause-live : goal.returns-in_err-merge_common-clause-live
returns-in_err-merge_common-clause-live g c =
    let f = forest_of c.args.ctx.now in
    let B = behaviour_of g.D.Dialects g.D.TypeKey.PartialEq.eq in
    let same = same_pairs g.D.Attr.PartialEq.eq in
    let root = c.args.root.index in
    let blocks = map (λ p. p.index) c.deref-block-items.result.now in
    let listed = subst (λ ps. ListsBlocks f (an_op root) (map (λ p. p.index) ps)) (sym c.deref-block-items.ensures.value) c.in_ok-blocks.ensures.listed in
    let nested = c.recall_well_formed.ensures.nested in
    let items = c.deref-block-items.result.now in
    let n = c.loop-block.block-index in
    let G = forest_of c.loop-block.ctx in
    let each = c.loop-block.invariant.each in
    let none : Ptr _ = record { index = record { slot = 0; version = 0 }; of = record {} } in
    let p = get_or items n none in
    let b = p.index in
    let at : slice_get blocks n ≡ Some b = slice_get-map (λ q. q.index) items n ∙ ap (option_map (λ q. q.index)) (slice_get-get_or items n none c.loop-block-test.true) in
    let here : In b blocks = slice_get-in blocks n b at in
    (each_breaks B same f root blocks listed nested c.requires n G each b here (forest_of c.merge_common.new.ctx) c.in_err-merge_common.ensures.broken_off).1

pub loop-block-preserved : goal.loop-block-preserved
loop-block-preserved g c =
    let f = forest_of c.args.ctx.now in
    let B = behaviour_of g.D.Dialects g.D.TypeKey.PartialEq.eq in
    let same = same_pairs g.D.Attr.PartialEq.eq in
    let root = c.args.root.index in
    let blocks = map (λ p. p.index) c.deref-block-items.result.now in
    let listed = subst (λ ps. ListsBlocks f (an_op root) (map (λ p. p.index) ps)) (sym c.deref-block-items.ensures.value) c.in_ok-blocks.ensures.listed in
    let nested = c.recall_well_formed.ensures.nested in
    let items = c.deref-block-items.result.now in
    let n = c.loop-block.block-index in
    let G = forest_of c.loop-block.ctx in
    let each = c.loop-block.invariant.each in
    let none : Ptr _ = record { index = record { slot = 0; version = 0 }; of = record {} } in
    let p = get_or items n none in
    let b = p.index in
    let at : slice_get blocks n ≡ Some b = slice_get-map (λ q. q.index) items n ∙ ap (option_map (λ q. q.index)) (slice_get-get_or items n none c.loop-block-test.true) in
    let here : In b blocks = slice_get-in blocks n b at in
    record {
      each = each_goes_on B same f root blocks listed nested c.requires n G each b here at (forest_of c.merge_common.new.ctx) c.in_ok-merge_common.field-0 c.in_ok-merge_common.ensures.merged;
      rest = same_joined (bare c.args.ctx.now) (bare c.loop-block.ctx) (bare c.merge_common.new.ctx) c.loop-block.invariant.rest c.merge_common.ensures.rest;
    }

pub overflow_sub-result : goal.overflow_sub-result
overflow_sub-result g c =
    let f = forest_of c.args.ctx.now in
    let B = behaviour_of g.D.Dialects g.D.TypeKey.PartialEq.eq in
    let same = same_pairs g.D.Attr.PartialEq.eq in
    let root = c.args.root.index in
    let blocks = map (λ p. p.index) c.deref-block-items.result.now in
    let listed = subst (λ ps. ListsBlocks f (an_op root) (map (λ p. p.index) ps)) (sym c.deref-block-items.ensures.value) c.in_ok-blocks.ensures.listed in
    let nested = c.recall_well_formed.ensures.nested in
    let items = c.deref-block-items.result.now in
    let over = c.loop-block-test.false in
    let long = length-map items (λ q. q.index) in
    let each = c.loop-block.invariant.each in
    let all = each_ends B same f root blocks listed nested c.requires c.loop-block.block-index (forest_of c.loop-block.ctx) each (omega (arith, over, long)) in
    merged_not_more c.merges_are_counted.ensures.inside B same c.args.ctx.now.records c.loop-block.ctx.records _ (an_op root) c.recall_well_formed.ensures each.count all c.live_ops-before.result c.live_ops.result c.live_ops-before.ensures c.live_ops.ensures

pub returns-clause-merged : goal.returns-clause-merged
returns-clause-merged g c =
    let f = forest_of c.args.ctx.now in
    let B = behaviour_of g.D.Dialects g.D.TypeKey.PartialEq.eq in
    let same = same_pairs g.D.Attr.PartialEq.eq in
    let root = c.args.root.index in
    let blocks = map (λ p. p.index) c.deref-block-items.result.now in
    let listed = subst (λ ps. ListsBlocks f (an_op root) (map (λ p. p.index) ps)) (sym c.deref-block-items.ensures.value) c.in_ok-blocks.ensures.listed in
    let nested = c.recall_well_formed.ensures.nested in
    let items = c.deref-block-items.result.now in
    let over = c.loop-block-test.false in
    let long = length-map items (λ q. q.index) in
    let each = c.loop-block.invariant.each in
    let all = each_ends B same f root blocks listed nested c.requires c.loop-block.block-index (forest_of c.loop-block.ctx) each (omega (arith, over, long)) in
    merged_so_many c.merges_are_counted.ensures.inside B same c.args.ctx.now.records c.loop-block.ctx.records _ (an_op root) c.recall_well_formed.ensures each.count all c.live_ops-before.result c.live_ops.result c.live_ops-before.ensures c.live_ops.ensures

pub returns-clause-rest : goal.returns-clause-rest
returns-clause-rest g c = c.loop-block.invariant.rest

pub returns-clause-live : goal.returns-clause-live
returns-clause-live g c = c.loop-block.invariant.each.root_live
