use Rattle.std.proofs.Common.{Bool, List, ap, length, sym, subst, ◌∙◌}
use Rattle.ir_model.specs.Forest.{the_block}
use Rattle.ir_core_records.specs.Table.{block_uses_at}
use Rattle.ir_core_replacing.specs.Chosen.{is_chosen}
use Rattle.ir_core_context.specs.Asked.{AreAnswers}
use Rattle.ir_core_context.specs.State.{ContextState, forest_of}
use Rattle.ir_core_context.proofs.Asked.{chosen-by}
use Rattle.ir_core_context.proofs.ExactUses.{block-uses-exact}
use Rattle.ir_core_context.proofs.Redirected.{some-retargeted}
use Rattle.ir_core_context.proofs.retargeting.PtrBasicBlockRetarget.retarget_some_preds_to.Goals as goal

pub retarget_some_preds-requires-clause-count : goal.retarget_some_preds-requires-clause-count
retarget_some_preds-requires-clause-count g c =
    let are = rw (sym c.ctx.view_is) at c.in_ok-answers.ensures.answers in
    ap (λ (bs : List Bool). length bs) c.as_slice.ensures.value ∙ are.count

pub returns-clause-forest : goal.returns-clause-forest
returns-clause-forest g c =
    let i = c.ctx.inside in
    let s : ContextState _ _ _ _ _ _ _ = record { records = i.records; types = i.types; next_value = i.next_value; next_use = i.next_use; side = i.side; limits = i.limits } in
    let us = block_uses_at i.records (record { index = c.args.self.index }) in
    let bs = c.as_slice.result.now in
    let are = rw (sym c.ctx.view_is) at c.in_ok-answers.ensures.answers in
    rw (sym c.ctx.view_is) (
      is_chosen us bs,
      chosen-by _ (forest_of s) (the_block c.args.self.index) us bs (block-uses-exact s c.ctx.invariant.linked c.args.self.index) (subst (AreAnswers _ us) (sym c.as_slice.ensures.value) are),
      c.in_ok-retarget_some_preds.ensures.forest,
    )

pub invariant_of-ctx-2 : goal.invariant_of-ctx-2
invariant_of-ctx-2 g c =
    let i = c.ctx.inside in
    let s : ContextState _ _ _ _ _ _ _ = record { records = i.records; types = i.types; next_value = i.next_value; next_use = i.next_use; side = i.side; limits = i.limits } in
    let e = c.in_ok-retarget_some_preds.ensures in
    (some-retargeted {s = s} c.ctx.invariant e.keeps e.linked (is_chosen (block_uses_at i.records (record { index = c.args.self.index })) c.as_slice.result.now) c.args.other.index (rw (sym c.ctx.view_is) at c.requires.other_live) e.forest).sound

pub returns-clause-rest : goal.returns-clause-rest
returns-clause-rest g c =
    let i = c.ctx.inside in
    let s : ContextState _ _ _ _ _ _ _ = record { records = i.records; types = i.types; next_value = i.next_value; next_use = i.next_use; side = i.side; limits = i.limits } in
    let e = c.in_ok-retarget_some_preds.ensures in
    rw (sym c.ctx.view_is) (some-retargeted {s = s} c.ctx.invariant e.keeps e.linked (is_chosen (block_uses_at i.records (record { index = c.args.self.index })) c.as_slice.result.now) c.args.other.index (rw (sym c.ctx.view_is) at c.requires.other_live) e.forest).rest

pub returns-clause-keeps : goal.returns-clause-keeps
returns-clause-keeps g c =
    let i = c.ctx.inside in
    let s : ContextState _ _ _ _ _ _ _ = record { records = i.records; types = i.types; next_value = i.next_value; next_use = i.next_use; side = i.side; limits = i.limits } in
    let e = c.in_ok-retarget_some_preds.ensures in
    rw (sym c.ctx.view_is) (some-retargeted {s = s} c.ctx.invariant e.keeps e.linked (is_chosen (block_uses_at i.records (record { index = c.args.self.index })) c.as_slice.result.now) c.args.other.index (rw (sym c.ctx.view_is) at c.requires.other_live) e.forest).keeps
