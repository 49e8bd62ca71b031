use Rattle.std.proofs.Common.{◌≡◌, ◌∙◌, length, map, refl, sym, ap, subst, rules, get_or}
use Rattle.std.proofs.lemmas.Bool.{false≢true}
use Rattle.std.proofs.lemmas.Option.{slice_get-get_or}
use Rattle.ir_model.specs.ContextIds.{context_ids}
use Rattle.ir_model.specs.Forest.{the_block}
use Rattle.ir_model.specs.Nesting.{In, names_of}
use Rattle.ir_model.specs.Uses.{AreUses, Use}
use Rattle.ir_model.proofs.Back.{slice_get-in}
use Rattle.ir_core_records.specs.declared.record.UseIndex.{UseIndex}
use Rattle.ir_core_records.specs.Meaning.{use_of}
use Rattle.ir_view_parts.specs.State.{forest_of, types_of}
use Rattle.ir_verify.specs.Parts.{IsAside}
use Rattle.ir_verify.proofs.Blocks.{kept-named, named-kept, namer-live}
use Rattle.ir_verify.proofs.Loops.{before-all, before-more}
use Rattle.ir_verify.proofs.block_faults.is_named_aside.Goals as goal
use Rattle.ir_core_records.specs.DialectAnswers.{behaviour_of}

pub is_aside-requires-clause-names : goal.is_aside-requires-clause-names
is_aside-requires-clause-names g c =
    let f = forest_of c.args.ctx.now in
    let b = c.args.block.index in
    let kept = c.as_slice-index-items.result.now in
    let i = c.loop-index.index-index in
    let u : UseIndex = get_or kept i c.index-item.result in
    let are : AreUses f (the_block b) (map use_of kept) = rw (c.as_slice-index-items.ensures, c.block_uses-uses.ensures, c.records.ensures) (c.recall_uses_exact.ensures.blocks b c.requires) in
    let named = kept-named f b kept are u (slice_get-in kept i u (slice_get-get_or kept i c.index-item.result c.loop-index-test.true)) in
    rw (c.from_index.ensures ∙ c.user.ensures ∙ ap (λ (w : UseIndex). w.user) c.index-item.is) named

pub is_aside-requires-clause-live : goal.is_aside-requires-clause-live
is_aside-requires-clause-live g c =
    let B = behaviour_of g.D.Dialects g.D.TypeKey.PartialEq.eq in
    let f = forest_of c.args.ctx.now in
    let b = c.args.block.index in
    let kept = c.as_slice-index-items.result.now in
    let i = c.loop-index.index-index in
    let u : UseIndex = get_or kept i c.index-item.result in
    let are : AreUses f (the_block b) (map use_of kept) = rw (c.as_slice-index-items.ensures, c.block_uses-uses.ensures, c.records.ensures) (c.recall_uses_exact.ensures.blocks b c.requires) in
    let named = kept-named f b kept are u (slice_get-in kept i u (slice_get-get_or kept i c.index-item.result c.loop-index-test.true)) in
    rw (c.from_index.ensures ∙ c.user.ensures ∙ ap (λ (w : UseIndex). w.user) c.index-item.is) (namer-live B f (length (types_of c.args.ctx.now)) c.recall_well_formed.ensures (types_of c.args.ctx.now) b u.user named)

pub returns-then-is_aside : goal.returns-then-is_aside
returns-then-is_aside g c =
    let f = forest_of c.args.ctx.now in
    let b = c.args.block.index in
    let kept = c.as_slice-index-items.result.now in
    let i = c.loop-index.index-index in
    let u : UseIndex = get_or kept i c.index-item.result in
    let are : AreUses f (the_block b) (map use_of kept) = rw (c.as_slice-index-items.ensures, c.block_uses-uses.ensures, c.records.ensures) (c.recall_uses_exact.ensures.blocks b c.requires) in
    let named = kept-named f b kept are u (slice_get-in kept i u (slice_get-get_or kept i c.index-item.result c.loop-index-test.true)) in
    (λ e. (c.from_index.result.index, rw (c.from_index.ensures ∙ c.user.ensures ∙ ap (λ (w : UseIndex). w.user) c.index-item.is) named, c.is_aside.ensures.0 c.if-is_aside.true), λ h. refl)

pub loop-index-preserved : goal.loop-index-preserved
loop-index-preserved g c =
    let B = behaviour_of g.D.Dialects g.D.TypeKey.PartialEq.eq in
    let s = types_of c.args.ctx.now in
    let f = forest_of c.args.ctx.now in
    let b = c.args.block.index in
    let kept = c.as_slice-index-items.result.now in
    let i = c.loop-index.index-index in
    let u : UseIndex = get_or kept i c.index-item.result in
    before-more (λ x. IsAside B f s x.user b → ⊥) kept i u c.loop-index.invariant (slice_get-get_or kept i c.index-item.result c.loop-index-test.true)
    (λ k. absurd (false≢true (sym c.if-is_aside.false ∙ c.is_aside.ensures.1 (subst (λ o. IsAside B f s o b) (sym (c.from_index.ensures ∙ c.user.ensures ∙ ap (λ (w : UseIndex). w.user) c.index-item.is)) k))))

pub returns : goal.returns
returns g c =
    let B = behaviour_of g.D.Dialects g.D.TypeKey.PartialEq.eq in
    let f = forest_of c.args.ctx.now in
    let s = types_of c.args.ctx.now in
    let b = c.args.block.index in
    let kept = c.as_slice-index-items.result.now in
    let are : AreUses f (the_block b) (map use_of kept) = rw (c.as_slice-index-items.ensures, c.block_uses-uses.ensures, c.records.ensures) (c.recall_uses_exact.ensures.blocks b c.requires) in
    let all = before-all (λ u. IsAside B f s u.user b → ⊥) kept c.loop-index.index-index c.loop-index.invariant c.loop-index-test.false in
    (λ e. absurd cc, λ h. (let u = named-kept f b kept are h.0 h.1 in absurd (all u.0 u.1 (subst (λ o. IsAside B f s o b) (sym u.2) h.2))))
