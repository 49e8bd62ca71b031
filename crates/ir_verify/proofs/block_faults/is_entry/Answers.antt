use Rattle.std.proofs.Common.{◌≡◌, ◌∙◌, Some, length, refl, sym, ap, subst, rules}
use Rattle.std.proofs.lemmas.Option.{same_Some}
use Rattle.ir_model.specs.ContextIds.{same_id}
use Rattle.ir_model.specs.Parent.{first_of}
use Rattle.ir_model.specs.Nesting.{blocks_of}
use Rattle.ir_model.proofs.IdCases.{id_same}
use Rattle.ir_model.proofs.TwoRuns.{lawful}
use Rattle.ir_view_parts.specs.State.{forest_of, types_of}
use Rattle.ir_verify.proofs.Blocks.{entry-first, entry-linked, in-region}
use Rattle.ir_verify.proofs.block_faults.is_entry.Goals as goal
use Rattle.ir_core_records.specs.DialectAnswers.{behaviour_of}

pub returns-in_default : goal.returns-in_default
returns-in_default g c =
    let B = behaviour_of g.D.Dialects g.D.TypeKey.PartialEq.eq in
    let f = forest_of c.args.ctx.now in
    let none = rw c.in_default.is at c.get_parent_region.ensures.parent in
    (λ e. absurd cc, λ l. (let h = entry-linked f (length (types_of c.args.ctx.now)) c.recall_well_formed.ensures B (types_of c.args.ctx.now) c.args.block.index l in absurd (none h.0 h.1)))

pub returns-in-Some-get_head : goal.returns-in-Some-get_head
returns-in-Some-get_head g c =
    let B = behaviour_of g.D.Dialects g.D.TypeKey.PartialEq.eq in
    let f = forest_of c.args.ctx.now in
    let s = types_of c.args.ctx.now in
    let b = c.args.block.index in
    let r = c.in-Some.region.index in
    let i = in-region f b r c.in-Some.ensures.parent in
    let same : c.eq.result ≡ same_id c.in-Some-get_head.first.index b = search rules in (
      λ e. (r, sym c.in-Some-get_head.ensures.first ∙ ap Some ((lawful.ops c.in-Some-get_head.first.index b).0 (sym same ∙ e))),
      λ h. (let is = same_Some _ _ (c.in-Some-get_head.ensures.first ∙ entry-first f (length s) c.recall_well_formed.ensures B s b r i h) in same ∙ ap (λ z. same_id z b) is ∙ id_same b),
    )

pub returns-in-None : goal.returns-in-None
returns-in-None g c =
    let B = behaviour_of g.D.Dialects g.D.TypeKey.PartialEq.eq in
    let f = forest_of c.args.ctx.now in
    let s = types_of c.args.ctx.now in
    let b = c.args.block.index in
    let r = c.in-Some.region.index in
    let i = in-region f b r c.in-Some.ensures.parent in
    (λ e. absurd cc, λ h. (let e = c.in-None.ensures.first ∙ entry-first f (length s) c.recall_well_formed.ensures B s b r i h in absurd cc))
