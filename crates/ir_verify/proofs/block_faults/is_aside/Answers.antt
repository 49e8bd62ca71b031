use Rattle.std.proofs.Common.{◌≡◌, ◌∙◌, Some, length, refl, sym, ap, subst, rules, inr}
use Rattle.ir_model.specs.ContextIds.{same_id}
use Rattle.ir_model.proofs.TwoRuns.{lawful}
use Rattle.ir_view_parts.specs.State.{forest_of, types_of}
use Rattle.ir_verify.proofs.Blocks.{aside-by, aside-told, ender-leads, in-block, leads-nowhere}
use Rattle.ir_verify.proofs.block_faults.is_aside.Goals as goal
use Rattle.ir_core_records.specs.DialectAnswers.{behaviour_of}

pub returns-then-eq : goal.returns-then-eq
returns-then-eq g c =
    let B = behaviour_of g.D.Dialects g.D.TypeKey.PartialEq.eq in
    let f = forest_of c.args.ctx.now in
    let s = types_of c.args.ctx.now in
    let o = c.args.op.index in
    let b = c.args.block.index in
    let a = c.in-Some.parent.index in
    let i = in-block f o a c.in-Some.ensures.parent in
    let same : c.eq.result ≡ same_id c.in-Some-get_terminator.terminator.index o = search rules in
    let is = (lawful.ops c.in-Some-get_terminator.terminator.index o).0 (sym same ∙ c.if-eq.true) in
    let leads = ender-leads B f (length s) c.recall_well_formed.ensures s o a b (sym c.in-Some-get_terminator.ensures.found ∙ ap Some is) c.requires.names in
    (λ e. absurd cc, λ k. absurd (aside-by f (length s) c.recall_well_formed.ensures B s o a b i k leads))

pub returns-else-eq : goal.returns-else-eq
returns-else-eq g c =
    let B = behaviour_of g.D.Dialects g.D.TypeKey.PartialEq.eq in
    let f = forest_of c.args.ctx.now in
    let s = types_of c.args.ctx.now in
    let o = c.args.op.index in
    let a = c.in-Some.parent.index in
    let i = in-block f o a c.in-Some.ensures.parent in
    aside-told B f (length s) c.recall_well_formed.ensures s o a c.args.block.index c.is_succ.result i c.is_succ.ensures

pub returns-in-None : goal.returns-in-None
returns-in-None g c =
    let B = behaviour_of g.D.Dialects g.D.TypeKey.PartialEq.eq in
    let f = forest_of c.args.ctx.now in
    let s = types_of c.args.ctx.now in
    let o = c.args.op.index in
    let a = c.in-Some.parent.index in
    let i = in-block f o a c.in-Some.ensures.parent in
    (λ e. inr (a, i, λ h. leads-nowhere B f (length s) c.recall_well_formed.ensures s a c.args.block.index (sym c.in-None.ensures.found) h), λ k. refl)
