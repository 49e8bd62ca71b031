use Rattle.std.proofs.Common.{◌≡◌, ◌∙◌, ap, subst, sym}
use Rattle.ir_model.specs.ContextIds.{context_ids}
use Rattle.ir_model.specs.Forest.{Entity, an_op, a_block}
use Rattle.ir_core_records.specs.Meaning.{entity_of}
use Rattle.ir_view_parts.specs.State.{forest_of, types_of}
use Rattle.ir_verify.specs.Shown.{checks_in}
use Rattle.ir_verify.specs.Parts.{FaultAt, Finds, RunAt}
use Rattle.ir_verify.proofs.inside.verify_alone.Goals as goal
use Rattle.ir_core_records.specs.DialectAnswers.{behaviour_of, kinds_of}

pub returns-in-Op : goal.returns-in-Op
returns-in-Op g c =
    let B = behaviour_of g.D.Dialects g.D.TypeKey.PartialEq.eq in
    let K = kinds_of g.D.Dialects g.D.Saved.PartialEq.eq in
    let s = c.args.ctx.now in
    let ks = checks_in K (g.V.Verifiers.handed_in c.args.verifiers.now) s in
    let here : ◌≡◌ {A = Entity context_ids} (an_op c.from_index-op.result.index) (entity_of c.args.entity) = ap an_op c.from_index-op.ensures ∙ ap entity_of (sym c.in-Op.is) in
    subst (λ x. Finds ks (FaultAt B (forest_of s) (types_of s) x) (RunAt B (forest_of s) (types_of s) ks x) c.verify_operation_alone.result) here c.verify_operation_alone.ensures

pub returns-in-Block : goal.returns-in-Block
returns-in-Block g c =
    let B = behaviour_of g.D.Dialects g.D.TypeKey.PartialEq.eq in
    let K = kinds_of g.D.Dialects g.D.Saved.PartialEq.eq in
    let s = c.args.ctx.now in
    let ks = checks_in K (g.V.Verifiers.handed_in c.args.verifiers.now) s in
    let here : ◌≡◌ {A = Entity context_ids} (a_block c.from_index-block.result.index) (entity_of c.args.entity) = ap a_block c.from_index-block.ensures ∙ ap entity_of (sym c.in-Block.is) in
    subst (λ x. Finds ks (FaultAt B (forest_of s) (types_of s) x) (RunAt B (forest_of s) (types_of s) ks x) c.verify_block_alone.result) here c.verify_block_alone.ensures
