use Rattle.std.proofs.Common.{◌∙◌, refl, sym}
use Rattle.ir_core_queries.specs.State.{types_of}
use Rattle.ir_view.proofs.KeyKinds.{of-kind}
use Rattle.ir_view.proofs.typed_handle.TypedHandle.from_handle.Goals as goal
use Rattle.ir_core_records.specs.DialectAnswers.{kinds_of}

pub returns-then-provided-KIND-clause-exact : goal.returns-then-provided-KIND-clause-exact
returns-then-provided-KIND-clause-exact g c =
    let K = kinds_of g.D.Dialects g.D.Saved.PartialEq.eq in
    (λ _. of-kind K (types_of c.args.ctx.now) c.args.handle.place c.deref.result.now c.deref.ensures g.T.IrType.KIND (sym c.type_kind-provided.ensures ∙ c.if-provided-KIND.true ∙ c.KIND.ensures), λ _. refl)

pub returns-else-provided-KIND-clause-provided : goal.returns-else-provided-KIND-clause-provided
returns-else-provided-KIND-clause-provided g c =
    let K = kinds_of g.D.Dialects g.D.Saved.PartialEq.eq in
    (of-kind K (types_of c.args.ctx.now) c.args.handle.place c.deref.result.now c.deref.ensures c.type_kind-provided.result (sym c.type_kind-provided.ensures), λ e. c.if-provided-KIND.false (e ∙ c.KIND-else-provided-KIND.ensures ∙ sym c.KIND.ensures))
