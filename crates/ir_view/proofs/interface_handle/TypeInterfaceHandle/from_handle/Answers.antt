use Rattle.std.proofs.Common.{◌∙◌, ap, refl, sym}
use Rattle.ir_core_queries.specs.State.{types_of}
use Rattle.ir_view.proofs.KeyKinds.{implements, of-kind}
use Rattle.ir_view.proofs.interface_handle.TypeInterfaceHandle.from_handle.Goals as goal
use Rattle.ir_core_records.specs.DialectAnswers.{kinds_of}

pub returns-then-type_impls-clause-exact : goal.returns-then-type_impls-clause-exact
returns-then-type_impls-clause-exact g c =
    let K = kinds_of g.D.Dialects g.D.Saved.PartialEq.eq in
    let impls = g.D.Dialects.type_impls_of in
    let N = g.I.TypeInterfaceMarker.NUMBER in
    let yes = ap (λ k. impls k N) (sym c.type_kind-provided.ensures) ∙ ap (λ n. impls c.type_kind-provided.result n) (sym c.NUMBER.ensures) ∙ sym c.type_impls.ensures ∙ c.if-type_impls.true in
    (λ _. implements K (types_of c.args.ctx.now) c.args.handle.place c.deref.result.now c.deref.ensures N yes, λ _. refl)

pub returns-else-type_impls-clause-provided : goal.returns-else-type_impls-clause-provided
returns-else-type_impls-clause-provided g c =
    let K = kinds_of g.D.Dialects g.D.Saved.PartialEq.eq in
    let impls = g.D.Dialects.type_impls_of in (
      of-kind K (types_of c.args.ctx.now) c.args.handle.place c.deref.result.now c.deref.ensures c.type_kind-provided.result (sym c.type_kind-provided.ensures),
      ap (λ n. impls c.type_kind-provided.result n) (c.NUMBER-else-type_impls.ensures ∙ sym c.NUMBER.ensures) ∙ sym c.type_impls.ensures ∙ c.if-type_impls.false,
    )
