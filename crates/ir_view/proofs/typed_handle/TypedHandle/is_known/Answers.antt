use Rattle.std.proofs.Common.{◌∙◌, sym}
use Rattle.std.proofs.lemmas.Bool.{eq-eqb, eqb-true, false≢true}
use Rattle.ir_core_queries.specs.State.{types_of}
use Rattle.ir_view.specs.Handles.{typed_place}
use Rattle.ir_view.proofs.KeyKinds.{kind-known, of-kind, one-kind}
use Rattle.ir_view.proofs.typed_handle.TypedHandle.is_known.Goals as goal
use Rattle.ir_core_records.specs.DialectAnswers.{kinds_of}

pub returns-then-is_known : goal.returns-then-is_known
returns-then-is_known g c =
    let K = kinds_of g.D.Dialects g.D.Saved.PartialEq.eq in
    let at = rw c.to_handle-handle.ensures at c.deref.ensures in (
      λ e. of-kind K (types_of c.args.ctx.now) (typed_place c.args.self) c.deref.result.now at g.T.IrType.KIND (sym c.type_kind.ensures ∙ eqb-true _ _ e ∙ c.KIND.ensures),
      λ h. eq-eqb _ _ (c.type_kind.ensures ∙ one-kind K (types_of c.args.ctx.now) (typed_place c.args.self) c.deref.result.now at g.T.IrType.KIND h ∙ sym c.KIND.ensures),
    )

pub returns-else-is_known : goal.returns-else-is_known
returns-else-is_known g c =
    let K = kinds_of g.D.Dialects g.D.Saved.PartialEq.eq in
    (λ e. absurd (false≢true (sym c.if-is_known.false ∙ e)), λ h. (rw c.to_handle-handle.ensures at c.is_known.ensures).1 (kind-known K (types_of c.args.ctx.now) (typed_place c.args.self) g.T.IrType.KIND h))
