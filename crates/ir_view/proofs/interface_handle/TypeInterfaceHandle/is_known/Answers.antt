use Rattle.std.proofs.Common.{◌∙◌, sym}
use Rattle.std.proofs.lemmas.Bool.{false≢true}
use Rattle.ir_core_queries.specs.State.{types_of}
use Rattle.ir_view.specs.Handles.{interface_place}
use Rattle.ir_view.proofs.KeyKinds.{implemented, implements, kind-known}
use Rattle.ir_view.proofs.interface_handle.TypeInterfaceHandle.is_known.Goals as goal
use Rattle.ir_core_records.specs.DialectAnswers.{kinds_of}

pub returns-then-is_known : goal.returns-then-is_known
returns-then-is_known g c =
    let K = kinds_of g.D.Dialects g.D.Saved.PartialEq.eq in
    let N = g.I.TypeInterfaceMarker.NUMBER in
    let at = rw c.to_handle-handle.ensures at c.deref.ensures in (
      λ e. implements K (types_of c.args.ctx.now) (interface_place c.args.self) c.deref.result.now at N (sym c.type_impls.ensures ∙ e),
      λ h. c.type_impls.ensures ∙ implemented K (types_of c.args.ctx.now) (interface_place c.args.self) c.deref.result.now at N h,
    )

pub returns-else-is_known : goal.returns-else-is_known
returns-else-is_known g c =
    let K = kinds_of g.D.Dialects g.D.Saved.PartialEq.eq in
    (λ e. absurd (false≢true (sym c.if-is_known.false ∙ e)), λ h. (rw c.to_handle-handle.ensures at c.is_known.ensures).1 (kind-known K (types_of c.args.ctx.now) (interface_place c.args.self) h.0 h.1))
