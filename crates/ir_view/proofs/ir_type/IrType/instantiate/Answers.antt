use Rattle.std.proofs.Common.{◌∙◌, ap, is_some, sym}
use Rattle.std.proofs.lemmas.Bool.{eqb-true}
use Rattle.ir_core_queries.specs.State.{types_of}
use Rattle.ir_view.specs.Handles.{typed_place}
use Rattle.ir_view.proofs.KeyKinds.{made-kind}
use Rattle.ir_view.proofs.ir_type.IrType.instantiate.Goals as goal
use Rattle.ir_core_records.specs.DialectAnswers.{behaviour_of, kinds_of}

pub returns-clause-kind : goal.returns-clause-kind
returns-clause-kind g c =
    let B = behaviour_of g.D.Dialects g.D.TypeKey.PartialEq.eq in
    let K = kinds_of g.D.Dialects g.D.Saved.PartialEq.eq in
    let key = g.Self.IrType.key_of c.args.self in
    let kind = eqb-true _ _ (sym (g.met.Self.IrType.of_kind key) ∙ ap is_some (g.met.Self.IrType.given_back c.args.self)) in
    made-kind B K (types_of c.args.ctx.now) (types_of c.instantiate_key.new.self) key (typed_place c.of_handle.result) g.Self.IrType.KIND
    (g.met.D.TypeKey.Eq.laws.refl key) g.met.D.Dialects.type_kinds
    (c.of_handle.ensures ∙ rw c.to_key.ensures at c.in_ok-handle.ensures.place) (rw c.to_key.ensures at c.in_ok-handle.ensures.types) kind
