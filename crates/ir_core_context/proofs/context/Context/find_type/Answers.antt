use Rattle.std.proofs.Common.{Some, sym, ap, ◌∙◌}
use Rattle.ir_core_context.proofs.StoredTypes.{finds}
use Rattle.ir_core_context.proofs.context.Context.find_type.Goals as goal

pub returns-in-Some-clause-found : goal.returns-in-Some-clause-found
returns-in-Some-clause-found g c =
    rw (sym c.self.view_is)
    (ap Some c.at.ensures ∙ c.in-Some.ensures
    ∙ finds g.row.D-Attr.Denot _ _ g.row.D-Saved.Denot g.row.D-Aux.Denot _ g.D.TypeKey.PartialEq.eq g.D.Dialects.first_body g.D.Dialects.unknown g.D.Dialects.op_impls_of c.self.inside.types c.args.key.now)

pub returns-in-None-clause-found : goal.returns-in-None-clause-found
returns-in-None-clause-found g c =
    rw (sym c.self.view_is)
    (c.in-None.ensures
    ∙ finds g.row.D-Attr.Denot _ _ g.row.D-Saved.Denot g.row.D-Aux.Denot _ g.D.TypeKey.PartialEq.eq g.D.Dialects.first_body g.D.Dialects.unknown g.D.Dialects.op_impls_of c.self.inside.types c.args.key.now)
