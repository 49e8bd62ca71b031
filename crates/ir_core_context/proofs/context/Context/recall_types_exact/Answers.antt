use Rattle.std.proofs.Common.{sym}
use Rattle.ir_core_context.proofs.DistinctTypes.{types_exact}
use Rattle.ir_core_context.proofs.context.Context.recall_types_exact.Goals as goal

pub returns : goal.returns
returns g c =
    rw (sym c.self.view_is)
    (types_exact g.row.D-Attr.Denot _ _ g.row.D-Saved.Denot g.row.D-Aux.Denot _ g.D.TypeKey.PartialEq.eq g.D.Dialects.first_body g.D.Dialects.unknown g.D.Dialects.op_impls_of g.met.D.TypeKey.Eq.laws c.self.inside.types c.len-len.ensures.distinct)
