use Rattle.std.proofs.Common.{sym, arith}
use Rattle.ir_model.proofs.GrowsNew.{WellFormed-more}
use Rattle.ir_core_context.proofs.StoredTypes.{length-stored}
use Rattle.ir_core_context.proofs.context.Context.recall_well_formed.Goals as goal

pub returns : goal.returns
returns g c =
    let long = length-stored g.row.D-Attr.Denot g.row.D-TypeKey.Denot g.row.D-TypeBody.Denot g.row.D-Saved.Denot g.row.D-Aux.Denot g.row.D-Loc.Denot c.self.inside.types in
    rw (sym c.self.view_is) (WellFormed-more _ _ _ (omega (arith, long)) c.self.invariant.formed)
