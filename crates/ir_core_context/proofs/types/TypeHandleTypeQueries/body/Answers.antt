use Rattle.std.proofs.Common.{sym}
use Rattle.ir_core_context.proofs.StoredTypes.{body-stored}
use Rattle.ir_core_context.proofs.types.TypeHandleTypeQueries.body.Goals as goal

pub returns : goal.returns
returns g c =
    rw (sym c.ctx.view_is)
    (body-stored g.row.D-Attr.Denot g.row.D-TypeKey.Denot g.row.D-TypeBody.Denot g.row.D-Saved.Denot g.row.D-Aux.Denot g.row.D-Loc.Denot c.ctx.inside.types c.args.self.place c.in-Some.body.now c.in-Some.ensures)
