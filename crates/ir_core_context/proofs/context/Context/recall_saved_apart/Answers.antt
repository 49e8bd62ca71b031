use Rattle.std.proofs.Common.{sym}
use Rattle.ir_core_context.proofs.DistinctSaved.{saved_apart}
use Rattle.ir_core_context.proofs.context.Context.recall_saved_apart.Goals as goal

pub returns : goal.returns
returns g c =
    rw (sym c.self.view_is)
    (saved_apart g.row.D-Saved.Denot g.D.Saved.PartialEq.eq c.self.inside.side.saved c.len-len.ensures.distinct)
