use Rattle.ir_view_parts.proofs.Items.{some-in}
use Rattle.ir_view_parts.proofs.forward_edges.PtrBasicBlockBlockSuccessors.has_succ.Goals as goal

pub returns : goal.returns
returns g c = some-in c.num_succ.result _ c.num_succ.ensures
