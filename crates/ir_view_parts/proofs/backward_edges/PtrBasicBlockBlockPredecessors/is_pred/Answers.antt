use Rattle.ir_core_queries.specs.State.{forest_of}
use Rattle.ir_view_parts.proofs.Users.{users-in}
use Rattle.ir_view_parts.proofs.backward_edges.PtrBasicBlockBlockPredecessors.is_pred.Goals as goal

pub returns : goal.returns
returns g c =
    let told = users-in (forest_of c.args.ctx.now) c.args.self.index c.kept_uses.result.now c.kept_uses.ensures.users c.args.pred.index in
    (λ t. told.0 (c.any_stands_in.ensures.0 t), λ pred. c.any_stands_in.ensures.1 (told.1 pred))
