use Rattle.ir_model.specs.Nesting.{IsLive}
use Rattle.ir_core_context.specs.State.{forest_of}
use Rattle.ir_view.proofs.OpsAmong.{ops-all}
use Rattle.ir_view.proofs.operations.ops_inside.Goals as goal

pub returns-clause-live : goal.returns-clause-live
returns-clause-live g c = ops-all (IsLive (forest_of c.args.ctx.now)) c.inside.result c.inside.ensures.live
