use Rattle.ir_core_context.specs.State.{forest_of}
use Rattle.ir_core_queries.specs.Entities.{meant}
use Rattle.ir_checked_core.proofs.Placing.{joins}
use Rattle.ir_checked_core.proofs.asked.may_join.Goals as goal

pub returns : goal.returns
returns g c = joins (forest_of c.args.ctx.now) c.recall_well_formed.ensures.nested (meant c.args.donee) (meant c.args.donor) c.is_inside.result c.is_inside.ensures
