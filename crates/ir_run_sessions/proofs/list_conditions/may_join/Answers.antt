use Rattle.ir_core_queries.specs.State.{forest_of}
use Rattle.ir_core_queries.specs.Entities.{meant}
use Rattle.ir_run_sessions.proofs.Placing.{both_ways, join_so, not_so}
use Rattle.ir_run_sessions.proofs.list_conditions.may_join.Goals as goal

pub returns : goal.returns
returns g c =
    let f = forest_of c.args.ctx.now in
    both_ways (not_so _ c.is_inside.result c.is_inside.ensures) (join_so f (c.recall_well_formed.ensures).nested (meant c.args.donee) (meant c.args.donor))
