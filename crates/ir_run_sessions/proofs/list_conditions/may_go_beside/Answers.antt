use Rattle.ir_core_queries.specs.State.{forest_of}
use Rattle.ir_core_queries.specs.Entities.{meant}
use Rattle.ir_run_sessions.proofs.Placing.{beside_so, both_ways}
use Rattle.ir_run_sessions.proofs.list_conditions.may_go_beside.Goals as goal

pub returns-in-Some : goal.returns-in-Some
returns-in-Some g c =
    let f = forest_of c.args.ctx.now in
    both_ways c.may_go_into.ensures (beside_so f (c.recall_well_formed.ensures).nested (meant c.args.node) (meant c.args.mark) (meant c.in-Some.container) c.in-Some.ensures)
