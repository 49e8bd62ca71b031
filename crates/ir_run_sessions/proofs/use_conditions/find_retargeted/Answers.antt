use Rattle.ir_model.specs.Edits.{UsersLinked}
use Rattle.ir_core_queries.specs.State.{forest_of}
use Rattle.ir_run_sessions.specs.Named.{not_these}
use Rattle.ir_run_sessions.specs.SessionLists.{clash}
use Rattle.ir_run_sessions.proofs.use_conditions.find_retargeted.Goals as goal

pub returns-else-preds_are_linked-clause-missing : goal.returns-else-preds_are_linked-clause-missing
returns-else-preds_are_linked-clause-missing g c =
    let f = forest_of c.args.ctx.now in
    λ _. not_these c.in_ok-block.ensures c.in_ok-other.ensures (λ i j. UsersLinked f i) (λ linked. clash c.preds_are_linked.result (c.preds_are_linked.ensures.1 linked) c.if-preds_are_linked.false)
