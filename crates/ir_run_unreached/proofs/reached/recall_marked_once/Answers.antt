use Rattle.ir_model.specs.ContextIds.{same_id}
use Rattle.ir_model.proofs.TwoRuns.{id_tells}
use Rattle.ir_run_unreached.proofs.Marking.{distinct_so}
use Rattle.ir_run_unreached.proofs.reached.recall_marked_once.Goals as goal

pub returns : goal.returns
returns c = distinct_so same_id id_tells c.args.marked.now c.len.ensures.distinct
