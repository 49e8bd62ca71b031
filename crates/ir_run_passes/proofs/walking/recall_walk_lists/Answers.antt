use Rattle.ir_model.specs.Forest.{an_op}
use Rattle.ir_run_passes.proofs.walking.recall_walk_lists.Goals as goal

pub returns : goal.returns
returns g c = c.recall_subtrees_listed.ensures c.args.ctx.now.records (an_op c.args.root.index) c.recall_holds_together.ensures.nested c.recall_well_formed.ensures.nested
