use Rattle.ir_model.specs.Forest.{an_op, a_block}
use Rattle.ir_core_erasing.specs.Walks.{subtree}
use Rattle.ir_core_queries.specs.State.{forest_of}
use Rattle.ir_core_records.specs.Meaning.{entity_of}
use Rattle.ir_run_passes.proofs.Walks.{next_inside_too}
use Rattle.ir_run_passes.proofs.walking.to_sweep_after.Goals as goal

pub to_sweep_from-found-requires-clause-inside : goal.to_sweep_from-found-requires-clause-inside
to_sweep_from-found-requires-clause-inside g c =
    let root = an_op c.args.root.index in
    next_inside_too (forest_of c.args.ctx.now) root (subtree c.args.ctx.now.records root) c.recall_walk_lists.ensures (a_block c.args.block.index) c.requires.inside entity_of c.walk_next-start.result c.walk_next-start.ensures
