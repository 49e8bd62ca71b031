use Rattle.std.proofs.Common.{[], refl, sym}
use Rattle.ir_model.specs.Forest.{an_op}
use Rattle.ir_core_erasing.specs.Walks.{subtree}
use Rattle.ir_core_queries.specs.State.{forest_of}
use Rattle.ir_core_records.specs.DialectAnswers.{behaviour_of}
use Rattle.ir_core_records.specs.Meaning.{entity_of}
use Rattle.ir_run_passes.proofs.Walks.{first_inside, none_inside}
use Rattle.ir_run_passes.proofs.walking.to_sweep.Goals as goal

pub to_sweep_from-requires-clause-inside : goal.to_sweep_from-requires-clause-inside
to_sweep_from-requires-clause-inside g c =
    let root = an_op c.args.root.index in
    first_inside (forest_of c.args.ctx.now) root (subtree c.args.ctx.now.records root) c.recall_walk_lists.ensures (entity_of c.walk_start-start.result) c.walk_start-start.ensures

pub returns-clause-none : goal.returns-clause-none
returns-clause-none g c =
    let root = an_op c.args.root.index in
    let xs = subtree c.args.ctx.now.records root in
    λ e. none_inside (forest_of c.args.ctx.now) root xs c.recall_walk_lists.ensures (behaviour_of g.D.Dialects g.D.TypeKey.PartialEq.eq) (c.to_sweep_from.ensures.none e [] xs refl (sym c.walk_start-start.ensures))
