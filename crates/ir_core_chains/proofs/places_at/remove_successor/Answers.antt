use Rattle.ir_core_chains.specs.Frames.{keeps-by_successors, linked-by_blocks}
use Rattle.ir_core_chains.specs.Meanings.{forest-removed, successors-kind}
use Rattle.ir_core_chains.proofs.places_at.remove_successor.Goals as goal

pub returns-clause-linked : goal.returns-clause-linked
returns-clause-linked g c = linked-by_blocks c.args.records.now c.remove_linked.new.records c.requires.linked c.remove_linked.ensures.rest c.remove_linked.ensures.linked

pub returns-clause-keeps : goal.returns-clause-keeps
returns-clause-keeps g c = keeps-by_successors c.args.records.now c.remove_linked.new.records c.remove_linked.ensures.rest

pub returns-clause-forest : goal.returns-clause-forest
returns-clause-forest g c = forest-removed successors-kind c.args.index c.args.records.now c.remove_linked.new.records c.args.user c.remove_linked.ensures.rest c.remove_linked.ensures.here c.remove_linked.ensures.others
