use Rattle.ir_core_chains.specs.Frames.{keeps-by_successors, linked-by_blocks}
use Rattle.ir_core_chains.specs.Meanings.{forest-cleared, successors-kind}
use Rattle.ir_core_chains.proofs.places.unlink_successors.Goals as goal

pub returns-clause-linked : goal.returns-clause-linked
returns-clause-linked g c = linked-by_blocks c.args.records.now c.unlink_all.new.records c.requires.linked c.unlink_all.ensures.rest c.unlink_all.ensures.linked

pub returns-clause-keeps : goal.returns-clause-keeps
returns-clause-keeps g c = keeps-by_successors c.args.records.now c.unlink_all.new.records c.unlink_all.ensures.rest

pub returns-clause-forest : goal.returns-clause-forest
returns-clause-forest g c = forest-cleared successors-kind c.args.records.now c.unlink_all.new.records c.args.user c.unlink_all.ensures.rest c.unlink_all.ensures.here c.unlink_all.ensures.others
