use Rattle.ir_core_chains.specs.Frames.{keeps-by_successors, linked-by_blocks}
use Rattle.ir_core_chains.proofs.ChainLoops.{ok_by}
use Rattle.ir_core_chains.specs.Meanings.{forest-inserted, successors-kind}
use Rattle.ir_core_chains.proofs.places_at.insert_successor.Goals as goal

pub returns-clause-linked : goal.returns-clause-linked
returns-clause-linked g c = linked-by_blocks c.args.records.now c.insert_linked.new.records c.requires.linked c.insert_linked.ensures.rest c.insert_linked.ensures.linked

pub returns-clause-keeps : goal.returns-clause-keeps
returns-clause-keeps g c = keeps-by_successors c.args.records.now c.insert_linked.new.records c.insert_linked.ensures.rest

pub returns-clause-forest : goal.returns-clause-forest
returns-clause-forest g c =
    ok_by c.insert_linked.result (λ here. forest-inserted successors-kind c.args.index c.args.records.now c.insert_linked.new.records c.args.user (c.args.number, c.args.block) c.insert_linked.ensures.rest here c.insert_linked.ensures.others) c.insert_linked.ensures.here
