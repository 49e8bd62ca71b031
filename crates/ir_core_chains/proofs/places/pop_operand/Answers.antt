use Rattle.ir_core_chains.specs.Frames.{keeps-by_values, linked-by_values}
use Rattle.ir_core_chains.specs.Meanings.{forest-popped, operands-kind}
use Rattle.ir_core_chains.proofs.places.pop_operand.Goals as goal

pub returns-clause-linked : goal.returns-clause-linked
returns-clause-linked g c = linked-by_values c.args.records.now c.pop_linked.new.records c.requires.linked c.pop_linked.ensures.rest c.pop_linked.ensures.linked

pub returns-clause-keeps : goal.returns-clause-keeps
returns-clause-keeps g c = keeps-by_values c.args.records.now c.pop_linked.new.records c.pop_linked.ensures.rest

pub returns-clause-forest : goal.returns-clause-forest
returns-clause-forest g c = forest-popped operands-kind c.args.records.now c.pop_linked.new.records c.args.user c.pop_linked.ensures.rest c.pop_linked.ensures.here c.pop_linked.ensures.others
