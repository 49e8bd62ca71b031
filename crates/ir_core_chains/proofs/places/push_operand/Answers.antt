use Rattle.ir_core_chains.specs.Frames.{keeps-by_values, linked-by_values}
use Rattle.ir_core_chains.proofs.ChainLoops.{ok_by}
use Rattle.ir_core_chains.specs.Meanings.{forest-pushed, operands-kind}
use Rattle.ir_core_chains.proofs.places.push_operand.Goals as goal

pub returns-clause-linked : goal.returns-clause-linked
returns-clause-linked g c = linked-by_values c.args.records.now c.push_linked.new.records c.requires.linked c.push_linked.ensures.rest c.push_linked.ensures.linked

pub returns-clause-keeps : goal.returns-clause-keeps
returns-clause-keeps g c = keeps-by_values c.args.records.now c.push_linked.new.records c.push_linked.ensures.rest

pub returns-clause-forest : goal.returns-clause-forest
returns-clause-forest g c =
    ok_by c.push_linked.result (λ here. forest-pushed operands-kind c.args.records.now c.push_linked.new.records c.args.user (c.args.number, c.args.value) c.push_linked.ensures.rest here c.push_linked.ensures.others) c.push_linked.ensures.here
