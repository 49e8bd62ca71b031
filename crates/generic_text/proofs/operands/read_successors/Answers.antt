use Rattle.ir_text_described.specs.Written.{none, more}
use Rattle.generic_text.proofs.operands.read_successors.Goals as goal

pub loop-index-init : goal.loop-index-init
loop-index-init c = none

pub loop-index-preserved : goal.loop-index-preserved
loop-index-preserved c = more c.loop-index.invariant c.in_ok-at.ensures
