use Rattle.ir_text_described.specs.Written.{IsSuccessor, Leads}
use Rattle.generic_text.specs.Checks.{setting_of}
use Rattle.generic_text.proofs.operands.read_successors.Given as goal

abbrev pub invariant-loop-index : goal.invariant-loop-index
invariant-loop-index l = Leads (IsSuccessor (setting_of l.check) l.op.index) l.from l.index l.at
