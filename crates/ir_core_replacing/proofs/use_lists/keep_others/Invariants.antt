use Rattle.ir_core_replacing.proofs.ListLemmas.{PutDown}
use Rattle.ir_core_replacing.proofs.use_lists.keep_others.Given as goal

abbrev pub invariant-loop-index : goal.invariant-loop-index
invariant-loop-index l = PutDown l.fn.uses l.answers l.index l.kept l.uses
