use Rattle.std.proofs.Common.{◌≡◌, ◌++◌, take}
use Rattle.ir_core_replacing.specs.Chosen.{chosen}
use Rattle.ir_core_replacing.proofs.use_lists.append_chosen.Given as goal

abbrev pub invariant-loop-index : goal.invariant-loop-index
invariant-loop-index l = l.uses ≡ l.fn.uses ++ chosen (take l.index l.from) (take l.index l.answers)
