use Rattle.ir_base_arenas.proofs.ArenaChain.{laid-empty}
use Rattle.ir_base_arenas.proofs.arena.Arena.new.Goals as goal

pub invariant_of-result : goal.invariant_of-result
invariant_of-result g c = rw c.new.ensures.items (laid-empty c.args.slots c.args.last_version c.requires.slots c.requires.versions)
