use Rattle.std.proofs.Common.{ap, is_some, ◌∙◌}
use Rattle.ir_model.proofs.Arenas.{get-cut, get-fill_live}
use Rattle.ir_base_arenas.specs.Arena.{get}
use Rattle.ir_base_arenas.proofs.ArenaChain.{cut-fill}
use Rattle.ir_base_arenas.proofs.arena.Arena.remove.Goals as goal

pub vacate-requires : goal.vacate-requires
vacate-requires g c = ap is_some (get-fill_live c.args.self.now c.args.ptr.index _ (ap is_some c.at_mut.ensures.value))

pub returns-clause-cut : goal.returns-clause-cut
returns-clause-cut g c =
    c.vacate.ensures ∙ cut-fill c.args.self.now c.args.ptr.index _ (ap is_some c.at_mut.ensures.value)

pub returns-clause-gone : goal.returns-clause-gone
returns-clause-gone g c =
    ap (λ a. get a c.args.ptr.index) (returns-clause-cut g c) ∙ get-cut c.args.self.now c.args.ptr.index (ap is_some c.at_mut.ensures.value)
