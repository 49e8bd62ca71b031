use Rattle.std.proofs.Common.{None, refl, sym, ◌∙◌}
use Rattle.ir_core_data.specs.WrappedArena.{opened}
use Rattle.ir_core_data.proofs.WrappedArenas.{remove-kept, seen-cut, seen-get, seen-miss}
use Rattle.ir_core_data.proofs.aux_arena.AuxArena.remove.Goals as goal

pub invariant_of-self : goal.invariant_of-self
invariant_of-self g c =
    remove-kept c.self.inside.items c.args.self.now c.self.invariant c.self.view_is c.from_index.result.index c.remove.new.self c.remove.result c.remove.ensures.cut c.remove.ensures.absent

pub returns-clause-value : goal.returns-clause-value
returns-clause-value g c =
    rw (← c.from_index.ensures) (c.flatten.ensures ∙ seen-get c.self.inside.items c.args.self.now c.self.invariant c.self.view_is c.from_index.result.index c.remove.result c.remove.ensures.value)

pub returns-clause-cut : goal.returns-clause-cut
returns-clause-cut g c =
    rw (c.flatten.ensures, ← c.from_index.ensures)
    (seen-cut c.self.inside.items c.args.self.now c.self.invariant c.self.view_is c.from_index.result.index c.remove.new.self c.remove.result c.remove.ensures.cut)

pub returns-clause-gone : goal.returns-clause-gone
returns-clause-gone g c =
    rw (← c.from_index.ensures) (sym (seen-get c.remove.new.self (opened c.remove.new.self) (invariant_of-self g c) refl c.from_index.result.index None (sym c.remove.ensures.gone)))

pub returns-clause-absent : goal.returns-clause-absent
returns-clause-absent g c =
    rw c.flatten.ensures
    (seen-miss c.self.inside.items c.args.self.now c.self.invariant c.self.view_is c.from_index.result.index c.remove.new.self c.remove.result c.remove.ensures.value c.remove.ensures.absent)
