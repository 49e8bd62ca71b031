use Rattle.std.proofs.Common.{sym}
use Rattle.ir_core_context.specs.State.{ContextState}
use Rattle.ir_core_context.proofs.Aside.{aside-rest, aside-sound}
use Rattle.ir_core_context.proofs.context.Context.remove_aux.Goals as goal

pub invariant_of-self : goal.invariant_of-self
invariant_of-self g c =
    let i = c.self.inside in
    let s : ContextState _ _ _ _ _ _ _ = record { records = i.records; types = i.types; next_value = i.next_value; next_use = i.next_use; side = i.side; limits = i.limits } in
    aside-sound s c.remove_aux.new.self c.self.invariant (c.remove_aux.ensures.keeps i.limits c.self.invariant.counted.aux_slots)

pub returns-clause-value : goal.returns-clause-value
returns-clause-value g c = rw (sym c.self.view_is) c.remove_aux.ensures.value

pub returns-clause-removed : goal.returns-clause-removed
returns-clause-removed g c = rw (sym c.self.view_is) c.remove_aux.ensures.removed

pub returns-clause-rest : goal.returns-clause-rest
returns-clause-rest g c =
    let i = c.self.inside in
    let s : ContextState _ _ _ _ _ _ _ = record { records = i.records; types = i.types; next_value = i.next_value; next_use = i.next_use; side = i.side; limits = i.limits } in
    rw (sym c.self.view_is) (aside-rest s c.remove_aux.new.self)
