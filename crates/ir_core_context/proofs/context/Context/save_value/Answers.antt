use Rattle.std.proofs.Common.{sym, subst}
use Rattle.ir_core_data.specs.Side.{Keeps}
use Rattle.ir_core_context.specs.State.{ContextState}
use Rattle.ir_core_context.proofs.Aside.{aside-rest, aside-sound}
use Rattle.ir_core_context.proofs.context.Context.save_value.Goals as goal

pub invariant_of-self : goal.invariant_of-self
invariant_of-self g c =
    let i = c.self.inside in
    let s : ContextState _ _ _ _ _ _ _ = record { records = i.records; types = i.types; next_value = i.next_value; next_use = i.next_use; side = i.side; limits = i.limits } in
    aside-sound s c.save.new.self c.self.invariant (subst (Keeps i.limits) (sym c.save.ensures.aux) c.self.invariant.counted.aux_slots)

pub returns-clause-place : goal.returns-clause-place
returns-clause-place g c = rw (sym c.self.view_is) c.save.ensures.place

pub returns-clause-saved : goal.returns-clause-saved
returns-clause-saved g c = rw (sym c.self.view_is) c.save.ensures.saved

pub returns-clause-rest : goal.returns-clause-rest
returns-clause-rest g c =
    let i = c.self.inside in
    let s : ContextState _ _ _ _ _ _ _ = record { records = i.records; types = i.types; next_value = i.next_value; next_use = i.next_use; side = i.side; limits = i.limits } in
    rw (sym c.self.view_is) (aside-rest s c.save.new.self)

pub returns-clause-only_new : goal.returns-clause-only_new
returns-clause-only_new g c = rw (sym c.self.view_is) c.save.ensures.only_new
