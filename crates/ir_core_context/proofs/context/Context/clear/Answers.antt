use Rattle.ir_core_context.specs.State.{ContextState}
use Rattle.ir_core_context.proofs.EmptyContext.{emptied-sound}
use Rattle.ir_core_context.proofs.context.Context.clear.Goals as goal

pub invariant_of-self : goal.invariant_of-self
invariant_of-self g c =
    let i = c.self.inside in
    let s : ContextState _ _ _ _ _ _ _ = record { records = i.records; types = i.types; next_value = i.next_value; next_use = i.next_use; side = i.side; limits = i.limits } in
    rw (c.clear.ensures.cleared, c.clear-2.ensures.cleared, c.clear-3.ensures.cleared) (emptied-sound s c.self.invariant)
