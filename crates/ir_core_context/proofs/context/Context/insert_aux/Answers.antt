use Rattle.std.proofs.Common.{sym}
use Rattle.ir_model.specs.AuxData.{InsertsAux}
use Rattle.ir_core_data.specs.Side.{Keeps, beside_in}
use Rattle.ir_core_context.specs.State.{ContextState}
use Rattle.ir_core_context.proofs.Aside.{aside-rest, aside-sound, under}
use Rattle.ir_core_context.proofs.context.Context.insert_aux.Goals as goal

pub invariant_of-self : goal.invariant_of-self
invariant_of-self g c =
    let i = c.self.inside in
    let s : ContextState _ _ _ _ _ _ _ = record { records = i.records; types = i.types; next_value = i.next_value; next_use = i.next_use; side = i.side; limits = i.limits } in
    aside-sound s c.insert_aux.new.self c.self.invariant (c.insert_aux.ensures.keeps i.limits c.self.invariant.counted.aux_slots)

pub returns-clause-inserted : goal.returns-clause-inserted
returns-clause-inserted g c =
    let i = c.self.inside in
    rw (sym c.self.view_is)
    (under c.insert_aux.result (λ l a. InsertsAux l (beside_in i.side) c.args.value a.index (beside_in c.insert_aux.new.self)) (λ l. Keeps l i.side.aux) i.limits c.self.invariant.counted.aux_slots c.insert_aux.ensures.inserted)

pub returns-clause-rest : goal.returns-clause-rest
returns-clause-rest g c =
    let i = c.self.inside in
    let s : ContextState _ _ _ _ _ _ _ = record { records = i.records; types = i.types; next_value = i.next_value; next_use = i.next_use; side = i.side; limits = i.limits } in
    rw (sym c.self.view_is) (aside-rest s c.insert_aux.new.self)

pub returns-clause-spent : goal.returns-clause-spent
returns-clause-spent g c = rw (sym c.self.view_is) (c.insert_aux.ensures.spent c.self.inside.limits c.self.invariant.counted.aux_slots)

pub returns-clause-grown : goal.returns-clause-grown
returns-clause-grown g c = rw (sym c.self.view_is) (c.insert_aux.ensures.grown c.self.inside.limits c.self.invariant.counted.aux_slots)
