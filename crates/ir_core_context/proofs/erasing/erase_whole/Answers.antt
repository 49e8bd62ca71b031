use Rattle.std.proofs.Common.{sym}
use Rattle.ir_core_records.specs.Meaning.{entity_of}
use Rattle.ir_core_context.specs.State.{ContextState}
use Rattle.ir_core_context.proofs.Erased.{kept-rest, whole-erased}
use Rattle.ir_core_context.proofs.erasing.erase_whole.Goals as goal

pub invariant_of-ctx : goal.invariant_of-ctx
invariant_of-ctx g c =
    let i = c.ctx.inside in
    let s : ContextState _ _ _ _ _ _ _ = record { records = i.records; types = i.types; next_value = i.next_value; next_use = i.next_use; side = i.side; limits = i.limits } in
    let e = c.erase.ensures in
    whole-erased {s = s} c.ctx.invariant (entity_of c.args.entity) e.ids e.linked e.nested e.own (rw (sym c.ctx.view_is) at c.requires.closed) e.removed

pub returns-clause-rest : goal.returns-clause-rest
returns-clause-rest g c =
    let i = c.ctx.inside in
    let s : ContextState _ _ _ _ _ _ _ = record { records = i.records; types = i.types; next_value = i.next_value; next_use = i.next_use; side = i.side; limits = i.limits } in
    rw (sym c.ctx.view_is) (kept-rest s c.ctx.invariant c.erase.new.records c.erase.ensures.ids)

pub erase-requires-clause-closed : goal.erase-requires-clause-closed
erase-requires-clause-closed g c = rw (sym c.ctx.view_is) at c.requires.closed
