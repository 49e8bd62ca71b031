use Rattle.std.proofs.Common.{sym}
use Rattle.ir_core_records.specs.Meaning.{entity_of}
use Rattle.ir_core_context.specs.State.{ContextState}
use Rattle.ir_core_context.proofs.Erased.{uses-dropped}
use Rattle.ir_core_context.proofs.erasing.drop_uses_inside.Goals as goal

pub invariant_of-ctx : goal.invariant_of-ctx
invariant_of-ctx g c =
    let i = c.ctx.inside in
    let s : ContextState _ _ _ _ _ _ _ = record { records = i.records; types = i.types; next_value = i.next_value; next_use = i.next_use; side = i.side; limits = i.limits } in
    (uses-dropped {s = s} c.ctx.invariant (entity_of c.args.entity) c.drop_all_uses.ensures.keeps c.drop_all_uses.ensures.linked c.drop_all_uses.ensures.forest).sound

pub returns-clause-rest : goal.returns-clause-rest
returns-clause-rest g c =
    let i = c.ctx.inside in
    let s : ContextState _ _ _ _ _ _ _ = record { records = i.records; types = i.types; next_value = i.next_value; next_use = i.next_use; side = i.side; limits = i.limits } in
    rw (sym c.ctx.view_is) (uses-dropped {s = s} c.ctx.invariant (entity_of c.args.entity) c.drop_all_uses.ensures.keeps c.drop_all_uses.ensures.linked c.drop_all_uses.ensures.forest).rest

pub returns-clause-keeps : goal.returns-clause-keeps
returns-clause-keeps g c =
    let i = c.ctx.inside in
    let s : ContextState _ _ _ _ _ _ _ = record { records = i.records; types = i.types; next_value = i.next_value; next_use = i.next_use; side = i.side; limits = i.limits } in
    rw (sym c.ctx.view_is) (uses-dropped {s = s} c.ctx.invariant (entity_of c.args.entity) c.drop_all_uses.ensures.keeps c.drop_all_uses.ensures.linked c.drop_all_uses.ensures.forest).keeps
