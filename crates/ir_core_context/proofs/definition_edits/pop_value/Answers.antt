use Rattle.std.proofs.Common.{sym, ◌-◌, length}
use Rattle.ir_core_records.specs.Meaning.{definer_of}
use Rattle.ir_core_context.specs.State.{ContextState}
use Rattle.ir_core_context.proofs.TakenValues.{unused-last, value-taken}
use Rattle.ir_core_context.proofs.definition_edits.pop_value.Goals as goal

pub pop_definition-requires-clause-unused : goal.pop_definition-requires-clause-unused
pop_definition-requires-clause-unused g c =
    let i = c.ctx.inside in
    let s : ContextState _ _ _ _ _ _ _ = record { records = i.records; types = i.types; next_value = i.next_value; next_use = i.next_use; side = i.side; limits = i.limits } in
    unused-last s c.ctx.invariant.linked c.args.definer (rw (sym c.ctx.view_is) at c.requires.unused)

pub invariant_of-ctx : goal.invariant_of-ctx
invariant_of-ctx g c =
    let i = c.ctx.inside in
    let s : ContextState _ _ _ _ _ _ _ = record { records = i.records; types = i.types; next_value = i.next_value; next_use = i.next_use; side = i.side; limits = i.limits } in
    let e = c.pop_definition.ensures in
    (value-taken {s = s} c.ctx.invariant e.keeps (e.linked c.ctx.invariant.linked) (definer_of c.args.definer) (λ xs. length xs - 1) (rw (sym c.ctx.view_is) at c.requires.live) (rw (sym c.ctx.view_is) at c.requires.unused) e.forest).sound

pub returns-clause-forest : goal.returns-clause-forest
returns-clause-forest g c = rw (sym c.ctx.view_is) c.pop_definition.ensures.forest

pub returns-clause-rest : goal.returns-clause-rest
returns-clause-rest g c =
    let i = c.ctx.inside in
    let s : ContextState _ _ _ _ _ _ _ = record { records = i.records; types = i.types; next_value = i.next_value; next_use = i.next_use; side = i.side; limits = i.limits } in
    let e = c.pop_definition.ensures in
    rw (sym c.ctx.view_is) (value-taken {s = s} c.ctx.invariant e.keeps (e.linked c.ctx.invariant.linked) (definer_of c.args.definer) (λ xs. length xs - 1) (rw (sym c.ctx.view_is) at c.requires.live) (rw (sym c.ctx.view_is) at c.requires.unused) e.forest).rest

pub returns-clause-stay_live : goal.returns-clause-stay_live
returns-clause-stay_live g c =
    let i = c.ctx.inside in
    let s : ContextState _ _ _ _ _ _ _ = record { records = i.records; types = i.types; next_value = i.next_value; next_use = i.next_use; side = i.side; limits = i.limits } in
    let e = c.pop_definition.ensures in
    rw (sym c.ctx.view_is) (value-taken {s = s} c.ctx.invariant e.keeps (e.linked c.ctx.invariant.linked) (definer_of c.args.definer) (λ xs. length xs - 1) (rw (sym c.ctx.view_is) at c.requires.live) (rw (sym c.ctx.view_is) at c.requires.unused) e.forest).stay_live
