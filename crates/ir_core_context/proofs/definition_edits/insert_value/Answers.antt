use Rattle.std.proofs.Common.{refl, sym, arith}
use Rattle.ir_model.specs.Changes.{definition}
use Rattle.ir_model.proofs.Entries.{AddsOne-insert}
use Rattle.ir_core_records.specs.Meaning.{definer_of}
use Rattle.ir_core_context.specs.Definitions.{definition_inserted}
use Rattle.ir_core_context.specs.Sound.{IsSound}
use Rattle.ir_core_context.specs.State.{ContextState, forest_of}
use Rattle.ir_core_context.proofs.PlacedValues.{next-value, value-count, value-placed}
use Rattle.ir_core_context.proofs.definition_edits.insert_value.Goals as goal

pub insert_definition-requires-clause-new_number : goal.insert_definition-requires-clause-new_number
insert_definition-requires-clause-new_number g c = next-value c.ctx.invariant c.args.definer

pub insert_definition-requires-clause-within : goal.insert_definition-requires-clause-within
insert_definition-requires-clause-within g c = let many = value-count c.ctx.inside.records c.args.definer in let within = rw (sym c.ctx.view_is) at c.requires.in_range in omega (arith, many, within)

pub invariant_of-ctx-2 : goal.invariant_of-ctx-2
invariant_of-ctx-2 g c =
    let i = c.ctx.inside in
    let s : ContextState _ _ _ _ _ _ _ = record { records = i.records; types = i.types; next_value = i.next_value; next_use = i.next_use; side = i.side; limits = i.limits } in
    let e = c.in_ok-insert_definition.ensures in
    let d = definer_of c.args.definer in
    (value-placed {s = s} c.ctx.invariant e.keeps (e.linked c.ctx.invariant.linked) (rw (sym c.ctx.view_is) at c.in_ok-has_value_number.ensures.enough) d c.args.ty.place _ (rw (sym c.ctx.view_is) at c.requires.live) (rw (sym c.ctx.view_is) at c.requires.known)
    (λ xs. AddsOne-insert (definition (s.next_value, c.args.ty.place)) xs c.args.index) (definition_inserted (forest_of s) d c.args.index c.args.ty.place) e.forest refl).sound

pub returns-clause-made : goal.returns-clause-made
returns-clause-made g c =
    let i = c.ctx.inside in
    let s : ContextState _ _ _ _ _ _ _ = record { records = i.records; types = i.types; next_value = i.next_value; next_use = i.next_use; side = i.side; limits = i.limits } in
    let e = c.in_ok-insert_definition.ensures in
    let d = definer_of c.args.definer in
    rw (sym c.ctx.view_is) (value-placed {s = s} c.ctx.invariant e.keeps (e.linked c.ctx.invariant.linked) (rw (sym c.ctx.view_is) at c.in_ok-has_value_number.ensures.enough) d c.args.ty.place _ (rw (sym c.ctx.view_is) at c.requires.live) (rw (sym c.ctx.view_is) at c.requires.known)
    (λ xs. AddsOne-insert (definition (s.next_value, c.args.ty.place)) xs c.args.index) (definition_inserted (forest_of s) d c.args.index c.args.ty.place) e.forest refl).made

pub returns-clause-keeps : goal.returns-clause-keeps
returns-clause-keeps g c =
    let i = c.ctx.inside in
    let s : ContextState _ _ _ _ _ _ _ = record { records = i.records; types = i.types; next_value = i.next_value; next_use = i.next_use; side = i.side; limits = i.limits } in
    let e = c.in_ok-insert_definition.ensures in
    let d = definer_of c.args.definer in
    rw (sym c.ctx.view_is) (value-placed {s = s} c.ctx.invariant e.keeps (e.linked c.ctx.invariant.linked) (rw (sym c.ctx.view_is) at c.in_ok-has_value_number.ensures.enough) d c.args.ty.place _ (rw (sym c.ctx.view_is) at c.requires.live) (rw (sym c.ctx.view_is) at c.requires.known)
    (λ xs. AddsOne-insert (definition (s.next_value, c.args.ty.place)) xs c.args.index) (definition_inserted (forest_of s) d c.args.index c.args.ty.place) e.forest refl).keeps
