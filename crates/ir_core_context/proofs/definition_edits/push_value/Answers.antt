use Rattle.std.proofs.Common.{refl, sym, subst, ◌∙◌}
use Rattle.ir_model.specs.Changes.{definition}
use Rattle.ir_model.proofs.Entries.{AddsOne-push}
use Rattle.ir_core_records.specs.Meaning.{definer_of}
use Rattle.ir_core_context.specs.Definitions.{definition_pushed}
use Rattle.ir_core_context.specs.Sound.{IsSound}
use Rattle.ir_core_context.specs.State.{ContextState, forest_of}
use Rattle.ir_core_context.proofs.PlacedValues.{next-value, value-count, value-placed}
use Rattle.ir_core_context.proofs.definition_edits.push_value.Goals as goal

pub push_definition-requires-clause-new_number : goal.push_definition-requires-clause-new_number
push_definition-requires-clause-new_number g c = next-value c.ctx.invariant c.args.definer

pub invariant_of-ctx-2 : goal.invariant_of-ctx-2
invariant_of-ctx-2 g c =
    let i = c.ctx.inside in
    let s : ContextState _ _ _ _ _ _ _ = record { records = i.records; types = i.types; next_value = i.next_value; next_use = i.next_use; side = i.side; limits = i.limits } in
    let e = c.in_ok-index.ensures in
    let d = definer_of c.args.definer in
    (value-placed {s = s} c.ctx.invariant e.keeps (e.linked c.ctx.invariant.linked) (rw (sym c.ctx.view_is) at c.in_ok-has_value_number.ensures.enough) d c.args.ty.place _ (rw (sym c.ctx.view_is) at c.requires.live) (rw (sym c.ctx.view_is) at c.requires.known)
    (AddsOne-push (definition (s.next_value, c.args.ty.place))) (definition_pushed (forest_of s) d c.args.ty.place) e.forest refl).sound

pub returns-clause-index : goal.returns-clause-index
returns-clause-index g c = rw (sym c.ctx.view_is) (c.in_ok-index.ensures.index ∙ sym (value-count c.ctx.inside.records c.args.definer))

pub returns-clause-made : goal.returns-clause-made
returns-clause-made g c =
    let i = c.ctx.inside in
    let s : ContextState _ _ _ _ _ _ _ = record { records = i.records; types = i.types; next_value = i.next_value; next_use = i.next_use; side = i.side; limits = i.limits } in
    let e = c.in_ok-index.ensures in
    let d = definer_of c.args.definer in
    rw (sym c.ctx.view_is) (value-placed {s = s} c.ctx.invariant e.keeps (e.linked c.ctx.invariant.linked) (rw (sym c.ctx.view_is) at c.in_ok-has_value_number.ensures.enough) d c.args.ty.place _ (rw (sym c.ctx.view_is) at c.requires.live) (rw (sym c.ctx.view_is) at c.requires.known)
    (AddsOne-push (definition (s.next_value, c.args.ty.place))) (definition_pushed (forest_of s) d c.args.ty.place) e.forest refl).made

pub returns-clause-keeps : goal.returns-clause-keeps
returns-clause-keeps g c =
    let i = c.ctx.inside in
    let s : ContextState _ _ _ _ _ _ _ = record { records = i.records; types = i.types; next_value = i.next_value; next_use = i.next_use; side = i.side; limits = i.limits } in
    let e = c.in_ok-index.ensures in
    let d = definer_of c.args.definer in
    rw (sym c.ctx.view_is) (value-placed {s = s} c.ctx.invariant e.keeps (e.linked c.ctx.invariant.linked) (rw (sym c.ctx.view_is) at c.in_ok-has_value_number.ensures.enough) d c.args.ty.place _ (rw (sym c.ctx.view_is) at c.requires.live) (rw (sym c.ctx.view_is) at c.requires.known)
    (AddsOne-push (definition (s.next_value, c.args.ty.place))) (definition_pushed (forest_of s) d c.args.ty.place) e.forest refl).keeps
