use Rattle.std.proofs.Common.{sym}
use Rattle.ir_core_records.specs.Meaning.{value_of as value_in}
use Rattle.ir_core_context.specs.Named.{live-value}
use Rattle.ir_core_context.specs.State.{ContextState}
use Rattle.ir_core_context.proofs.Redirected.{value-retyped}
use Rattle.ir_core_context.proofs.value_edits.ValueValueEdits.set_type.Goals as goal

pub set_type-requires : goal.set_type-requires
set_type-requires g c = live-value c.ctx.inside.records c.args.self.index (rw (sym c.ctx.view_is) at c.requires.live)

pub invariant_of-ctx : goal.invariant_of-ctx
invariant_of-ctx g c =
    let i = c.ctx.inside in
    let s : ContextState _ _ _ _ _ _ _ = record { records = i.records; types = i.types; next_value = i.next_value; next_use = i.next_use; side = i.side; limits = i.limits } in
    let e = c.set_type.ensures in
    (value-retyped {s = s} c.ctx.invariant e.keeps (e.linked c.ctx.invariant.linked) (value_in c.args.self.index) c.args.ty.place (rw (sym c.ctx.view_is) at c.requires.known) e.forest).sound

pub returns-clause-forest : goal.returns-clause-forest
returns-clause-forest g c = rw (sym c.ctx.view_is) c.set_type.ensures.forest

pub returns-clause-rest : goal.returns-clause-rest
returns-clause-rest g c =
    let i = c.ctx.inside in
    let s : ContextState _ _ _ _ _ _ _ = record { records = i.records; types = i.types; next_value = i.next_value; next_use = i.next_use; side = i.side; limits = i.limits } in
    let e = c.set_type.ensures in
    rw (sym c.ctx.view_is) (value-retyped {s = s} c.ctx.invariant e.keeps (e.linked c.ctx.invariant.linked) (value_in c.args.self.index) c.args.ty.place (rw (sym c.ctx.view_is) at c.requires.known) e.forest).rest

pub returns-clause-keeps : goal.returns-clause-keeps
returns-clause-keeps g c =
    let i = c.ctx.inside in
    let s : ContextState _ _ _ _ _ _ _ = record { records = i.records; types = i.types; next_value = i.next_value; next_use = i.next_use; side = i.side; limits = i.limits } in
    let e = c.set_type.ensures in
    rw (sym c.ctx.view_is) (value-retyped {s = s} c.ctx.invariant e.keeps (e.linked c.ctx.invariant.linked) (value_in c.args.self.index) c.args.ty.place (rw (sym c.ctx.view_is) at c.requires.known) e.forest).keeps
