use Rattle.std.proofs.Common.{sym}
use Rattle.ir_core_context.specs.Creation.{HoldTogether}
use Rattle.ir_core_context.specs.State.{ContextState}
use Rattle.ir_core_context.proofs.CreatedRegion.{created-region-keeps, created-region-made, created-region-skips, created-region-sound}
use Rattle.ir_core_context.proofs.creation.create_region.Goals as goal

pub invariant_of-ctx : goal.invariant_of-ctx
invariant_of-ctx g c =
    let i = c.ctx.inside in
    let s : ContextState _ _ _ _ _ _ _ = record { records = i.records; types = i.types; next_value = i.next_value; next_use = i.next_use; side = i.side; limits = i.limits } in
    let e = c.add_region.ensures in
    let together : HoldTogether c.add_region.new.records = record { linked = e.linked c.ctx.invariant.linked; nested = e.nested; own = e.own c.ctx.invariant.own } in
    created-region-sound s c.ctx.invariant c.add_region.new.records together e.op_ids e.blocks c.args.op (rw (sym c.ctx.view_is) at c.requires.live) c.add_region.result e.grows e.forest e.same e.skipped

pub returns-clause-made : goal.returns-clause-made
returns-clause-made g c =
    let i = c.ctx.inside in
    let s : ContextState _ _ _ _ _ _ _ = record { records = i.records; types = i.types; next_value = i.next_value; next_use = i.next_use; side = i.side; limits = i.limits } in
    let e = c.add_region.ensures in
    let together : HoldTogether c.add_region.new.records = record { linked = e.linked c.ctx.invariant.linked; nested = e.nested; own = e.own c.ctx.invariant.own } in
    rw (sym c.ctx.view_is) (created-region-made s c.ctx.invariant c.add_region.new.records together e.op_ids e.blocks c.args.op (rw (sym c.ctx.view_is) at c.requires.live) c.add_region.result e.grows e.forest)

pub returns-clause-keeps : goal.returns-clause-keeps
returns-clause-keeps g c =
    let i = c.ctx.inside in
    let s : ContextState _ _ _ _ _ _ _ = record { records = i.records; types = i.types; next_value = i.next_value; next_use = i.next_use; side = i.side; limits = i.limits } in
    rw (sym c.ctx.view_is) (created-region-keeps s c.add_region.new.records c.args.op c.add_region.result c.add_region.ensures.forest)

pub returns-clause-refused : goal.returns-clause-refused
returns-clause-refused g c =
    let i = c.ctx.inside in
    let s : ContextState _ _ _ _ _ _ _ = record { records = i.records; types = i.types; next_value = i.next_value; next_use = i.next_use; side = i.side; limits = i.limits } in
    let e = c.add_region.ensures in
    let together : HoldTogether c.add_region.new.records = record { linked = e.linked c.ctx.invariant.linked; nested = e.nested; own = e.own c.ctx.invariant.own } in
    rw (sym c.ctx.view_is) (created-region-skips s c.ctx.invariant c.add_region.new.records together e.op_ids e.blocks c.args.op (rw (sym c.ctx.view_is) at c.requires.live) c.add_region.result e.same e.skipped)
