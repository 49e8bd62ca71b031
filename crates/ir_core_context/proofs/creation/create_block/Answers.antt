use Rattle.std.proofs.Common.{◌≡◌, All, List, [], sym, subst}
use Rattle.ir_core_records.specs.declared.record.Definition.{Definition}
use Rattle.ir_core_context.specs.Creation.{HoldTogether}
use Rattle.ir_core_context.specs.State.{ContextState}
use Rattle.ir_core_context.proofs.CreatedBlock.{created-block-keeps, created-block-made, created-block-sound}
use Rattle.ir_core_context.proofs.MadeParts.{definitions-unused}
use Rattle.ir_core_context.proofs.creation.create_block.Goals as goal

pub insert_block-requires-clause-unused : goal.insert_block-requires-clause-unused
insert_block-requires-clause-unused g c = subst (λ (xs : List Definition). All (λ (r : Definition). r.uses ≡ []) xs) (sym c.in_ok-arguments.ensures) (definitions-unused c.ctx.inside.next_value c.args.types.now)

pub invariant_of-ctx-2 : goal.invariant_of-ctx-2
invariant_of-ctx-2 g c =
    let i = c.ctx.inside in
    let s : ContextState _ _ _ _ _ _ _ = record { records = i.records; types = i.types; next_value = i.next_value; next_use = i.next_use; side = i.side; limits = i.limits } in
    let e = c.in_ok-block.ensures in
    let together : HoldTogether c.insert_block.new.records = record { linked = e.linked c.ctx.invariant.linked; nested = e.nested; own = e.own c.ctx.invariant.own } in
    created-block-sound s c.insert_block.new.records g.D.Dialects.unknown c.in_ok-block.block c.args.label c.in_ok-arguments.arguments e.grows e.forest
    c.ctx.invariant together c.args.types.now c.in_ok-arguments.ensures e.ops e.regions (rw (sym c.ctx.view_is) at c.requires.types) (rw (sym c.ctx.view_is) at c.requires.room)

pub returns-clause-made : goal.returns-clause-made
returns-clause-made g c =
    let i = c.ctx.inside in
    let s : ContextState _ _ _ _ _ _ _ = record { records = i.records; types = i.types; next_value = i.next_value; next_use = i.next_use; side = i.side; limits = i.limits } in
    let e = c.in_ok-block.ensures in
    let together : HoldTogether c.insert_block.new.records = record { linked = e.linked c.ctx.invariant.linked; nested = e.nested; own = e.own c.ctx.invariant.own } in
    rw (sym c.ctx.view_is)
    (created-block-made s c.insert_block.new.records g.D.Dialects.unknown c.in_ok-block.block c.args.label c.in_ok-arguments.arguments e.grows e.forest
    c.ctx.invariant together c.args.types.now c.in_ok-arguments.ensures e.ops e.regions (rw (sym c.ctx.view_is) at c.requires.types) (rw (sym c.ctx.view_is) at c.requires.room))

pub returns-clause-keeps : goal.returns-clause-keeps
returns-clause-keeps g c =
    let i = c.ctx.inside in
    let s : ContextState _ _ _ _ _ _ _ = record { records = i.records; types = i.types; next_value = i.next_value; next_use = i.next_use; side = i.side; limits = i.limits } in
    let e = c.in_ok-block.ensures in
    rw (sym c.ctx.view_is) (created-block-keeps s c.insert_block.new.records g.D.Dialects.unknown c.in_ok-block.block c.args.label c.in_ok-arguments.arguments e.grows e.forest _)
