use Rattle.std.proofs.Common.{◌≡◌, ◌+◌, List, [], length, All, refl, sym, subst}
use Rattle.ir_core_records.specs.declared.record.Definition.{Definition}
use Rattle.ir_core_context.specs.Calls.{op_needs}
use Rattle.ir_core_context.specs.State.{ContextState, bare}
use Rattle.ir_core_context.proofs.Answers.{err_holds}
use Rattle.ir_core_context.proofs.CreatedOperations.{created-keeps, created-made, created-sound}
use Rattle.ir_core_context.proofs.Handed.{skipped-skips, skipped-sound, skips-nothing}
use Rattle.ir_core_context.proofs.MadeParts.{definitions-unused}
use Rattle.ir_core_context.proofs.creation.create_operation.Goals as goal

pub returns-in_err-results-clause-refused : goal.returns-in_err-results-clause-refused
returns-in_err-results-clause-refused g c = err_holds c.from_residual.result (skips-nothing (bare c.args.ctx.now) (op_needs (length c.args.parts.now.types.now) (length c.args.parts.now.operands.now + length c.args.parts.now.successors.now) c.args.parts.now.num_regions))

pub insert_whole-requires-clause-unused : goal.insert_whole-requires-clause-unused
insert_whole-requires-clause-unused g c = subst (λ (rs : List Definition). All (λ (r : Definition). r.uses ≡ []) rs) (sym c.in_ok-results.ensures) (definitions-unused c.ctx.inside.next_value c.args.parts.now.types.now)

pub invariant_of-ctx : goal.invariant_of-ctx
invariant_of-ctx g c =
    let s : ContextState g.row.D.Denot g.row.D-Attr.Denot g.row.D-TypeKey.Denot g.row.D-TypeBody.Denot g.row.D-Saved.Denot g.row.D-Aux.Denot g.row.D-Loc.Denot =
    record { records = c.ctx.inside.records; types = c.ctx.inside.types; next_value = c.ctx.inside.next_value; next_use = c.ctx.inside.next_use; side = c.ctx.inside.side; limits = c.ctx.inside.limits } in
    skipped-sound s c.ctx.invariant c.insert_whole.new.records c.insert_whole.ensures.together c.in_err-op.ensures.same 1 0 c.args.parts.now.num_regions c.in_err-op.ensures.skipped

pub returns-in_err-op-clause-refused : goal.returns-in_err-op-clause-refused
returns-in_err-op-clause-refused g c =
    let s : ContextState g.row.D.Denot g.row.D-Attr.Denot g.row.D-TypeKey.Denot g.row.D-TypeBody.Denot g.row.D-Saved.Denot g.row.D-Aux.Denot g.row.D-Loc.Denot =
    record { records = c.ctx.inside.records; types = c.ctx.inside.types; next_value = c.ctx.inside.next_value; next_use = c.ctx.inside.next_use; side = c.ctx.inside.side; limits = c.ctx.inside.limits } in
    err_holds c.from_residual-in_err-op.result (rw (sym c.ctx.view_is) (skipped-skips s c.ctx.invariant c.insert_whole.new.records c.insert_whole.ensures.together c.in_err-op.ensures.same 1 0 c.args.parts.now.num_regions c.in_err-op.ensures.skipped (length c.args.parts.now.types.now) (length c.args.parts.now.operands.now + length c.args.parts.now.successors.now)))

pub invariant_of-ctx-2 : goal.invariant_of-ctx-2
invariant_of-ctx-2 g c =
    let s : ContextState g.row.D.Denot g.row.D-Attr.Denot g.row.D-TypeKey.Denot g.row.D-TypeBody.Denot g.row.D-Saved.Denot g.row.D-Aux.Denot g.row.D-Loc.Denot =
    record { records = c.ctx.inside.records; types = c.ctx.inside.types; next_value = c.ctx.inside.next_value; next_use = c.ctx.inside.next_use; side = c.ctx.inside.side; limits = c.ctx.inside.limits } in
    let p = c.args.parts.now in
    let known = rw (sym c.ctx.view_is) at c.requires.types in
    let values = rw (sym c.ctx.view_is) at c.requires.operands in
    let blocks = rw (sym c.ctx.view_is) at c.requires.successors in
    let room = rw (sym c.ctx.view_is) at c.requires.room in
    created-sound s c.ctx.invariant c.insert_whole.new.records c.insert_whole.ensures.together g.D.Dialects.unknown c.in_ok-op.op p.kind p.types.now c.in_ok-results.results c.in_ok-results.ensures (λ v. v.index) (λ b. b.index) p.operands.now p.successors.now p.num_regions known values blocks room c.in_ok-op.ensures.made

pub returns-clause-made : goal.returns-clause-made
returns-clause-made g c =
    let s : ContextState g.row.D.Denot g.row.D-Attr.Denot g.row.D-TypeKey.Denot g.row.D-TypeBody.Denot g.row.D-Saved.Denot g.row.D-Aux.Denot g.row.D-Loc.Denot =
    record { records = c.ctx.inside.records; types = c.ctx.inside.types; next_value = c.ctx.inside.next_value; next_use = c.ctx.inside.next_use; side = c.ctx.inside.side; limits = c.ctx.inside.limits } in
    let p = c.args.parts.now in
    let known = rw (sym c.ctx.view_is) at c.requires.types in
    let values = rw (sym c.ctx.view_is) at c.requires.operands in
    let blocks = rw (sym c.ctx.view_is) at c.requires.successors in
    let room = rw (sym c.ctx.view_is) at c.requires.room in
    rw (sym c.ctx.view_is) (created-made s c.ctx.invariant c.insert_whole.new.records c.insert_whole.ensures.together g.D.Dialects.unknown c.in_ok-op.op p.kind p.types.now c.in_ok-results.results c.in_ok-results.ensures (λ v. v.index) (λ b. b.index) p.operands.now p.successors.now p.num_regions known values blocks room c.in_ok-op.ensures.made)

pub returns-clause-keeps : goal.returns-clause-keeps
returns-clause-keeps g c = rw (sym c.ctx.view_is) (created-keeps _ _ refl g.D.Dialects.unknown c.in_ok-op.op c.args.parts.now.kind _ _ _ c.args.parts.now.num_regions c.in_ok-op.ensures.made)
