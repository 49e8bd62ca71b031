use Rattle.std.proofs.Common.{sym}
use Rattle.ir_core_context.proofs.Edited.{ops-joined-edited}
use Rattle.ir_core_context.proofs.operation_list.PtrBasicBlockOperationContainer.append_linked_list.Goals as goal

pub invariant_of-ctx : goal.invariant_of-ctx
invariant_of-ctx g c =
    let e = c.append.ensures in
    let live = rw (sym c.ctx.view_is) at c.requires.donor_live in
    let may = rw (sym c.ctx.view_is) at c.requires.may_join in
    (ops-joined-edited c.ctx.invariant e.keeps e.nested c.args.self.index c.args.donor.index live may e.forest).sound

pub returns-clause-forest : goal.returns-clause-forest
returns-clause-forest g c = rw (sym c.ctx.view_is) c.append.ensures.forest

pub returns-clause-rest : goal.returns-clause-rest
returns-clause-rest g c =
    let e = c.append.ensures in
    let live = rw (sym c.ctx.view_is) at c.requires.donor_live in
    let may = rw (sym c.ctx.view_is) at c.requires.may_join in
    rw (sym c.ctx.view_is) (ops-joined-edited c.ctx.invariant e.keeps e.nested c.args.self.index c.args.donor.index live may e.forest).rest

pub returns-clause-keeps : goal.returns-clause-keeps
returns-clause-keeps g c =
    let e = c.append.ensures in
    let live = rw (sym c.ctx.view_is) at c.requires.donor_live in
    let may = rw (sym c.ctx.view_is) at c.requires.may_join in
    rw (sym c.ctx.view_is) (ops-joined-edited c.ctx.invariant e.keeps e.nested c.args.self.index c.args.donor.index live may e.forest).keeps
