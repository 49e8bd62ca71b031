use Rattle.std.proofs.Common.{sym}
use Rattle.ir_model.specs.Changes.{put_before}
use Rattle.ir_model.specs.ContextIds.{same_id}
use Rattle.ir_model.proofs.KeepsLists.{joins_before}
use Rattle.ir_model.proofs.TwoRuns.{id_tells}
use Rattle.ir_core_context.proofs.Edited.{op-beside-edited}
use Rattle.ir_core_context.proofs.operation_list.PtrOperationOperationList.insert_before.Goals as goal

pub invariant_of-ctx : goal.invariant_of-ctx
invariant_of-ctx g c =
    let e = c.insert_before.ensures in
    let live = rw (sym c.ctx.view_is) at c.requires.live in
    let may = rw (sym c.ctx.view_is) at c.requires.may_go in
    (op-beside-edited c.ctx.invariant e.keeps e.nested c.args.self.index c.args.mark.index (put_before same_id c.args.self.index c.args.mark.index) (joins_before same_id id_tells c.args.self.index c.args.mark.index) live may e.forest).sound

pub returns-clause-forest : goal.returns-clause-forest
returns-clause-forest g c = rw (sym c.ctx.view_is) c.insert_before.ensures.forest

pub returns-clause-rest : goal.returns-clause-rest
returns-clause-rest g c =
    let e = c.insert_before.ensures in
    let live = rw (sym c.ctx.view_is) at c.requires.live in
    let may = rw (sym c.ctx.view_is) at c.requires.may_go in
    rw (sym c.ctx.view_is) (op-beside-edited c.ctx.invariant e.keeps e.nested c.args.self.index c.args.mark.index (put_before same_id c.args.self.index c.args.mark.index) (joins_before same_id id_tells c.args.self.index c.args.mark.index) live may e.forest).rest

pub returns-clause-keeps : goal.returns-clause-keeps
returns-clause-keeps g c =
    let e = c.insert_before.ensures in
    let live = rw (sym c.ctx.view_is) at c.requires.live in
    let may = rw (sym c.ctx.view_is) at c.requires.may_go in
    rw (sym c.ctx.view_is) (op-beside-edited c.ctx.invariant e.keeps e.nested c.args.self.index c.args.mark.index (put_before same_id c.args.self.index c.args.mark.index) (joins_before same_id id_tells c.args.self.index c.args.mark.index) live may e.forest).keeps
