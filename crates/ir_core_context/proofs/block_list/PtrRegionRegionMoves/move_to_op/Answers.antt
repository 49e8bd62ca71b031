use Rattle.std.proofs.Common.{sym}
use Rattle.ir_core_context.proofs.Edited.{region-moved-edited, same-edited}
use Rattle.ir_core_context.proofs.block_list.PtrRegionRegionMoves.move_to_op.Goals as goal

pub invariant_of-ctx : goal.invariant_of-ctx
invariant_of-ctx g c = let e = c.in_err-move_region.ensures in (same-edited c.ctx.invariant e.keeps e.nested e.same).sound

pub invariant_of-ctx-2 : goal.invariant_of-ctx-2
invariant_of-ctx-2 g c =
    let e = c.in_ok-move_region.ensures in
    let live = rw (sym c.ctx.view_is) at c.requires.live in
    let op_live = rw (sym c.ctx.view_is) at c.requires.op_live in
    let outside = rw (sym c.ctx.view_is) at c.requires.outside in
    (region-moved-edited c.ctx.invariant e.keeps e.nested c.args.self.index c.args.op.index _ live op_live outside e.forest).sound

pub returns-clause-forest : goal.returns-clause-forest
returns-clause-forest g c = rw (sym c.ctx.view_is) c.in_ok-move_region.ensures.forest

pub returns-clause-keeps : goal.returns-clause-keeps
returns-clause-keeps g c =
    let e = c.in_ok-move_region.ensures in
    let live = rw (sym c.ctx.view_is) at c.requires.live in
    let op_live = rw (sym c.ctx.view_is) at c.requires.op_live in
    let outside = rw (sym c.ctx.view_is) at c.requires.outside in
    rw (sym c.ctx.view_is) (region-moved-edited c.ctx.invariant e.keeps e.nested c.args.self.index c.args.op.index _ live op_live outside e.forest).keeps
