use Rattle.std.proofs.Common.{sym}
use Rattle.ir_core_context.specs.State.{ContextState}
use Rattle.ir_core_context.proofs.Redirected.{all-retargeted, all-targets-taken}
use Rattle.ir_core_context.proofs.retargeting.PtrBasicBlockRetarget.retarget_all_preds_to.Goals as goal

pub invariant_of-ctx-2 : goal.invariant_of-ctx-2
invariant_of-ctx-2 g c =
    let i = c.ctx.inside in
    let s : ContextState _ _ _ _ _ _ _ = record { records = i.records; types = i.types; next_value = i.next_value; next_use = i.next_use; side = i.side; limits = i.limits } in
    let e = c.in_ok-retarget_all_preds.ensures in
    (all-retargeted {s = s} c.ctx.invariant e.keeps e.linked c.args.self.index c.args.other.index (rw (sym c.ctx.view_is) at c.requires.other_live) e.forest).sound

pub returns-clause-rest : goal.returns-clause-rest
returns-clause-rest g c =
    let i = c.ctx.inside in
    let s : ContextState _ _ _ _ _ _ _ = record { records = i.records; types = i.types; next_value = i.next_value; next_use = i.next_use; side = i.side; limits = i.limits } in
    let e = c.in_ok-retarget_all_preds.ensures in
    rw (sym c.ctx.view_is) (all-retargeted {s = s} c.ctx.invariant e.keeps e.linked c.args.self.index c.args.other.index (rw (sym c.ctx.view_is) at c.requires.other_live) e.forest).rest

pub returns-clause-keeps : goal.returns-clause-keeps
returns-clause-keeps g c =
    let i = c.ctx.inside in
    let s : ContextState _ _ _ _ _ _ _ = record { records = i.records; types = i.types; next_value = i.next_value; next_use = i.next_use; side = i.side; limits = i.limits } in
    let e = c.in_ok-retarget_all_preds.ensures in
    rw (sym c.ctx.view_is) (all-retargeted {s = s} c.ctx.invariant e.keeps e.linked c.args.self.index c.args.other.index (rw (sym c.ctx.view_is) at c.requires.other_live) e.forest).keeps

pub returns-clause-counts : goal.returns-clause-counts
returns-clause-counts g c differ =
    let i = c.ctx.inside in
    let s : ContextState _ _ _ _ _ _ _ = record { records = i.records; types = i.types; next_value = i.next_value; next_use = i.next_use; side = i.side; limits = i.limits } in
    let e = c.in_ok-retarget_all_preds.ensures in
    rw (sym c.ctx.view_is) (all-targets-taken {s = s} c.ctx.invariant e.keeps e.linked c.args.self.index c.args.other.index differ e.forest)
