use Rattle.std.proofs.Common.{sym}
use Rattle.ir_core_records.specs.Meaning.{use_of as use_in}
use Rattle.ir_core_replacing.specs.Chosen.{same_use}
use Rattle.ir_core_context.specs.State.{ContextState}
use Rattle.ir_core_context.proofs.Redirected.{block-use-of-same, block-use-placed, some-retargeted}
use Rattle.ir_core_context.proofs.retargeting.PtrBasicBlockRetarget.retarget_pred_to.Goals as goal

pub retarget_pred-requires-clause-has : goal.retarget_pred-requires-clause-has
retarget_pred-requires-clause-has g c = block-use-placed c.ctx.inside.records c.args.used.index c.args.self.index (rw (sym c.ctx.view_is) at c.requires.names)

pub returns-in_err-retarget_pred-clause-itself : goal.returns-in_err-retarget_pred-clause-itself
returns-in_err-retarget_pred-clause-itself g c same = absurd (let never = block-use-of-same c.ctx.inside.records c.args.used.index c.args.self.index c.args.other.index (rw (sym c.ctx.view_is) at c.requires.names) same c.in_err-retarget_pred.ensures.itself in cc)

pub invariant_of-ctx-2 : goal.invariant_of-ctx-2
invariant_of-ctx-2 g c =
    let i = c.ctx.inside in
    let s : ContextState _ _ _ _ _ _ _ = record { records = i.records; types = i.types; next_value = i.next_value; next_use = i.next_use; side = i.side; limits = i.limits } in
    let e = c.in_ok-retarget_pred.ensures in
    (some-retargeted {s = s} c.ctx.invariant e.keeps e.linked (same_use (use_in c.args.used.index)) c.args.other.index (rw (sym c.ctx.view_is) at c.requires.other_live) e.forest).sound

pub returns-clause-rest : goal.returns-clause-rest
returns-clause-rest g c =
    let i = c.ctx.inside in
    let s : ContextState _ _ _ _ _ _ _ = record { records = i.records; types = i.types; next_value = i.next_value; next_use = i.next_use; side = i.side; limits = i.limits } in
    let e = c.in_ok-retarget_pred.ensures in
    rw (sym c.ctx.view_is) (some-retargeted {s = s} c.ctx.invariant e.keeps e.linked (same_use (use_in c.args.used.index)) c.args.other.index (rw (sym c.ctx.view_is) at c.requires.other_live) e.forest).rest

pub returns-clause-keeps : goal.returns-clause-keeps
returns-clause-keeps g c =
    let i = c.ctx.inside in
    let s : ContextState _ _ _ _ _ _ _ = record { records = i.records; types = i.types; next_value = i.next_value; next_use = i.next_use; side = i.side; limits = i.limits } in
    let e = c.in_ok-retarget_pred.ensures in
    rw (sym c.ctx.view_is) (some-retargeted {s = s} c.ctx.invariant e.keeps e.linked (same_use (use_in c.args.used.index)) c.args.other.index (rw (sym c.ctx.view_is) at c.requires.other_live) e.forest).keeps
