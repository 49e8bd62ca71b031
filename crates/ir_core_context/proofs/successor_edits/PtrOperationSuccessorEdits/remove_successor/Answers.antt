use Rattle.std.proofs.Common.{sym}
use Rattle.ir_core_records.specs.Meaning.{value_of as value_in}
use Rattle.ir_core_context.specs.State.{ContextState, forest_of}
use Rattle.ir_core_context.proofs.TakenUses.{successor-named, successor-still, successor-taken}
use Rattle.ir_core_context.proofs.successor_edits.PtrOperationSuccessorEdits.remove_successor.Goals as goal

pub invariant_of-ctx : goal.invariant_of-ctx
invariant_of-ctx g c =
    let i = c.ctx.inside in
    let s : ContextState _ _ _ _ _ _ _ = record { records = i.records; types = i.types; next_value = i.next_value; next_use = i.next_use; side = i.side; limits = i.limits } in
    let e = c.remove_successor-block.ensures in
    (successor-taken {s = s} c.ctx.invariant e.keeps e.linked c.args.self.index (rw (sym c.ctx.view_is) at c.requires.live) (λ ps. c.args.index) e.forest).sound

pub returns-clause-named : goal.returns-clause-named
returns-clause-named g c =
    let i = c.ctx.inside in
    let s : ContextState _ _ _ _ _ _ _ = record { records = i.records; types = i.types; next_value = i.next_value; next_use = i.next_use; side = i.side; limits = i.limits } in
    let e = c.remove_successor-block.ensures in
    rw (sym c.ctx.view_is, c.from_index.ensures) (successor-named i.records c.args.self.index c.args.index c.remove_successor-block.result e.value)

pub returns-clause-still_live : goal.returns-clause-still_live
returns-clause-still_live g c =
    let i = c.ctx.inside in
    let s : ContextState _ _ _ _ _ _ _ = record { records = i.records; types = i.types; next_value = i.next_value; next_use = i.next_use; side = i.side; limits = i.limits } in
    let e = c.remove_successor-block.ensures in
    rw c.from_index.ensures (successor-still {s = s} c.ctx.invariant e.keeps e.linked c.args.self.index _ e.forest c.args.index c.remove_successor-block.result.index (successor-named i.records c.args.self.index c.args.index c.remove_successor-block.result e.value))

pub returns-clause-rest : goal.returns-clause-rest
returns-clause-rest g c =
    let i = c.ctx.inside in
    let s : ContextState _ _ _ _ _ _ _ = record { records = i.records; types = i.types; next_value = i.next_value; next_use = i.next_use; side = i.side; limits = i.limits } in
    let e = c.remove_successor-block.ensures in
    rw (sym c.ctx.view_is) (successor-taken {s = s} c.ctx.invariant e.keeps e.linked c.args.self.index (rw (sym c.ctx.view_is) at c.requires.live) (λ ps. c.args.index) e.forest).rest

pub returns-clause-keeps : goal.returns-clause-keeps
returns-clause-keeps g c =
    let i = c.ctx.inside in
    let s : ContextState _ _ _ _ _ _ _ = record { records = i.records; types = i.types; next_value = i.next_value; next_use = i.next_use; side = i.side; limits = i.limits } in
    let e = c.remove_successor-block.ensures in
    rw (sym c.ctx.view_is) (successor-taken {s = s} c.ctx.invariant e.keeps e.linked c.args.self.index (rw (sym c.ctx.view_is) at c.requires.live) (λ ps. c.args.index) e.forest).keeps
