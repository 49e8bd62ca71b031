use Rattle.std.proofs.Common.{refl, sym, subst, arith}
use Rattle.ir_model.specs.Changes.{successor}
use Rattle.ir_model.proofs.KeepsEntries.{replace-puts}
use Rattle.ir_core_context.specs.Places.{successor_replaced}
use Rattle.ir_core_context.specs.Sound.{IsSound}
use Rattle.ir_core_context.specs.State.{ContextState, forest_of}
use Rattle.ir_core_context.proofs.Linking.{live-block}
use Rattle.ir_core_context.proofs.PlacedUses.{next-successor, successor-placed}
use Rattle.ir_core_context.proofs.TakenUses.{successor-count}
use Rattle.ir_core_context.proofs.successor_edits.PtrOperationSuccessorEdits.replace_successor.Goals as goal

pub replace_successor-requires-clause-named : goal.replace_successor-requires-clause-named
replace_successor-requires-clause-named g c =
    let i = c.ctx.inside in
    live-block i.records c.args.block.index (rw (sym c.ctx.view_is) at c.requires.block_live)

pub replace_successor-requires-clause-fresh : goal.replace_successor-requires-clause-fresh
replace_successor-requires-clause-fresh g c = next-successor c.ctx.invariant

pub replace_successor-requires-clause-within : goal.replace_successor-requires-clause-within
replace_successor-requires-clause-within g c = let many = successor-count c.ctx.inside.records c.args.self.index in let within = rw (sym c.ctx.view_is) at c.requires.in_range in omega (arith, many, within)

pub invariant_of-ctx : goal.invariant_of-ctx
invariant_of-ctx g c =
    let i = c.ctx.inside in
    subst IsSound (λ j. record { records = sym c.in_err-replace_successor.ensures.err j; types = i.types; next_value = i.next_value; next_use = i.next_use; side = i.side; limits = i.limits }) c.ctx.invariant

pub invariant_of-ctx-2 : goal.invariant_of-ctx-2
invariant_of-ctx-2 g c =
    let i = c.ctx.inside in
    let s : ContextState _ _ _ _ _ _ _ = record { records = i.records; types = i.types; next_value = i.next_value; next_use = i.next_use; side = i.side; limits = i.limits } in
    let e = c.replace_successor.ensures in
    let d = c.args.block.index in
    (successor-placed {s = s} c.ctx.invariant e.keeps e.linked (rw (sym c.ctx.view_is) at c.in_ok-has_use_number.ensures.enough) (successor_replaced (forest_of s) c.args.self.index c.args.index d) c.in_ok-replace_successor.ensures.forest c.args.self.index
    (rw (sym c.ctx.view_is) at c.requires.live) d _ (rw (sym c.ctx.view_is) at c.requires.block_live) (replace-puts c.args.index (successor (s.next_use, d))) refl).sound

pub returns-clause-made : goal.returns-clause-made
returns-clause-made g c =
    let i = c.ctx.inside in
    let s : ContextState _ _ _ _ _ _ _ = record { records = i.records; types = i.types; next_value = i.next_value; next_use = i.next_use; side = i.side; limits = i.limits } in
    let e = c.replace_successor.ensures in
    let d = c.args.block.index in
    rw (sym c.ctx.view_is) (successor-placed {s = s} c.ctx.invariant e.keeps e.linked (rw (sym c.ctx.view_is) at c.in_ok-has_use_number.ensures.enough) (successor_replaced (forest_of s) c.args.self.index c.args.index d) c.in_ok-replace_successor.ensures.forest c.args.self.index
    (rw (sym c.ctx.view_is) at c.requires.live) d _ (rw (sym c.ctx.view_is) at c.requires.block_live) (replace-puts c.args.index (successor (s.next_use, d))) refl).made

pub returns-clause-keeps : goal.returns-clause-keeps
returns-clause-keeps g c =
    let i = c.ctx.inside in
    let s : ContextState _ _ _ _ _ _ _ = record { records = i.records; types = i.types; next_value = i.next_value; next_use = i.next_use; side = i.side; limits = i.limits } in
    let e = c.replace_successor.ensures in
    let d = c.args.block.index in
    rw (sym c.ctx.view_is) (successor-placed {s = s} c.ctx.invariant e.keeps e.linked (rw (sym c.ctx.view_is) at c.in_ok-has_use_number.ensures.enough) (successor_replaced (forest_of s) c.args.self.index c.args.index d) c.in_ok-replace_successor.ensures.forest c.args.self.index
    (rw (sym c.ctx.view_is) at c.requires.live) d _ (rw (sym c.ctx.view_is) at c.requires.block_live) (replace-puts c.args.index (successor (s.next_use, d))) refl).keeps
