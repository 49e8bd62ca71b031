use Rattle.std.proofs.Common.{refl, sym, subst, arith}
use Rattle.ir_model.specs.Changes.{operand}
use Rattle.ir_model.proofs.KeepsEntries.{replace-puts}
use Rattle.ir_core_records.specs.Meaning.{value_of as value_in}
use Rattle.ir_core_context.specs.Named.{live-value}
use Rattle.ir_core_context.specs.Places.{operand_replaced}
use Rattle.ir_core_context.specs.Sound.{IsSound}
use Rattle.ir_core_context.specs.State.{ContextState, forest_of}
use Rattle.ir_core_context.proofs.PlacedUses.{next-operand, operand-placed}
use Rattle.ir_core_context.proofs.TakenUses.{operand-count}
use Rattle.ir_core_context.proofs.operand_edits.PtrOperationOperandEdits.replace_operand.Goals as goal

pub replace_operand-requires-clause-named : goal.replace_operand-requires-clause-named
replace_operand-requires-clause-named g c =
    let i = c.ctx.inside in
    live-value i.records c.args.value.index (rw (sym c.ctx.view_is) at c.requires.value_live)

pub replace_operand-requires-clause-fresh : goal.replace_operand-requires-clause-fresh
replace_operand-requires-clause-fresh g c = next-operand c.ctx.invariant

pub replace_operand-requires-clause-within : goal.replace_operand-requires-clause-within
replace_operand-requires-clause-within g c = let many = operand-count c.ctx.inside.records c.args.self.index in let within = rw (sym c.ctx.view_is) at c.requires.in_range in omega (arith, many, within)

pub invariant_of-ctx : goal.invariant_of-ctx
invariant_of-ctx g c =
    let i = c.ctx.inside in
    subst IsSound (λ j. record { records = sym c.in_err-replace_operand.ensures.err j; types = i.types; next_value = i.next_value; next_use = i.next_use; side = i.side; limits = i.limits }) c.ctx.invariant

pub invariant_of-ctx-2 : goal.invariant_of-ctx-2
invariant_of-ctx-2 g c =
    let i = c.ctx.inside in
    let s : ContextState _ _ _ _ _ _ _ = record { records = i.records; types = i.types; next_value = i.next_value; next_use = i.next_use; side = i.side; limits = i.limits } in
    let e = c.replace_operand.ensures in
    let d = value_in c.args.value.index in
    (operand-placed {s = s} c.ctx.invariant e.keeps e.linked (rw (sym c.ctx.view_is) at c.in_ok-has_use_number.ensures.enough) (operand_replaced (forest_of s) c.args.self.index c.args.index d) c.in_ok-replace_operand.ensures.forest c.args.self.index
    (rw (sym c.ctx.view_is) at c.requires.live) d _ (rw (sym c.ctx.view_is) at c.requires.value_live) (replace-puts c.args.index (operand (s.next_use, d))) refl).sound

pub returns-clause-made : goal.returns-clause-made
returns-clause-made g c =
    let i = c.ctx.inside in
    let s : ContextState _ _ _ _ _ _ _ = record { records = i.records; types = i.types; next_value = i.next_value; next_use = i.next_use; side = i.side; limits = i.limits } in
    let e = c.replace_operand.ensures in
    let d = value_in c.args.value.index in
    rw (sym c.ctx.view_is) (operand-placed {s = s} c.ctx.invariant e.keeps e.linked (rw (sym c.ctx.view_is) at c.in_ok-has_use_number.ensures.enough) (operand_replaced (forest_of s) c.args.self.index c.args.index d) c.in_ok-replace_operand.ensures.forest c.args.self.index
    (rw (sym c.ctx.view_is) at c.requires.live) d _ (rw (sym c.ctx.view_is) at c.requires.value_live) (replace-puts c.args.index (operand (s.next_use, d))) refl).made

pub returns-clause-keeps : goal.returns-clause-keeps
returns-clause-keeps g c =
    let i = c.ctx.inside in
    let s : ContextState _ _ _ _ _ _ _ = record { records = i.records; types = i.types; next_value = i.next_value; next_use = i.next_use; side = i.side; limits = i.limits } in
    let e = c.replace_operand.ensures in
    let d = value_in c.args.value.index in
    rw (sym c.ctx.view_is) (operand-placed {s = s} c.ctx.invariant e.keeps e.linked (rw (sym c.ctx.view_is) at c.in_ok-has_use_number.ensures.enough) (operand_replaced (forest_of s) c.args.self.index c.args.index d) c.in_ok-replace_operand.ensures.forest c.args.self.index
    (rw (sym c.ctx.view_is) at c.requires.live) d _ (rw (sym c.ctx.view_is) at c.requires.value_live) (replace-puts c.args.index (operand (s.next_use, d))) refl).keeps
