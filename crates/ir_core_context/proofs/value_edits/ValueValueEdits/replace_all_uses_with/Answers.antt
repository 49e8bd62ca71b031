use Rattle.std.proofs.Common.{sym}
use Rattle.ir_core_records.specs.Meaning.{value_of as value_in}
use Rattle.ir_core_context.specs.Named.{live-value}
use Rattle.ir_core_context.specs.State.{ContextState}
use Rattle.ir_core_context.proofs.Redirected.{all-redirected, all-taken}
use Rattle.ir_core_context.proofs.value_edits.ValueValueEdits.replace_all_uses_with.Goals as goal

pub replace_all_uses-requires-clause-old : goal.replace_all_uses-requires-clause-old
replace_all_uses-requires-clause-old g c = live-value c.ctx.inside.records c.args.self.index (rw (sym c.ctx.view_is) at c.requires.live)

pub replace_all_uses-requires-clause-named : goal.replace_all_uses-requires-clause-named
replace_all_uses-requires-clause-named g c = live-value c.ctx.inside.records c.args.other.index (rw (sym c.ctx.view_is) at c.requires.other_live)

pub invariant_of-ctx-2 : goal.invariant_of-ctx-2
invariant_of-ctx-2 g c =
    let i = c.ctx.inside in
    let s : ContextState _ _ _ _ _ _ _ = record { records = i.records; types = i.types; next_value = i.next_value; next_use = i.next_use; side = i.side; limits = i.limits } in
    let e = c.in_ok-replace_all_uses.ensures in
    (all-redirected {s = s} c.ctx.invariant e.keeps e.linked (value_in c.args.self.index) (value_in c.args.other.index) (rw (sym c.ctx.view_is) at c.requires.other_live) e.forest).sound

pub returns-clause-rest : goal.returns-clause-rest
returns-clause-rest g c =
    let i = c.ctx.inside in
    let s : ContextState _ _ _ _ _ _ _ = record { records = i.records; types = i.types; next_value = i.next_value; next_use = i.next_use; side = i.side; limits = i.limits } in
    let e = c.in_ok-replace_all_uses.ensures in
    rw (sym c.ctx.view_is) (all-redirected {s = s} c.ctx.invariant e.keeps e.linked (value_in c.args.self.index) (value_in c.args.other.index) (rw (sym c.ctx.view_is) at c.requires.other_live) e.forest).rest

pub returns-clause-keeps : goal.returns-clause-keeps
returns-clause-keeps g c =
    let i = c.ctx.inside in
    let s : ContextState _ _ _ _ _ _ _ = record { records = i.records; types = i.types; next_value = i.next_value; next_use = i.next_use; side = i.side; limits = i.limits } in
    let e = c.in_ok-replace_all_uses.ensures in
    rw (sym c.ctx.view_is) (all-redirected {s = s} c.ctx.invariant e.keeps e.linked (value_in c.args.self.index) (value_in c.args.other.index) (rw (sym c.ctx.view_is) at c.requires.other_live) e.forest).keeps

pub returns-clause-counts : goal.returns-clause-counts
returns-clause-counts g c differ =
    let i = c.ctx.inside in
    let s : ContextState _ _ _ _ _ _ _ = record { records = i.records; types = i.types; next_value = i.next_value; next_use = i.next_use; side = i.side; limits = i.limits } in
    let e = c.in_ok-replace_all_uses.ensures in
    rw (sym c.ctx.view_is) (all-taken {s = s} c.ctx.invariant e.keeps e.linked (value_in c.args.self.index) (value_in c.args.other.index) differ e.forest)
