use Rattle.std.proofs.Common.{sym}
use Rattle.ir_core_records.specs.Meaning.{use_of as use_in, value_of as value_in}
use Rattle.ir_core_replacing.specs.Chosen.{same_use}
use Rattle.ir_core_context.specs.Named.{live-value}
use Rattle.ir_core_context.specs.State.{ContextState}
use Rattle.ir_core_context.proofs.Redirected.{some-redirected, use-of-same, use-placed}
use Rattle.ir_core_context.proofs.value_edits.ValueValueEdits.replace_use_with.Goals as goal

pub replace_use-requires-clause-has : goal.replace_use-requires-clause-has
replace_use-requires-clause-has g c = use-placed c.ctx.inside.records c.args.used.index (value_in c.args.self.index) (rw (sym c.ctx.view_is) at c.requires.names)

pub replace_use-requires-clause-named : goal.replace_use-requires-clause-named
replace_use-requires-clause-named g c = live-value c.ctx.inside.records c.args.other.index (rw (sym c.ctx.view_is) at c.requires.other_live)

pub returns-in_err-replace_use-clause-itself : goal.returns-in_err-replace_use-clause-itself
returns-in_err-replace_use-clause-itself g c same = absurd (let never = use-of-same c.ctx.inside.records c.args.used.index c.args.self.index c.args.other.index (rw (sym c.ctx.view_is) at c.requires.names) same c.in_err-replace_use.ensures.itself in cc)

pub invariant_of-ctx-2 : goal.invariant_of-ctx-2
invariant_of-ctx-2 g c =
    let i = c.ctx.inside in
    let s : ContextState _ _ _ _ _ _ _ = record { records = i.records; types = i.types; next_value = i.next_value; next_use = i.next_use; side = i.side; limits = i.limits } in
    let e = c.in_ok-replace_use.ensures in
    (some-redirected {s = s} c.ctx.invariant e.keeps e.linked (same_use (use_in c.args.used.index)) (value_in c.args.other.index) (rw (sym c.ctx.view_is) at c.requires.other_live) e.forest).sound

pub returns-clause-rest : goal.returns-clause-rest
returns-clause-rest g c =
    let i = c.ctx.inside in
    let s : ContextState _ _ _ _ _ _ _ = record { records = i.records; types = i.types; next_value = i.next_value; next_use = i.next_use; side = i.side; limits = i.limits } in
    let e = c.in_ok-replace_use.ensures in
    rw (sym c.ctx.view_is) (some-redirected {s = s} c.ctx.invariant e.keeps e.linked (same_use (use_in c.args.used.index)) (value_in c.args.other.index) (rw (sym c.ctx.view_is) at c.requires.other_live) e.forest).rest

pub returns-clause-keeps : goal.returns-clause-keeps
returns-clause-keeps g c =
    let i = c.ctx.inside in
    let s : ContextState _ _ _ _ _ _ _ = record { records = i.records; types = i.types; next_value = i.next_value; next_use = i.next_use; side = i.side; limits = i.limits } in
    let e = c.in_ok-replace_use.ensures in
    rw (sym c.ctx.view_is) (some-redirected {s = s} c.ctx.invariant e.keeps e.linked (same_use (use_in c.args.used.index)) (value_in c.args.other.index) (rw (sym c.ctx.view_is) at c.requires.other_live) e.forest).keeps
