use Rattle.std.proofs.Common.{Bool, List, ap, length, sym, subst, ◌∙◌}
use Rattle.ir_model.specs.Forest.{a_value}
use Rattle.ir_core_records.specs.Meaning.{value_of as value_in}
use Rattle.ir_core_records.specs.Table.{uses_at}
use Rattle.ir_core_replacing.specs.Chosen.{is_chosen}
use Rattle.ir_core_context.specs.Asked.{AreAnswers}
use Rattle.ir_core_context.specs.Named.{live-value}
use Rattle.ir_core_context.specs.State.{ContextState, forest_of}
use Rattle.ir_core_context.proofs.Asked.{chosen-by}
use Rattle.ir_core_context.proofs.ExactUses.{uses-exact}
use Rattle.ir_core_context.proofs.Redirected.{some-redirected}
use Rattle.ir_core_context.proofs.value_edits.ValueValueEdits.replace_some_uses_with.Goals as goal

pub replace_some_uses-requires-clause-old : goal.replace_some_uses-requires-clause-old
replace_some_uses-requires-clause-old g c = live-value c.ctx.inside.records c.args.self.index (rw (sym c.ctx.view_is) at c.requires.live)

pub replace_some_uses-requires-clause-named : goal.replace_some_uses-requires-clause-named
replace_some_uses-requires-clause-named g c = live-value c.ctx.inside.records c.args.other.index (rw (sym c.ctx.view_is) at c.requires.other_live)

pub replace_some_uses-requires-clause-count : goal.replace_some_uses-requires-clause-count
replace_some_uses-requires-clause-count g c =
    let are = rw (sym c.ctx.view_is) at c.in_ok-answers.ensures.answers in
    ap (λ (bs : List Bool). length bs) c.as_slice.ensures.value ∙ are.count

pub returns-clause-forest : goal.returns-clause-forest
returns-clause-forest g c =
    let i = c.ctx.inside in
    let s : ContextState _ _ _ _ _ _ _ = record { records = i.records; types = i.types; next_value = i.next_value; next_use = i.next_use; side = i.side; limits = i.limits } in
    let us = uses_at i.records c.args.self.index in
    let bs = c.as_slice.result.now in
    let are = rw (sym c.ctx.view_is) at c.in_ok-answers.ensures.answers in
    rw (sym c.ctx.view_is) (
      is_chosen us bs,
      chosen-by _ (forest_of s) (a_value (value_in c.args.self.index)) us bs (uses-exact s c.ctx.invariant.linked c.args.self.index) (subst (AreAnswers _ us) (sym c.as_slice.ensures.value) are),
      c.in_ok-replace_some_uses.ensures.forest,
    )

pub invariant_of-ctx-2 : goal.invariant_of-ctx-2
invariant_of-ctx-2 g c =
    let i = c.ctx.inside in
    let s : ContextState _ _ _ _ _ _ _ = record { records = i.records; types = i.types; next_value = i.next_value; next_use = i.next_use; side = i.side; limits = i.limits } in
    let e = c.in_ok-replace_some_uses.ensures in
    (some-redirected {s = s} c.ctx.invariant e.keeps e.linked (is_chosen (uses_at i.records c.args.self.index) c.as_slice.result.now) (value_in c.args.other.index) (rw (sym c.ctx.view_is) at c.requires.other_live) e.forest).sound

pub returns-clause-rest : goal.returns-clause-rest
returns-clause-rest g c =
    let i = c.ctx.inside in
    let s : ContextState _ _ _ _ _ _ _ = record { records = i.records; types = i.types; next_value = i.next_value; next_use = i.next_use; side = i.side; limits = i.limits } in
    let e = c.in_ok-replace_some_uses.ensures in
    rw (sym c.ctx.view_is) (some-redirected {s = s} c.ctx.invariant e.keeps e.linked (is_chosen (uses_at i.records c.args.self.index) c.as_slice.result.now) (value_in c.args.other.index) (rw (sym c.ctx.view_is) at c.requires.other_live) e.forest).rest

pub returns-clause-keeps : goal.returns-clause-keeps
returns-clause-keeps g c =
    let i = c.ctx.inside in
    let s : ContextState _ _ _ _ _ _ _ = record { records = i.records; types = i.types; next_value = i.next_value; next_use = i.next_use; side = i.side; limits = i.limits } in
    let e = c.in_ok-replace_some_uses.ensures in
    rw (sym c.ctx.view_is) (some-redirected {s = s} c.ctx.invariant e.keeps e.linked (is_chosen (uses_at i.records c.args.self.index) c.as_slice.result.now) (value_in c.args.other.index) (rw (sym c.ctx.view_is) at c.requires.other_live) e.forest).keeps
