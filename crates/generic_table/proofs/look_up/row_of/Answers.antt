use Rattle.std.proofs.Common.{◌<◌, ◌+◌, ◌-◌, ◌/◌, ℕ, List, length, ap, sym, ◌∙◌, arith}
use Rattle.generic_table.specs.Cut.{Operation}
use Rattle.generic_table.specs.Table.{operations}
use Rattle.generic_table.proofs.TableFacts.{operations-length, operations-names_rise, rows-few}
use Rattle.generic_table.proofs.RisingLemmas.{by_name, up_to_below, from_above, position_found, position_none}
use Rattle.generic_table.proofs.look_up.row_of.Goals as goal

pub loop-low-init : goal.loop-low-init
loop-low-init c = (omega (arith, c.count-high.ensures), λ k d lt. absurd (omega (arith, lt)), λ k d le lt. absurd (omega (arith, le, lt, c.count-high.ensures)))

pub name_of-requires : goal.name_of-requires
name_of-requires c = omega (arith, c.loop-low.invariant.0, c.loop-low-test.true)

pub loop-low-preserved-in-Less : goal.loop-low-preserved-in-Less
loop-low-preserved-in-Less c =
    let name = c.args.name.now in
    let middle = c.loop-low.low + (c.loop-low.high - c.loop-low.low) / 2 in
    let less : middle < length operations = omega (arith, c.loop-low.invariant.0, c.loop-low-test.true) in
    let below = λ (d : Operation). ap (λ (kept : List ℕ). by_name kept name) (sym (c.name_of.ensures d)) ∙ sym c.cmp.ensures ∙ c.in-Less.is in
    (c.loop-low.invariant.0, λ k d lt. up_to_below operations name middle operations-names_rise less below k d (omega (arith, lt)), c.loop-low.invariant.2)

pub overflow_cast-result : goal.overflow_cast-result
overflow_cast-result c = omega (arith, c.loop-low.invariant.0, c.loop-low-test.true, operations-length, rows-few)

pub returns-in-Equal : goal.returns-in-Equal
returns-in-Equal c =
    let name = c.args.name.now in
    let middle = c.loop-low.low + (c.loop-low.high - c.loop-low.low) / 2 in
    let less : middle < length operations = omega (arith, c.loop-low.invariant.0, c.loop-low-test.true) in
    position_found operations name middle operations-names_rise less
    (λ d. ap (λ (kept : List ℕ). by_name kept name) (sym (c.name_of.ensures d)) ∙ sym c.cmp.ensures ∙ c.in-Equal.is)

pub loop-low-preserved : goal.loop-low-preserved
loop-low-preserved c =
    let name = c.args.name.now in
    let middle = c.loop-low.low + (c.loop-low.high - c.loop-low.low) / 2 in
    let at = λ (d : Operation). ap (λ (kept : List ℕ). by_name kept name) (sym (c.name_of.ensures d)) ∙ sym c.cmp.ensures ∙ c.in-Greater.is in
    (omega (arith, c.loop-low.invariant.0, c.loop-low-test.true), c.loop-low.invariant.1, from_above operations name middle operations-names_rise at)

pub returns : goal.returns
returns c = position_none operations c.args.name.now c.loop-low.low c.loop-low.invariant.1 (λ k d le lt. c.loop-low.invariant.2 k d (omega (arith, le, c.loop-low-test.false)) lt)
