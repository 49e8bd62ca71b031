use Rattle.std.proofs.Common.{◌≡◌, ◌+◌, ◌∙◌, suc, drop, slice_index_or, Some, None, sym, subst, arith}
use Rattle.ir_core_erasing.specs.Walks.{before_from}
use Rattle.ir_core_erasing.proofs.Siblings.{scan-here, scan-on, scan-end}
use Rattle.ir_core_erasing.proofs.walk.first_before.Goals as goal

pub returns-then-eq : goal.returns-then-eq
returns-then-eq c =
    sym (c.loop-here.invariant ∙ scan-here c.args.items.now c.loop-here.here-index _ c.args.item c.loop-here.previous c.loop-here-test.true (sym c.eq.ensures ∙ c.if-eq.true))

pub loop-here-preserved : goal.loop-here-preserved
loop-here-preserved c =
    let next : suc c.loop-here.here-index ≡ c.loop-here.here-index + 1 = omega arith in
    subst (λ k. before_from None c.args.item c.args.items.now ≡ before_from (Some (slice_index_or c.args.items.now c.loop-here.here-index (record { slot = 0; version = 0 }))) c.args.item (drop k c.args.items.now)) next
    (c.loop-here.invariant ∙ scan-on c.args.items.now c.loop-here.here-index _ c.args.item c.loop-here.previous c.loop-here-test.true (sym c.eq.ensures ∙ c.if-eq.false))

pub returns : goal.returns
returns c =
    sym (c.loop-here.invariant ∙ scan-end c.args.items.now c.loop-here.here-index c.args.item c.args.item c.loop-here.previous (omega arith))
