use Rattle.std.proofs.Common.{◌≤◌, ◌∙◌, refl, sym, arith}
use Rattle.std.proofs.lemmas.Bool.{false≢true}
use Rattle.ir_text_run.proofs.TextLines.{none_counted, one_counted, counted_here, divided_there, all_passed, all_counted}
use Rattle.ir_text_run.proofs.text_parts.first_part.Goals as goal

pub loop-at-init : goal.loop-at-init
loop-at-init c = none_counted c.args.text.now

pub returns-then-is_divider-clause-divided : goal.returns-then-is_divider-clause-divided
returns-then-is_divider-clause-divided c =
    let after : c.loop-at.at ≤ c.line_end-end.result = omega (arith, c.line_end-end.ensures.after) in
    divided_there c.args.text.now c.loop-at.at c.line_end-end.result after c.loop-at.invariant.passed c.line_end-end.ensures.line (c.is_divider.ensures.0 c.if-is_divider.true)

pub returns-then-is_divider-clause-lines : goal.returns-then-is_divider-clause-lines
returns-then-is_divider-clause-lines c = counted_here c.args.text.now c.loop-at.at c.loop-at.lines c.loop-at.invariant

pub loop-at-preserved : goal.loop-at-preserved
loop-at-preserved c =
    one_counted c.args.text.now c.loop-at.at c.line_end-end.result c.loop-at.lines c.line_end-end.ensures.after c.loop-at.invariant c.line_end-end.ensures.line (λ is. false≢true (sym c.if-is_divider.false ∙ c.is_divider.ensures.1 is))

pub returns-clause-divided : goal.returns-clause-divided
returns-clause-divided c = (refl, all_passed c.args.text.now c.loop-at.at (omega (arith, c.loop-at-test.false)) c.loop-at.invariant.passed)

pub returns-clause-lines : goal.returns-clause-lines
returns-clause-lines c = all_counted c.args.text.now c.loop-at.at c.loop-at.lines (omega (arith, c.loop-at-test.false)) c.loop-at.invariant
