use Rattle.std.proofs.Common.{◌≡◌, ℕ, length, sym, subst, ◌∙◌, arith}
use Rattle.ir_text_tokens.proofs.NextTokens.{Passes, passes_more}
use Rattle.ir_text_tokens.proofs.scanning.run_end.Goals as goal

pub loop-at-init : goal.loop-at-init
loop-at-init c = record {
  passes = λ start glued s less. absurd (omega (arith, less));
  forward = omega arith;
}

pub loop-at-preserved : goal.loop-at-preserved
loop-at-preserved c =
    let l = c.loop-at in
    record {
      passes = passes_more c.args.text.now c.args.mode c.args.from l.at l.invariant.forward c.loop-at-test.true (sym c.stays.ensures ∙ c.if-not-stays.false) l.invariant.passes;
      forward = omega (arith, l.invariant.forward);
    }

pub returns-clause-passes : goal.returns-clause-passes
returns-clause-passes c =
    let l = c.loop-at in
    let end : l.at ≡ length c.args.text.now = omega arith in
    subst (λ (n : ℕ). Passes c.args.text.now c.args.mode c.args.from n) end l.invariant.passes

pub returns-then-not-stays-clause-passes : goal.returns-then-not-stays-clause-passes
returns-then-not-stays-clause-passes c = let l = c.loop-at in l.invariant.passes
