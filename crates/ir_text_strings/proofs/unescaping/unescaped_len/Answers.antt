use Rattle.std.proofs.Common.{◌≡◌, ℕ, suc, ◌+◌, ◌≤◌, ◌∷◌, List, length, drop, sym, ap, ◌∙◌, arith}
use Rattle.ir_text_strings.specs.Escapes.{unescaped}
use Rattle.ir_text_strings.proofs.FirstBytes.{next_byte, passed_over, unescaped_end}
use Rattle.ir_text_strings.proofs.unescaping.unescaped_len.Goals as goal
use Rattle.ir_text_strings.proofs.unescaping.unescaped_len.Goals.{then-more-gt0, else-more-gt0}

one_more : (count here later all : ℕ) → here ≡ suc later → count + here ≡ all → count + 1 + later ≡ all
one_more count here later all e h = omega (arith, e, h)

few_more : (n m : ℕ) → n ≤ m → n ≤ m + 1
few_more n m h = omega (arith, h)

one_few_more : (n m : ℕ) → n ≤ m → n + 1 ≤ m + 1
one_few_more n m h = omega (arith, h)

none_left : (count left all : ℕ) → left ≡ 0 → count + left ≡ all → count ≡ all
none_left count left all e h = omega (arith, e, h)

pub loop-at-preserved : goal.loop-at-preserved
loop-at-preserved c =
    let l = c.loop-at in
    let text = c.args.text.now in
    elim c.if-more-gt0.branch [
      | then-more-gt0 w ↦ rw (w.count-is, w.more-is) (record {
        counted = ap (λ (t : List ℕ). l.count + length t) (sym (passed_over text l.at l.more w.if-more-gt0.true)) ∙ l.invariant.counted;
        few = few_more l.count l.at l.invariant.few;
      })
      | else-more-gt0 w ↦
          let first = w.first_spelled-first.result in
          let here : unescaped (drop (l.at + l.more) text) ≡ first.byte ∷ unescaped (drop (l.at + 1 + first.more) text) =
          next_byte text l.at l.more first.byte first.more w.byte_at.result w.byte_at-else-more-gt0.result c.loop-at-test.true w.if-more-gt0.false w.byte_at.ensures w.byte_at-else-more-gt0.ensures w.first_spelled-first.ensures.byte w.first_spelled-first.ensures.more in
          rw (w.count-is, w.more-is) (record {
            counted = one_more l.count (length (unescaped (drop (l.at + l.more) text))) (length (unescaped (drop (l.at + 1 + first.more) text))) (length (unescaped text)) (ap length here) l.invariant.counted;
            few = one_few_more l.count l.at l.invariant.few;
          })
    ]

pub returns : goal.returns
returns c =
    let l = c.loop-at in
    let text = c.args.text.now in
    none_left l.count (length (unescaped (drop (l.at + l.more) text))) (length (unescaped text)) (ap length (unescaped_end text l.at l.more c.loop-at-test.false)) l.invariant.counted
