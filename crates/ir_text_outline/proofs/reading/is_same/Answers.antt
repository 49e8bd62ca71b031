use Rattle.std.proofs.Common.{◌≡◌, ◌≤◌, length, None, slice_index_or, below_more, rules, arith, refl}
use Rattle.std.proofs.lemmas.List.{ext_get_or}
use Rattle.ir_text_outline.proofs.reading.is_same.Goals as goal

pub loop-at-init : goal.loop-at-init
loop-at-init c = λ i less. absurd (omega (arith, less))

pub loop-at-preserved : goal.loop-at-preserved
loop-at-preserved c =
    let l = c.loop-at in
    let one = c.args.one.now in
    let other = c.args.other.now in
    let here : slice_index_or one l.at None ≡ slice_index_or other l.at None = search rules in
    below_more (λ i. slice_index_or one i None ≡ slice_index_or other i None) l.at l.invariant here

pub returns : goal.returns
returns c =
    let l = c.loop-at in
    let one = c.args.one.now in
    let other = c.args.other.now in
    let long : length one ≡ length other = search rules in
    let past : length one ≤ l.at = omega (arith, c.loop-at-test.false, c.len-at-end.ensures) in
    (λ yes. ext_get_or None one other long (λ i less. l.invariant i (omega (arith, less, past))), λ same. refl)
