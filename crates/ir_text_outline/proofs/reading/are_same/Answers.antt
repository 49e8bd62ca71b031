use Rattle.std.proofs.Common.{◌≡◌, ◌≤◌, length, rules, arith, refl}
use Rattle.std.proofs.lemmas.List.{ext_get_or}
use Rattle.ir_text_names.specs.Rows.{no_row}
use Rattle.ir_text_outline.proofs.reading.are_same.Goals as goal

pub returns : goal.returns
returns c =
    let l = c.loop-at in
    let one = c.args.one.now in
    let other = c.args.other.now in
    let long : length one ≡ length other = search rules in
    let past : length one ≤ l.at = search rules in
    (λ yes. ext_get_or no_row one other long (λ i less. l.invariant i (omega (arith, less, past))), λ same. refl)
