use Rattle.std.proofs.Common.{rules, ◌≤◌, ◌<◌, ◌+◌, ◌^◌, length, take, sym, subst, arith}
use Rattle.ir_text_run.proofs.LinesTold.{line_bounded}
use Rattle.ir_text_run.proofs.telling.write_place.Goals as goal

pub overflow_add-lines : goal.overflow_add-lines
overflow_add-lines g c =
    let at = c.in-Some.at in
    let front = take at c.args.text.now in
    let low : c.line_and_column-line.result.0 ≤ 1 + length front = subst (λ p. p.0 ≤ 1 + length front) (sym c.line_and_column-line.ensures) (line_bounded 1 1 front) in
    let short : length front ≤ length c.args.text.now = search (rules, arith) in
    let room : c.args.lines + length c.args.text.now + 1 < 2 ^ 64 = c.requires.room in
    omega (arith, low, short, room)
