use Rattle.std.proofs.Common.{rules, ◌≡◌, Err, ap, ◌∙◌}
use Rattle.ir_text_spelling.specs.Marks.{opening, levels, blanks}
use Rattle.ir_text_spelling.proofs.WritingSteps.{opening_broke, opening_wrote}
use Rattle.ir_text_spelling.proofs.spelling.write_opening.Goals as goal

pub returns-in_err-write_bytes : goal.returns-in_err-write_bytes
returns-in_err-write_bytes g c =
    let a = g.W.Write.contents c.args.output.now in
    let b = g.W.Write.contents c.write_bytes.new.output in
    let f = c.in_err-write_bytes.field-0.0 in
    let is : c.from_residual.result ≡ Err f = search rules in
    let opens : c.as_bytes.result.now ≡ opening c.args.last c.args.next = c.as_bytes.ensures.value ∙ c.opening.ensures in
    rw is (opening_broke a b c.args.last c.args.next c.as_bytes.result.now (blanks (levels c.args.depth c.args.next)) opens c.in_err-write_bytes.ensures)

pub returns : goal.returns
returns g c =
    let a = g.W.Write.contents c.args.output.now in
    let b = g.W.Write.contents c.write_bytes.new.output in
    let d = g.W.Write.contents c.write_blanks.new.output in
    let opens : c.as_bytes.result.now ≡ opening c.args.last c.args.next = c.as_bytes.ensures.value ∙ c.opening.ensures in
    opening_wrote a b d c.args.last c.args.next c.as_bytes.result.now (blanks c.levels.result) (blanks (levels c.args.depth c.args.next)) c.write_blanks.result opens (ap blanks c.levels.ensures) c.in_ok-write_bytes.ensures c.write_blanks.ensures
