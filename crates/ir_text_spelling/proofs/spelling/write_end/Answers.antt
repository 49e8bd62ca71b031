use Rattle.std.proofs.Common.{rules, ◌≡◌, Err, ◌∙◌}
use Rattle.ir_text_spelling.specs.Marks.{closing, to_line_end}
use Rattle.ir_text_spelling.proofs.WritingSteps.{ending_broke, ending_wrote}
use Rattle.ir_text_spelling.proofs.spelling.write_end.Goals as goal

pub returns-in_err-write_bytes-in-Some : goal.returns-in_err-write_bytes-in-Some
returns-in_err-write_bytes-in-Some g c =
    let a = g.W.Write.contents c.args.output.now in
    let b = g.W.Write.contents c.write_bytes-in-Some.new.output in
    let f = c.in_err-write_bytes-in-Some.field-0.0 in
    let is : c.from_residual.result ≡ Err f = search rules in
    let closes : c.as_bytes.result.now ≡ closing c.in-Some.last = c.as_bytes.ensures.value ∙ c.closing.ensures in
    rw is (ending_broke a b c.args.last c.in-Some.last c.as_bytes.result.now c.in-Some.is closes c.in_err-write_bytes-in-Some.ensures)

pub returns-in_ok-write_bytes-in-Some : goal.returns-in_ok-write_bytes-in-Some
returns-in_ok-write_bytes-in-Some g c =
    let a = g.W.Write.contents c.args.output.now in
    let b = g.W.Write.contents c.write_bytes-in-Some.new.output in
    let d = g.W.Write.contents c.write_bytes-in-Some-2.new.output in
    let closes : c.as_bytes.result.now ≡ closing c.in-Some.last = c.as_bytes.ensures.value ∙ c.closing.ensures in
    let ends : c.as_bytes-in-Some.result.now ≡ to_line_end c.in-Some.last = c.as_bytes-in-Some.ensures.value ∙ c.to_line_end.ensures in
    ending_wrote a b d c.args.last c.in-Some.last c.as_bytes.result.now c.as_bytes-in-Some.result.now c.write_bytes-in-Some-2.result c.in-Some.is closes ends c.in_ok-write_bytes-in-Some.ensures c.write_bytes-in-Some-2.ensures
